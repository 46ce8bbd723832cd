-- How the places of sequence symbols are kept.
use Rattle.std.specs.Prelude.{ℕ, List, [], ◌∷◌, Option, Some, None}
use Rattle.orca_macro.specs.declared.body.BranchTarget.{BranchTarget}
use Rattle.orca_macro.specs.declared.body.BranchTarget.TheVariants.{Once, Twice}

-- the places of a sequence symbol, as a map keeps them
abbrev pub summary : List ℕ → Option BranchTarget
summary [] = None
summary (place ∷ []) = Some (Once place)
summary (place ∷ next ∷ places) = Some Twice

-- with one more
abbrev pub with_place : ℕ → Option BranchTarget → Option BranchTarget
with_place at None = Some (Once at)
with_place at (Some target) = Some Twice
