-- Definitions in order, whose expressions are kept apart.
use Rattle.std.specs.Prelude.{ℕ, ◌+◌, List, [], ◌∷◌, Option, None, option_map, nat_eq, if◌then◌else◌}
use Rattle.std.specs.Borrow.{Bor}
use Rattle.indexmap.specs.IndexMap.{IndexMap, get}
use Rattle.link_tables.specs.declared.definitions.Defined as kept
use Rattle.link_tables.specs.declared.listed.DefinitionMark.{DefinitionMark}

-- what is kept of a definition: its member's place, its own place there, its expression, its length and type
pub record DefinitionRow : Type 0 where
  pub member : ℕ
  pub at : ℕ
  pub expr : Option (List ℕ)
  pub length : ℕ
  pub form : ℕ

abbrev pub definition_of : kept.Defined → DefinitionRow
definition_of d = record { member = d.member; at = d.at; expr = option_map (λ text. text.now) d.expr; length = d.length; form = d.form }

-- the expression with a number
abbrev pub expr_at : {S : Type 0} → IndexMap ℕ (Bor (List ℕ)) S → ℕ → Option (List ℕ)
expr_at exprs number = option_map (λ text. text.now) (get nat_eq exprs number)

abbrev pub row_of : (ℕ → Option (List ℕ)) → ℕ → DefinitionMark → DefinitionRow
row_of exprs number mark = record { member = mark.member; at = mark.at; expr = if mark.is_equate then exprs number else None; length = mark.length; form = mark.form }

-- definitions, where the first has this number
abbrev pub rows_from : (ℕ → Option (List ℕ)) → ℕ → List DefinitionMark → List DefinitionRow
rows_from exprs number [] = []
rows_from exprs number (mark ∷ marks) = row_of exprs number mark ∷ rows_from exprs (number + 1) marks
