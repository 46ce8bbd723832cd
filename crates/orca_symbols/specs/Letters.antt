-- The statements by the first letters of their spellings.
use Rattle.std.specs.Prelude.{ℕ, List, [], ◌∷◌, codes}
use Rattle.macro_meaning.specs.declared.statements.SymbolKind.TheVariants.{Number, Flag, Text}
use Rattle.macro_meaning.specs.declared.statements.Declaration.TheVariants.{Local, Shared}
use Rattle.macro_meaning.specs.declared.statements.Statement.{Statement}
use Rattle.macro_meaning.specs.declared.statements.Statement.TheVariants.{Declare, Set, Middle, BranchIf, Branch, Count, Nothing, Leave, Note, Define}

-- the statements whose spellings begin with A
unfoldable pub with_a : List (List ℕ × Statement)
with_a = (codes "AMID", Middle) ∷ (codes "AIF", BranchIf) ∷ (codes "AGO", Branch) ∷ (codes "ACTR", Count) ∷ (codes "ANOP", Nothing) ∷ []

-- those with S
unfoldable pub with_s : List (List ℕ × Statement)
with_s = (codes "SETA", Set Number) ∷ (codes "SETB", Set Flag) ∷ (codes "SETC", Set Text) ∷ []

-- those with L
unfoldable pub with_l : List (List ℕ × Statement)
with_l = (codes "LCLA", Declare (Local Number)) ∷ (codes "LCLB", Declare (Local Flag)) ∷ (codes "LCLC", Declare (Local Text)) ∷ []

-- those with M
unfoldable pub with_m : List (List ℕ × Statement)
with_m = (codes "MEXIT", Leave) ∷ (codes "MEND", Leave) ∷ (codes "MNOTE", Note) ∷ (codes "MACRO", Define) ∷ []

-- those with G
unfoldable pub with_g : List (List ℕ × Statement)
with_g = (codes "GBLA", Declare (Shared Number)) ∷ (codes "GBLB", Declare (Shared Flag)) ∷ (codes "GBLC", Declare (Shared Text)) ∷ []
