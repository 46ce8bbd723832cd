-- The statements of conditional assembly, and the labels that branches go to (ORCA/M reference manual, "Conditional
-- assembly directives").
use Rattle.std.specs.Prelude.{ℕ, ◌==◌, List, [], ◌∷◌, codes, Option, Some, None, if◌then◌else◌}
use Rattle.omf_format.specs.Ascii as ascii
use Rattle.macro_meaning.specs.declared.statements.SymbolKind.TheVariants.{Number, Flag, Text}
use Rattle.macro_meaning.specs.declared.statements.Declaration.TheVariants.{Local, Shared}
use Rattle.macro_meaning.specs.declared.statements.Statement.{Statement}
use Rattle.macro_meaning.specs.declared.statements.Statement.TheVariants.{Declare, Set, Middle, BranchIf, Branch, Count, Nothing, Leave, Note, Define}
use Rattle.orca_meaning.specs.Characters.{folded}
use Rattle.orca_meaning.specs.Operation.{value_of_spelling}
use Rattle.orca_meaning.specs.Token.{Found, name_at, symbol_at}

-- the statements that don't declare or set symbols
unfoldable pub other_statements : List (List ℕ × Statement)
other_statements =
    (codes "AIF", BranchIf) ∷ (codes "AGO", Branch) ∷ (codes "ACTR", Count) ∷ (codes "ANOP", Nothing) ∷
    (codes "MEXIT", Leave) ∷ (codes "MEND", Leave) ∷ (codes "MNOTE", Note) ∷ (codes "MACRO", Define) ∷ []

-- the statements by their spellings
unfoldable pub statements : List (List ℕ × Statement)
statements =
    (codes "LCLA", Declare (Local Number)) ∷ (codes "LCLB", Declare (Local Flag)) ∷ (codes "LCLC", Declare (Local Text)) ∷
    (codes "GBLA", Declare (Shared Number)) ∷ (codes "GBLB", Declare (Shared Flag)) ∷ (codes "GBLC", Declare (Shared Text)) ∷
    (codes "SETA", Set Number) ∷ (codes "SETB", Set Flag) ∷ (codes "SETC", Set Text) ∷ (codes "AMID", Middle) ∷ other_statements

-- the statement that an operation is, in upper or lower case
unfoldable pub statement_of : List ℕ → Option Statement
statement_of operation = value_of_spelling (folded operation) statements

-- ---- names of symbols, and sequence symbols

-- what was found, where nothing follows it
abbrev pub whole_match : Found (List ℕ) → Option (List ℕ)
whole_match None = None
whole_match (Some (name, [])) = Some name
whole_match (Some (name, byte ∷ following)) = None

-- `&NAME` and nothing else: the name, in upper case
abbrev pub symbol_name : List ℕ → Option (List ℕ)
symbol_name text = whole_match (symbol_at text)

-- `.NAME` and nothing else: the name of a sequence symbol, in upper case
abbrev pub sequence_name : List ℕ → Option (List ℕ)
sequence_name text = whole_match (elim text [ [] ↦ None | byte ∷ following ↦ if byte == ascii.dot then name_at following else None ])

-- where a branch goes: a sequence symbol, maybe after a `^`
abbrev pub target_name : List ℕ → Option (List ℕ)
target_name [] = None
target_name (byte ∷ following) = if byte == ascii.caret then sequence_name following else sequence_name (byte ∷ following)
