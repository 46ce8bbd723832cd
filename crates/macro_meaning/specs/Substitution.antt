-- Symbols in a line, and the texts that replace them (ORCA/M reference manual, "Symbolic parameters").
use Rattle.std.specs.Prelude.{ℕ, zero, suc, ◌+◌, ◌-◌, Bool, true, false, ◌||◌, ◌&&◌, ◌==◌, nat_le, nat_lt, List, [], ◌∷◌, ◌++◌, take, drop, slice_index, Option, Some, None, if◌then◌else◌, is_none}
use Rattle.std.specs.Char.{to_ascii_uppercase}
use Rattle.std.specs.List.{prefix_len}
use Rattle.omf_format.specs.Ascii as ascii
use Rattle.orca_meaning.specs.declared.lines.Span.{Span}
use Rattle.orca_meaning.specs.Characters.{is_letter, is_name_start, is_name_byte, folded}
use Rattle.orca_meaning.specs.Quotes.{quote_after}
use Rattle.orca_meaning.specs.Line.{LineFields, part}
use Rattle.macro_meaning.specs.declared.statements.SymbolKind.TheVariants.{Number, Flag}
use Rattle.macro_meaning.specs.declared.statements.Statement.{Statement}
use Rattle.macro_meaning.specs.declared.statements.Statement.TheVariants.{Declare, Set, Middle, BranchIf, Count, Note}
use Rattle.macro_meaning.specs.Statements.{statement_of}

-- what `&NAME` is at a place: the symbol's text replaces it; or it names the symbol, which must be declared; or it
-- names one that is declared there
pub data Naming : Type 0 where
  Replaced : Naming
  Named : Naming
  Declared : Naming

-- ---- which it is

-- a place lies in a field
abbrev pub lies_in : Span → ℕ → Bool
lies_in field at = nat_le field.from at && nat_lt at field.to

-- `L:` or `C:` is directly before a place of a field, outside its quotes
abbrev pub is_asked : List ℕ → Span → ℕ → Bool
is_asked text field at =
    let letter = to_ascii_uppercase (slice_index text (at - 2)) in
    nat_le (field.from + 2) at && nat_lt at field.to && ((letter == ascii.capital_l || letter == ascii.capital_c) && slice_index text (at - 1) == ascii.colon)
    && is_none (quote_after None (take (at - field.from) (drop field.from text)))

-- the statements whose operand may ask for `L:&NAME` and `C:&NAME`
abbrev pub may_ask : Statement → Bool
may_ask (Set Number) = true
may_ask (Set Flag) = true
may_ask Middle = true
may_ask BranchIf = true
may_ask Count = true
may_ask Note = true
may_ask _ = false

-- the statements that set the symbol in their label
abbrev pub sets_label : Statement → Bool
sets_label (Set kind) = true
sets_label Middle = true
sets_label _ = false

-- the statements whose operand names the symbol that they declare
abbrev pub declares : Statement → Bool
declares (Declare declaration) = true
declares _ = false

-- In three places of a line `&NAME` isn't replaced: in the operand of a declaration, in the label of a statement that sets it, and
-- directly after `L:` or `C:`.
unfoldable pub naming_at : List ℕ → LineFields → ℕ → Naming
naming_at text fields at = elim (statement_of (part text fields.operation)) [
  | None ↦ Replaced
  | Some statement ↦
      if declares statement && lies_in fields.operand at then Declared
      else if sets_label statement && lies_in fields.label at then Named
      else if may_ask statement && is_asked text fields.operand at then Named
      else Replaced
]

-- ---- the text of a line

-- how long the name at the start is, and with the dot that goes with it
abbrev pub name_length : List ℕ → ℕ
name_length text = prefix_len is_name_byte text

-- how many bytes of a text go with the name at its start: those of the name, and a dot after it
unfoldable pub taken_length : List ℕ → ℕ
taken_length text = if slice_index text (name_length text) == ascii.dot then name_length text + 1 else name_length text

-- a text with these bytes before it
abbrev pub with_front : List ℕ → Option (List ℕ) → Option (List ℕ)
with_front front None = None
with_front front (Some text) = Some (front ++ text)

-- the first byte passes the test
abbrev pub first_passes : (ℕ → Bool) → List ℕ → Bool
first_passes test [] = false
first_passes test (byte ∷ following) = test byte

-- after an `&`: the text in its place, and how many of the bytes after it go with it; None where the symbol isn't declared
abbrev pub in_place : (List ℕ → Option (List ℕ)) → Naming → List ℕ → Option (List ℕ × ℕ)
in_place text_of Replaced following =
    if first_passes is_letter following
    then elim (text_of (folded (take (name_length following) following))) [ None ↦ None | Some text ↦ Some (text, taken_length following) ]
    else Some (ascii.ampersand ∷ [], 0)
in_place text_of Named following =
    if first_passes is_name_start following
    then elim (text_of (folded (take (name_length following) following))) [ None ↦ None | Some text ↦ Some (ascii.ampersand ∷ [], 0) ]
    else Some (ascii.ampersand ∷ [], 0)
in_place text_of Declared following = Some (ascii.ampersand ∷ [], 0)

-- From a place on: the text with each symbol's text in its place, from left to right. A given number of bytes at the start were
-- taken already, and the text that replaces a symbol isn't read again. None where a symbol isn't declared.
unfoldable pub substituted_from : (List ℕ → Option (List ℕ)) → (ℕ → Naming) → ℕ → ℕ → List ℕ → Option (List ℕ)
substituted_from text_of naming at taken [] = Some []
substituted_from text_of naming at (suc taken) (byte ∷ following) = substituted_from text_of naming (at + 1) taken following
substituted_from text_of naming at zero (byte ∷ following) =
    if byte == ascii.ampersand
    then elim (in_place text_of (naming at) following) [
      | None ↦ None
      | Some found ↦ with_front found.0 (substituted_from text_of naming (at + 1) found.1 following)
    ]
    else with_front (byte ∷ []) (substituted_from text_of naming (at + 1) 0 following)
