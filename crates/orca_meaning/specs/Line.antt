-- Source lines and their fields (ORCA/M reference manual, "The assembly language statement").
use Rattle.std.specs.Prelude.{◌≡◌, ℕ, ◌+◌, ◌-◌, ◌≤◌, Bool, true, false, not, ◌||◌, ◌==◌, nat_lt, List, [], ◌∷◌, ◌++◌, length, take, drop, slice_index, Option, Some, None, if◌then◌else◌}
use Rattle.std.specs.List.{AllByRecursion, position_or_len, list_all}
use Rattle.omf_format.specs.Ascii as ascii
use Rattle.orca_meaning.specs.declared.forms.OperandUse.{OperandUse}
use Rattle.orca_meaning.specs.declared.forms.OperandUse.TheVariants.{Never, Accumulator, Signature, Always}
use Rattle.orca_meaning.specs.declared.lines.Span.{Span}
use Rattle.orca_meaning.specs.declared.lines.TextCause.{TextCause}
use Rattle.orca_meaning.specs.declared.lines.TextCause.TheVariants.{LineTooLong, TooManyLines}
use Rattle.orca_meaning.specs.Characters.{is_blank}
use Rattle.orca_meaning.specs.Quotes.{outside_from}
use Rattle.orca_meaning.specs.Operation.{operation_use}

-- ---- fields

-- a line that is blank, or begins with `*`, `;` or `!`
abbrev pub is_comment : List ℕ → Bool
is_comment [] = true
is_comment (first ∷ following) = first == ascii.star || first == ascii.semicolon || first == ascii.exclamation || list_all is_blank (first ∷ following)

-- the places of a line's fields
pub record LineFields : Type 0 where
  pub label : Span
  pub operation : Span
  pub operand : Span

-- the place from one byte up to another
abbrev pub span : ℕ → ℕ → Span
span from to = record { from = from; to = to }

-- the bytes of a field
abbrev pub part : List ℕ → Span → List ℕ
part text s = take (s.to - s.from) (drop s.from text)

-- the place of the first blank at a place or after it, and of the first byte there that is none; the line's end where there is none
abbrev pub next_blank : List ℕ → ℕ → ℕ
next_blank text at = at + position_or_len is_blank (drop at text)

-- the place of the first byte that is no blank, at a place or after it; the line's end where there is none
abbrev pub next_ink : List ℕ → ℕ → ℕ
next_ink text at = at + position_or_len (λ byte. not (is_blank byte)) (drop at text)

-- The label begins in column 1, and blanks separate the fields. The operand is the third field, and ends at the first blank
-- outside quotes.
unfoldable pub three_fields : List ℕ → LineFields
three_fields text =
    let label_end = next_blank text 0 in
    let operation = next_ink text label_end in
    let operation_end = next_blank text operation in
    let operand = next_ink text operation_end in
    record { label = span 0 label_end; operation = span operation operation_end; operand = span operand (operand + outside_from is_blank None (drop operand text)) }

-- The operand of a line by what its operation does with one: the third field; but nothing where the operation takes no operand, or
-- where it may lack it and the third field begins with `;`, which is a comment.
abbrev pub operand_span : OperandUse → List ℕ → Span → Span
operand_span Never text third = span third.from third.from
operand_span Accumulator text third = if slice_index text third.from == ascii.semicolon then span third.from third.from else third
operand_span Signature text third = if slice_index text third.from == ascii.semicolon then span third.from third.from else third
operand_span Always text third = third

-- a comment has no fields
unfoldable pub fields_of : List ℕ → LineFields
fields_of text =
    let fields = three_fields text in
    if is_comment text then record { label = span 0 0; operation = span 0 0; operand = span 0 0 }
    else record fields { operand = operand_span (operation_use (part text fields.operation)) text fields.operand }

-- ---- lines

-- a line of a source, with its file and its number from 1
pub record Line : Type 0 where
  pub file : ℕ
  pub number : ℕ
  pub text : List ℕ
  pub fields : LineFields

-- the line of this number in this file, with the fields of its text
abbrev pub line_of : ℕ → ℕ → List ℕ → Line
line_of file number text = record { file = file; number = number; text = text; fields = fields_of text }

-- these lines, of which the first has this number
unfoldable pub numbered_lines : ℕ → ℕ → List (List ℕ) → List Line
numbered_lines file number [] = []
numbered_lines file number (text ∷ texts) = line_of file number text ∷ numbered_lines file (number + 1) texts

-- a line has at most 255 bytes, and a source at most 65,536 lines
abbrev pub line_fault : ℕ → List ℕ → Option TextCause
line_fault number text =
    if nat_lt 255 (length text) then Some LineTooLong
    else if nat_lt 65536 number then Some TooManyLines
    else None

-- the first of these lines with a fault, the first of them having this number: its number and its cause
unfoldable pub first_line_fault : ℕ → List (List ℕ) → Option (ℕ × TextCause)
first_line_fault number [] = None
first_line_fault number (text ∷ texts) = elim (line_fault number text) [ Some cause ↦ Some (number, cause) | None ↦ first_line_fault (number + 1) texts ]

-- the spans lie in the text
abbrev pub LiesIn : List ℕ → Span → Type 0
LiesIn text s = (s.from ≤ s.to) × (s.to ≤ length text)

-- the places of all three fields lie in the text
pub record HaveFields (text : List ℕ) (fields : LineFields) : Type 0 where
  pub label : LiesIn text fields.label
  pub operation : LiesIn text fields.operation
  pub operand : LiesIn text fields.operand

-- the line begins with these fields, with blanks between them; label and operation have no blank
pub record AreParted (text : List ℕ) (fields : LineFields) : Type 0 where
  pub before : List ℕ
  pub between : List ℕ
  pub following : List ℕ
  pub whole : text ≡ part text fields.label ++ (before ++ (part text fields.operation ++ (between ++ (part text fields.operand ++ following))))
  pub label : AllByRecursion (λ byte. is_blank byte ≡ false) (part text fields.label)
  pub first_blanks : AllByRecursion (λ byte. is_blank byte ≡ true) before
  pub operation : AllByRecursion (λ byte. is_blank byte ≡ false) (part text fields.operation)
  pub next_blanks : AllByRecursion (λ byte. is_blank byte ≡ true) between
