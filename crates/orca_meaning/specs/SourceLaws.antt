-- Laws of source lines, formulas and operands, in their own terms.
use Rattle.std.specs.Prelude.{◌≡◌, ℕ, ◌<◌, ◌≤◌, Bool, true, false, ◌&&◌, List, [], ◌∷◌, ◌++◌, length, take, slice_index, ◌==◌, Option, None, is_none}
use Rattle.omf_format.specs.Expression.{Tree, terms_of, terms_text, depth, IsExpression}
use Rattle.omf_format.specs.Lines.{lines_of, HasNoEnd}
use Rattle.orca_meaning.specs.declared.mnemonics.Mnemonic.{Mnemonic}
use Rattle.orca_meaning.specs.declared.operators.Operands.{Operands}
use Rattle.orca_meaning.specs.Quotes.{outside_from, quote_after}
use Rattle.orca_meaning.specs.Line.{three_fields, fields_of, HaveFields, AreParted}
use Rattle.orca_meaning.specs.Formula.{MeansAt, pending, with_location_less, has_large}
use Rattle.orca_meaning.specs.Operand.{Meaning, IsOperand}

-- ---- lines

-- bytes without LF and CR, and then LF, are a line; the lines after it are those of the rest
abbrev pub LfEndsLine : Type 0
LfEndsLine = (line following : List ℕ) → HasNoEnd line → lines_of (line ++ 0x0A ∷ following) ≡ line ∷ lines_of following

-- bytes without LF and CR, and then CR LF, are a line too
abbrev pub CrLfEndsLine : Type 0
CrLfEndsLine = (line following : List ℕ) → HasNoEnd line → lines_of (line ++ 0x0D ∷ 0x0A ∷ following) ≡ line ∷ lines_of following

-- and so are such bytes before CR, where no LF follows
abbrev pub CrEndsLine : Type 0
CrEndsLine = (line following : List ℕ) → HasNoEnd line → (slice_index following 0 == 0x0A) ≡ false
    → lines_of (line ++ 0x0D ∷ following) ≡ line ∷ lines_of following

-- bytes without an end, of which there is one at least, are a line too
abbrev pub LastNeedsNoEnd : Type 0
LastNeedsNoEnd = (byte : ℕ) (line : List ℕ) → HasNoEnd (byte ∷ line) → lines_of (byte ∷ line) ≡ (byte ∷ line) ∷ []

-- the fields of a line lie in it
abbrev pub FieldsLieInLine : Type 0
FieldsLieInLine = (text : List ℕ) → HaveFields text (fields_of text)

-- the line begins with its label, blanks, its operation, blanks and its third field, and label and operation have no blank
abbrev pub FieldsPartLine : Type 0
FieldsPartLine = (text : List ℕ) → AreParted text (three_fields text)

-- where a byte outside quotes is found, the test passes and no quote is open, and so at no byte before it
abbrev pub OutsideIsFirst : Type 0
OutsideIsFirst = (test : ℕ → Bool) (text : List ℕ) (k : ℕ) → k < length text
    → (k < outside_from test None text → (is_none (quote_after None (take k text)) && test (slice_index text k)) ≡ false)
    × (k ≡ outside_from test None text → (is_none (quote_after None (take k text)) && test (slice_index text k)) ≡ true)

-- ---- formulas

-- a text begins with a formula of at most one tree, and leaves one rest
abbrev pub OneTree : Type 0
OneTree = (operands : Operands) (text : List ℕ) (t u : Tree) (r s : List ℕ) → MeansAt operands text t r → MeansAt operands text u s
    → (t ≡ u) × (r ≡ s)

-- the terms of a formula of a line, with numbers that fit and at most 64 pending values, spell an expression
abbrev pub FormulaSpells : Type 0
FormulaSpells = (operands : Operands) (text : List ℕ) (tree : Tree) (rest : List ℕ) → length text ≤ 255 → MeansAt operands text tree rest
    → has_large tree ≡ false → depth tree ≤ 64 → IsExpression 0 (terms_text 0 (terms_of tree) ++ 0x00 ∷ [])

-- where `*` counts one, the pending values of a formula are those of its expression
abbrev pub PendingIsDepth : Type 0
PendingIsDepth = (tree : Tree) → pending 1 tree ≡ depth tree

-- where it counts two, they are those of the expression that has the location counter less a number in its place
abbrev pub PendingIsWrittenDepth : Type 0
PendingIsWrittenDepth = (back : ℕ) (tree : Tree) → pending 2 tree ≡ depth (with_location_less back tree)

-- ---- operands

-- a text is one operand at most
abbrev pub OneOperand : Type 0
OneOperand = (mnemonic : Option Mnemonic) (text : List ℕ) (a b : Meaning) → IsOperand mnemonic text a → IsOperand mnemonic text b → a ≡ b
