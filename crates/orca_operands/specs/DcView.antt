-- What is read of DC's operand, as it is kept.
use Rattle.std.specs.Prelude.{◌≡◌, ◌≤◌, ℕ, Bool, List, [], ◌∷◌, ◌++◌, length, Option, Some, None, Result, Ok, Err}
use Rattle.omf_format.specs.Field.{◌>>=◌}
use Rattle.omf_format.specs.Expression.{Term, Tree, terms_of}
use Rattle.orca_meaning.specs.declared.operators.Operands.TheVariants.{Labels}
use Rattle.orca_meaning.specs.Formula.{MeansAt, has_large}
use Rattle.orca_meaning.specs.Token.{digits_at}
use Rattle.orca_text.specs.Kept.{kept_terms}
use Rattle.asm_meaning.specs.declared.faults.AsmCause.{AsmCause}
use Rattle.asm_meaning.specs.declared.faults.AsmCause.TheVariants.{BadNumber}
use Rattle.asm_meaning.specs.Answer.{Answer, pair_or_earlier_fault, earlier, all_of}
use Rattle.asm_meaning.specs.Constant.{Constants}
use Rattle.asm_meaning.specs.Elements as meaning
use Rattle.asm_meaning.specs.Elements.{Repeat, Digits, ElementValue, Element, IsRepeatAt, IsValueAt, IsElementAt, in_range, count_of, piece_of_number, value_pieces, element_pieces}
use Rattle.asm_meaning.specs.Formulas.{AreFormulas, number_of}
use Rattle.asm_meaning.specs.Pieces.{Piece, copies}
use Rattle.orca_operands.specs.declared.encoding.RepeatedPieces.{RepeatedPieces}
use Rattle.orca_operands.specs.declared.piece.Piece as piece_type
use Rattle.orca_operands.specs.GivenView.{part_pieces}
use Rattle.orca_operands.specs.PieceView.{piece}

-- ---- one answer after another

-- an answer with this of what it gives
abbrev pub map_answer : {T B : Type 0} → (T → B) → Result T AsmCause → Answer B
map_answer v (Ok x) = Ok (v x)
map_answer v (Err cause) = Err cause

-- the fault that is reported after one more answer
abbrev pub fault_after : {T : Type 0} → Option AsmCause → Result T AsmCause → Option AsmCause
fault_after None (Ok x) = None
fault_after None (Err cause) = Some cause
fault_after (Some before) (Ok x) = Some before
fault_after (Some before) (Err cause) = Some (earlier before cause)

-- what was given so far, with one more
abbrev pub all_following : {T : Type 0} → List T → Result T AsmCause → List T
all_following out (Ok x) = out ++ x ∷ []
all_following out (Err cause) = out

-- all that was given, unless there is a fault
abbrev pub all_or : {T : Type 0} → Option AsmCause → T → Result T AsmCause
all_or None out = Ok out
all_or (Some cause) out = Err cause

-- ---- formulas

-- these terms were kept of a formula of a line
pub record IsKeptOf (terms : List Term) (large : Bool) (tree : Tree) : Type 0 where
  pub text : List ℕ
  pub rest : List ℕ
  pub short : length text ≤ 255
  pub means : MeansAt Labels text tree rest
  pub kept : terms ≡ kept_terms (terms_of tree)
  pub large_is : large ≡ has_large tree

-- a piece, or the fault
abbrev pub piece_answer : Result piece_type.Piece AsmCause → Answer Piece
piece_answer answer = map_answer piece answer

-- the formulas of a text, and the numbers of a given number of bytes that they give
pub record HasNumbers (constants : Constants) (width : ℕ) (text : List ℕ) (answer : Answer (List Piece)) : Type 0 where
  pub trees : List Tree
  pub are : AreFormulas text trees
  pub gives : answer ≡ all_of (piece_of_number constants width) trees

-- ---- counts

-- a formula in parentheses, after the opening one
pub record IsComputed (constants : Constants) (following : List ℕ) (answer : Answer ℕ) (rest : List ℕ) : Type 0 where
  pub tree : Tree
  pub means : MeansAt Labels following tree (0x29 ∷ rest)
  pub gives : answer ≡ (number_of constants tree >>= in_range)

-- decimal digits
pub record IsCounted (text : List ℕ) (answer : Answer ℕ) (rest : List ℕ) : Type 0 where
  pub n : ℕ
  pub is : digits_at 10 text ≡ Some (n, rest)
  pub gives : (constants : Constants) → answer ≡ count_of constants (Digits n)

-- the repeat count of an element
pub record HasCount (constants : Constants) (text : List ℕ) (answer : Answer ℕ) (rest : List ℕ) : Type 0 where
  pub repeat : Repeat
  pub is : IsRepeatAt text repeat rest
  pub gives : answer ≡ count_of constants repeat

-- a count, which is 1 to 65,535
abbrev pub checked_count : Answer ℕ → Answer ℕ
checked_count n = n >>= in_range

-- a count of digits, of which none is too large a number
abbrev pub count_by : Option ℕ → Answer ℕ
count_by (Some n) = in_range n
count_by None = Err BadNumber

-- ---- values and elements

-- a value of this type is at the start of the text, and gives these pieces
pub record HasValue (constants : Constants) (msb : Bool) (kind : meaning.ElementType) (text : List ℕ) (answer : Answer (List Piece)) (rest : List ℕ) : Type 0 where
  pub value : ElementValue
  pub is : IsValueAt kind text value rest
  pub gives : answer ≡ value_pieces constants msb value

-- no value of this type is at the start of the text
abbrev pub HasNoValue : meaning.ElementType → List ℕ → Type 0
HasNoValue kind text = (value : ElementValue) (rest : List ℕ) → IsValueAt kind text value rest → ⊥

-- an element is at the start: what it gives, and what follows it
pub record HasElement (constants : Constants) (msb : Bool) (text : List ℕ) (answer : Answer (List Piece)) (rest : List ℕ) : Type 0 where
  pub element : Element
  pub is : IsElementAt text element rest
  pub gives : answer ≡ element_pieces constants msb element

-- the pieces, repeated by the count
abbrev pub repeated_pieces : Answer ℕ → Answer (List Piece) → Answer (List Piece)
repeated_pieces count pieces = pair_or_earlier_fault count pieces >>= λ found. Ok (copies found.0 found.1)

-- the pieces of an element, or the fault
abbrev pub part_answer : Result RepeatedPieces AsmCause → Answer (List Piece)
part_answer answer = map_answer part_pieces answer
