-- What the operands of instructions and of DC give.
use Rattle.std.specs.Prelude.{◌≡◌, ℕ, Bool, List, Option}
use Rattle.omf_format.specs.Field.{◌>>=◌}
use Rattle.orca_meaning.specs.declared.mnemonics.Mnemonic.{Mnemonic}
use Rattle.orca_meaning.specs.Operand.{Meaning}
use Rattle.asm_meaning.specs.Answer.{Answer, all_of}
use Rattle.asm_meaning.specs.Constant.{Constants}
use Rattle.asm_meaning.specs.Elements.{Element, AreElements, IsList, element_pieces, list_pieces}
use Rattle.asm_meaning.specs.Instruction.{Widths, instruction}
use Rattle.asm_meaning.specs.Pieces.{Piece}
use Rattle.asm_meaning.specs.Statement.{IsOperandOf}

-- the operand that the text of an instruction's is, and what the instruction gives with it
pub record IsByInstruction (constants : Constants) (widths : Widths) (mnemonic : Mnemonic) (text : List ℕ) (answer : Answer (List Piece)) : Type 0 where
  pub operand : Answer Meaning
  pub is : IsOperandOf mnemonic text operand
  pub gives : answer ≡ (operand >>= instruction constants widths mnemonic)

-- the list that the text of DC's operand is, and what it gives
pub record IsByList (constants : Constants) (msb : Bool) (text : List ℕ) (answer : Answer (List Piece)) : Type 0 where
  pub found : Option (List Element)
  pub is : IsList text found
  pub gives : answer ≡ list_pieces constants msb found

-- the elements of a text, and what each of them gives
pub record HasElements (constants : Constants) (msb : Bool) (text : List ℕ) (answer : Answer (List (List Piece))) : Type 0 where
  pub elements : List Element
  pub are : AreElements text elements
  pub gives : answer ≡ all_of (element_pieces constants msb) elements
