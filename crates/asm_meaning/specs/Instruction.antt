-- Instructions: which addressing mode an operand has, and what the instruction gives (WDC 65C816 data sheet, addressing
-- modes; GS/OS Reference, appendix F, expression records; the choice of the narrowest mode is this project's own).
use Rattle.std.specs.Prelude.{unwrap_or, ℕ, ◌-◌, ◌/◌, ◌^◌, Bool, true, false, ◌||◌, ◌&&◌, ◌==◌, nat_lt, nat_le, List, [], ◌∷◌, filter, find, Option, Some, None, Ok, Err, if◌then◌else◌}
use Rattle.byteorder.specs.Endian.{little_bytes}
use Rattle.omf_format.specs.declared.codes.TheConstants.{EXPR, ZEXPR, BEXPR, RELEXPR, LEXPR}
use Rattle.omf_format.specs.Field.{◌>>=◌}
use Rattle.omf_format.specs.Expression.{Tree, Leaf, Binary, Constant}
use Rattle.omf_format.specs.Record.{Record, Formula}
use Rattle.orca_meaning.specs.declared.forms.Form.{Form}
use Rattle.orca_meaning.specs.declared.forms.Form.TheVariants as forms
use Rattle.orca_meaning.specs.declared.forms.Prefix.{Prefix}
use Rattle.orca_meaning.specs.declared.forms.Prefix.TheVariants.{Bare, Less, Bar, Greater, Caret}
use Rattle.orca_meaning.specs.declared.mnemonics.Mnemonic.{Mnemonic}
use Rattle.orca_meaning.specs.declared.mnemonics.Mnemonic.TheVariants as mnemonics
use Rattle.orca_meaning.specs.declared.modes.Mode.{Mode}
use Rattle.orca_meaning.specs.declared.modes.Mode.TheVariants.{Implied, Accumulator, Immediate, Direct, DirectX, DirectY, DirectIndirect, DirectIndirectY, DirectXIndirect, DirectLong, DirectLongY, Stack, StackIndirectY, Absolute, AbsoluteX, AbsoluteY, AbsoluteIndirect, AbsoluteXIndirect, AbsoluteLongIndirect, Long, LongX, Relative8, Relative16, Move, Signature}
use Rattle.orca_meaning.specs.Formula.{with_location_less}
use Rattle.orca_meaning.specs.Length.{length_of}
use Rattle.orca_meaning.specs.Matrix.{opcode_of}
use Rattle.orca_meaning.specs.Operand.{Meaning}
use Rattle.orca_meaning.specs.Operation.{has_mode}
use Rattle.asm_meaning.specs.declared.faults.AsmCause.TheVariants.{BadMode, DoesNotFit}
use Rattle.asm_meaning.specs.Answer.{Answer, pair_or_earlier_fault}
use Rattle.asm_meaning.specs.Constant.{Constants, Amount, Known, Written, amount, tree_of_amount}
use Rattle.asm_meaning.specs.Formulas.{expression_text}
use Rattle.asm_meaning.specs.Pieces.{Piece, Bytes, Whole}

-- the widths of the registers: whether the accumulator has 16 bits, and whether the index registers have
pub record Widths : Type 0 where
  pub long_a : Bool
  pub long_i : Bool

-- how many bytes the operand of an instruction has
unfoldable pub operand_bytes : Widths → Mnemonic → Mode → ℕ
operand_bytes widths mnemonic mode = length_of mnemonic mode widths.long_a widths.long_i - 1

-- ---- modes

-- the modes of a form, the narrowest address first
unfoldable pub modes_of : Form → List Mode
modes_of forms.Nothing = Implied ∷ Accumulator ∷ Signature ∷ []
modes_of forms.Accumulator = Accumulator ∷ []
modes_of forms.Immediate = Immediate ∷ Signature ∷ []
modes_of forms.Plain = Relative8 ∷ Relative16 ∷ Signature ∷ Direct ∷ Absolute ∷ Long ∷ []
modes_of forms.IndexX = DirectX ∷ AbsoluteX ∷ LongX ∷ []
modes_of forms.IndexY = DirectY ∷ AbsoluteY ∷ []
modes_of forms.IndexS = Stack ∷ []
modes_of forms.Paren = DirectIndirect ∷ AbsoluteIndirect ∷ []
modes_of forms.ParenY = DirectIndirectY ∷ []
modes_of forms.ParenX = DirectXIndirect ∷ AbsoluteXIndirect ∷ []
modes_of forms.ParenSY = StackIndirectY ∷ []
modes_of forms.Bracket = DirectLong ∷ AbsoluteLongIndirect ∷ []
modes_of forms.BracketY = DirectLongY ∷ []
modes_of forms.Pair = Move ∷ []
modes_of forms.Other = []

-- what an operand is in the instruction: nothing, a value, an address or a stack offset of a given number of bytes, a distance of a given number of
-- bytes, two banks, or a signature
pub data OperandKind : Type 0 where
  Missing : OperandKind
  Value : OperandKind
  Address : (bytes : ℕ) → OperandKind
  Distance : (bytes : ℕ) → OperandKind
  Banks : OperandKind
  Sign : OperandKind

-- what the operand is in each mode
unfoldable pub kind_of : Mode → OperandKind
kind_of Implied = Missing
kind_of Accumulator = Missing
kind_of Immediate = Value
kind_of Direct = Address 1
kind_of DirectX = Address 1
kind_of DirectY = Address 1
kind_of DirectIndirect = Address 1
kind_of DirectIndirectY = Address 1
kind_of DirectXIndirect = Address 1
kind_of DirectLong = Address 1
kind_of DirectLongY = Address 1
kind_of Stack = Address 1
kind_of StackIndirectY = Address 1
kind_of Absolute = Address 2
kind_of AbsoluteX = Address 2
kind_of AbsoluteY = Address 2
kind_of AbsoluteIndirect = Address 2
kind_of AbsoluteXIndirect = Address 2
kind_of AbsoluteLongIndirect = Address 2
kind_of Long = Address 3
kind_of LongX = Address 3
kind_of Relative8 = Distance 1
kind_of Relative16 = Distance 2
kind_of Move = Banks
kind_of Signature = Sign

-- an address of n bytes
abbrev pub is_address : ℕ → OperandKind → Bool
is_address n (Address bytes) = bytes == n
is_address _ _ = false

-- the operand is a value
abbrev pub is_value : OperandKind → Bool
is_value Value = true
is_value _ = false

-- A prefix of an address asks for one of one byte (`<`), two (`|`, `!`) or three (`>`). After `#` it says which part of a
-- value is meant.
abbrev pub is_asked : Prefix → OperandKind → Bool
is_asked Bare kind = true
is_asked Less kind = is_value kind || is_address 1 kind
is_asked Bar kind = is_address 2 kind
is_asked Greater kind = is_value kind || is_address 3 kind
is_asked Caret kind = is_value kind

-- the modes of a form and a prefix that a mnemonic has
unfoldable pub modes_of_form : Mnemonic → Form → Prefix → List Mode
modes_of_form mnemonic form prefix = filter (λ mode. has_mode mnemonic mode && is_asked prefix (kind_of mode)) (modes_of form)

-- ---- constants

-- a value without a prefix fits its bytes as an unsigned number or as one in two's complement of 32 bits
abbrev pub fits_value : Prefix → ℕ → ℕ → Bool
fits_value Bare width n = nat_lt n (256 ^ width) || nat_le (2 ^ 32 - 256 ^ width / 2) n
fits_value _ width n = true

-- whether the operand can be this number in a given number of bytes: an address, a bank and a signature as an unsigned one; a branch
-- leaves that to the linker
abbrev pub is_operand_of_width : Prefix → OperandKind → ℕ → ℕ → Bool
is_operand_of_width prefix Missing width n = false
is_operand_of_width prefix Value width n = fits_value prefix width n
is_operand_of_width prefix (Address bytes) width n = nat_lt n (256 ^ width)
is_operand_of_width prefix (Distance bytes) width n = true
is_operand_of_width prefix Banks width n = nat_lt n 256
is_operand_of_width prefix Sign width n = nat_lt n (256 ^ width)

-- a constant takes the first mode that holds it
abbrev pub mode_of_number : Widths → Mnemonic → Prefix → ℕ → List Mode → Answer Mode
mode_of_number widths mnemonic prefix n modes =
    elim (find (λ mode. is_operand_of_width prefix (kind_of mode) (operand_bytes widths mnemonic mode) n) modes) [ Some mode ↦ Ok mode | None ↦ Err DoesNotFit ]

-- the mode that was found, or else the first
abbrev pub or_first : Mode → Option Mode → Mode
or_first first None = first
or_first first (Some found) = found

-- ---- what is written

-- the last expression operator of `#>` and `#^` is a shift to the right
abbrev pub with_right_shift : ℕ → Tree → Tree
with_right_shift count tree = if count == 0 then tree else Binary 0x07 tree (Leaf (Constant (2 ^ 32 - count)))

-- the shift of an operand: `#>` means the value shifted right by 8, and `#^` by 16
abbrev pub shift_in : OperandKind → Prefix → ℕ
shift_in Value Greater = 8
shift_in Value Caret = 16
shift_in _ _ = 0

-- JSL and JML, whose address has three bytes
abbrev pub is_long_jump : Mnemonic → Bool
is_long_jump mnemonics.Jsl = true
is_long_jump mnemonics.Jml = true
is_long_jump _ = false

-- EXPR is $EB, ZEXPR $EC, BEXPR $ED and LEXPR $F3
abbrev pub address_code : Mnemonic → ℕ → ℕ
address_code mnemonic bytes =
    if bytes == 1 then ZEXPR else if bytes == 2 then BEXPR else if is_long_jump mnemonic then LEXPR else EXPR

-- The record of an operand of a given number of bytes: ZEXPR of an address of one byte, BEXPR of two, LEXPR of three after JSL and
-- JML; RELEXPR of a distance, which is counted from its own end; EXPR of all others.
abbrev pub operand_record : Mnemonic → OperandKind → ℕ → Tree → Record
operand_record mnemonic Missing width tree = Formula EXPR width 0 (expression_text tree)
operand_record mnemonic Value width tree = Formula EXPR width 0 (expression_text tree)
operand_record mnemonic (Address bytes) width tree = Formula (address_code mnemonic bytes) width 0 (expression_text tree)
operand_record mnemonic (Distance bytes) width tree = Formula RELEXPR width width (expression_text tree)
operand_record mnemonic Banks width tree = Formula EXPR width 0 (expression_text tree)
operand_record mnemonic Sign width tree = Formula EXPR width 0 (expression_text tree)

-- the operand is a distance
abbrev pub is_distance : OperandKind → Bool
is_distance (Distance bytes) = true
is_distance _ = false

-- the opcode of a mnemonic in a mode that it has
abbrev pub opcode_in : Mnemonic → Mode → ℕ
opcode_in mnemonic mode = unwrap_or (opcode_of mnemonic mode) 0

-- all bytes of an instruction whose operand is this number
abbrev pub with_number : Mnemonic → Mode → Prefix → ℕ → ℕ → List Piece
with_number mnemonic mode prefix width n =
    Bytes (opcode_in mnemonic mode ∷ little_bytes width (n / 2 ^ shift_in (kind_of mode) prefix)) ∷ []

-- the opcode, and the record of an operand that lies one byte after the instruction's start
abbrev pub with_tree : Mnemonic → Mode → Prefix → ℕ → Tree → List Piece
with_tree mnemonic mode prefix width tree =
    Bytes (opcode_in mnemonic mode ∷ [])
    ∷ Whole (operand_record mnemonic (kind_of mode) width (with_right_shift (shift_in (kind_of mode) prefix) (with_location_less 1 tree))) ∷ []

-- a branch has its record for a constant too
abbrev pub with_known : Widths → Mnemonic → Prefix → ℕ → Mode → List Piece
with_known widths mnemonic prefix n mode =
    if is_distance (kind_of mode) then with_tree mnemonic mode prefix (operand_bytes widths mnemonic mode) (Leaf (Constant n))
    else with_number mnemonic mode prefix (operand_bytes widths mnemonic mode) n

-- An instruction with one formula in one of these modes. A formula that is no constant takes the address of two bytes where
-- there is one, and else the first mode.
unfoldable pub with_amount : Widths → Mnemonic → Prefix → Mode → List Mode → Amount → Answer (List Piece)
with_amount widths mnemonic prefix mode modes (Known n) =
    mode_of_number widths mnemonic prefix n (mode ∷ modes) >>= λ chosen. Ok (with_known widths mnemonic prefix n chosen)
with_amount widths mnemonic prefix mode modes (Written tree) =
    let chosen = or_first mode (find (λ other. is_address 2 (kind_of other)) (mode ∷ modes)) in
    Ok (with_tree mnemonic chosen prefix (operand_bytes widths mnemonic chosen) tree)

-- without operand all that is after the opcode is 0
unfoldable pub without_amount : Widths → Mnemonic → Mode → Answer (List Piece)
without_amount widths mnemonic mode = Ok (with_number mnemonic mode Bare (operand_bytes widths mnemonic mode) 0)

-- ---- block moves

-- a bank that is a constant fits a byte
abbrev pub bank : Amount → Answer Amount
bank (Known n) = if nat_lt n 256 then Ok (Known n) else Err DoesNotFit
bank (Written tree) = Ok (Written tree)

-- a bank that lies a given number of bytes after the instruction's start
abbrev pub bank_record : ℕ → Amount → Record
bank_record back a = Formula EXPR 1 0 (expression_text (with_location_less back (tree_of_amount a)))

-- the bank of the destination is stored first, and is written second in the source
abbrev pub banks_written : ℕ → Amount → Amount → List Piece
banks_written opcode (Known source) (Known destination) = Bytes (opcode ∷ destination ∷ source ∷ []) ∷ []
banks_written opcode (Known source) (Written destination) =
    Bytes (opcode ∷ []) ∷ Whole (bank_record 1 (Written destination)) ∷ Whole (bank_record 2 (Known source)) ∷ []
banks_written opcode (Written source) destination =
    Bytes (opcode ∷ []) ∷ Whole (bank_record 1 destination) ∷ Whole (bank_record 2 (Written source)) ∷ []

-- a block move: the bank of the source, and that of the destination
abbrev pub block_move_pieces : Constants → Mnemonic → Mode → Tree → Tree → Answer (List Piece)
block_move_pieces constants mnemonic mode source destination =
    pair_or_earlier_fault (amount constants source >>= bank) (amount constants destination >>= bank)
    >>= λ banks. Ok (banks_written (opcode_in mnemonic mode) banks.0 banks.1)

-- ---- instructions

-- an instruction in one of these modes, by its formulas
abbrev pub given_by : Constants → Widths → Mnemonic → Prefix → Mode → List Mode → List Tree → Answer (List Piece)
given_by constants widths mnemonic prefix mode modes [] = without_amount widths mnemonic mode
given_by constants widths mnemonic prefix mode modes (tree ∷ []) =
    amount constants tree >>= with_amount widths mnemonic prefix mode modes
given_by constants widths mnemonic prefix mode modes (source ∷ destination ∷ trees) = block_move_pieces constants mnemonic mode source destination

-- what an instruction with this operand gives
unfoldable pub instruction : Constants → Widths → Mnemonic → Meaning → Answer (List Piece)
instruction constants widths mnemonic operand =
    elim (modes_of_form mnemonic operand.form operand.prefix) [
      | [] ↦ Err BadMode
      | mode ∷ modes ↦ given_by constants widths mnemonic operand.prefix mode modes operand.trees
    ]
