-- How widths and kinds of operands are seen.
use Rattle.std.specs.Prelude.{ℕ, Bool, ◌&&◌}
use Rattle.orca_meaning.specs.declared.forms.Prefix.{Prefix}
use Rattle.orca_meaning.specs.declared.mnemonics.Mnemonic.{Mnemonic}
use Rattle.orca_meaning.specs.declared.modes.Mode.{Mode}
use Rattle.orca_meaning.specs.Operation.{has_mode}
use Rattle.asm_meaning.specs.Instruction as meaning
use Rattle.orca_operands.specs.declared.mode.OperandKind.{OperandKind}
use Rattle.orca_operands.specs.declared.mode.OperandKind.TheVariants.{Missing, Value, Address, Distance, Banks, Sign}
use Rattle.orca_operands.specs.declared.mode.Widths.{Widths}

-- the widths of the registers
abbrev pub widths : Widths → meaning.Widths
widths of = record { long_a = of.long_a; long_i = of.long_i }

-- what an operand is in the instruction
abbrev pub kind : OperandKind → meaning.OperandKind
kind Missing = meaning.Missing
kind Value = meaning.Value
kind (Address bytes) = meaning.Address bytes
kind (Distance bytes) = meaning.Distance bytes
kind Banks = meaning.Banks
kind Sign = meaning.Sign

-- the tests of the searches over modes
abbrev pub offered_test : Mnemonic → Prefix → Mode → Bool
offered_test mnemonic prefix m = has_mode mnemonic m && meaning.is_asked prefix (meaning.kind_of m)

-- the operand can be this number in this mode
abbrev pub number_test : meaning.Widths → Mnemonic → Prefix → ℕ → Mode → Bool
number_test widths mnemonic prefix n m = meaning.is_operand_of_width prefix (meaning.kind_of m) (meaning.operand_bytes widths mnemonic m) n

-- the mode has an address of two bytes
abbrev pub two_test : Mode → Bool
two_test m = meaning.is_address 2 (meaning.kind_of m)
