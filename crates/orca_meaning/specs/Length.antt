-- How many bytes an instruction has (WDC 65C816 data sheet, addressing modes).
use Rattle.std.specs.Prelude.{ℕ, Bool, false, if◌then◌else◌}
use Rattle.orca_meaning.specs.declared.mnemonics.Mnemonic.{Mnemonic}
use Rattle.orca_meaning.specs.declared.mnemonics.Mnemonic.TheVariants.{Adc, And, Bit, Cmp, Cpx, Cpy, Eor, Lda, Ldx, Ldy, Ora, Rep, Sbc, Sep}
use Rattle.orca_meaning.specs.declared.modes.Mode.{Mode}
use Rattle.orca_meaning.specs.declared.modes.Mode.TheVariants.{Implied, Accumulator, Immediate, Direct, DirectX, DirectY, DirectIndirect, DirectIndirectY, DirectXIndirect, DirectLong, DirectLongY, Stack, StackIndirectY, Absolute, AbsoluteX, AbsoluteY, AbsoluteIndirect, AbsoluteXIndirect, AbsoluteLongIndirect, Long, LongX, Relative8, Relative16, Move, Signature}

-- whether the immediate operand of a mnemonic has two bytes: that of the accumulator has where LONGA is on, that of an
-- index register where LONGI is on, and that of REP and SEP never
unfoldable pub has_long_operand : Mnemonic → Bool → Bool → Bool
has_long_operand Ora long_a long_i = long_a
has_long_operand And long_a long_i = long_a
has_long_operand Eor long_a long_i = long_a
has_long_operand Adc long_a long_i = long_a
has_long_operand Bit long_a long_i = long_a
has_long_operand Lda long_a long_i = long_a
has_long_operand Cmp long_a long_i = long_a
has_long_operand Sbc long_a long_i = long_a
has_long_operand Ldx long_a long_i = long_i
has_long_operand Ldy long_a long_i = long_i
has_long_operand Cpx long_a long_i = long_i
has_long_operand Cpy long_a long_i = long_i
has_long_operand Rep long_a long_i = false
has_long_operand Sep long_a long_i = false
has_long_operand _ long_a long_i = false

-- how many bytes an instruction has, its opcode included: by its mode, and where that is immediate by the widths
unfoldable pub length_of : Mnemonic → Mode → Bool → Bool → ℕ
length_of mnemonic Implied long_a long_i = 1
length_of mnemonic Accumulator long_a long_i = 1
length_of mnemonic Immediate long_a long_i = if has_long_operand mnemonic long_a long_i then 3 else 2
length_of mnemonic Direct long_a long_i = 2
length_of mnemonic DirectX long_a long_i = 2
length_of mnemonic DirectY long_a long_i = 2
length_of mnemonic DirectIndirect long_a long_i = 2
length_of mnemonic DirectIndirectY long_a long_i = 2
length_of mnemonic DirectXIndirect long_a long_i = 2
length_of mnemonic DirectLong long_a long_i = 2
length_of mnemonic DirectLongY long_a long_i = 2
length_of mnemonic Stack long_a long_i = 2
length_of mnemonic StackIndirectY long_a long_i = 2
length_of mnemonic Absolute long_a long_i = 3
length_of mnemonic AbsoluteX long_a long_i = 3
length_of mnemonic AbsoluteY long_a long_i = 3
length_of mnemonic AbsoluteIndirect long_a long_i = 3
length_of mnemonic AbsoluteXIndirect long_a long_i = 3
length_of mnemonic AbsoluteLongIndirect long_a long_i = 3
length_of mnemonic Long long_a long_i = 4
length_of mnemonic LongX long_a long_i = 4
length_of mnemonic Relative8 long_a long_i = 2
length_of mnemonic Relative16 long_a long_i = 3
length_of mnemonic Move long_a long_i = 3
length_of mnemonic Signature long_a long_i = 2
