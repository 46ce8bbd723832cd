-- Operations: how mnemonics are spelled, and which operations take no operand or may lack it (WDC 65C816 data sheet,
-- instruction set; ORCA/M reference manual, "The operation field").
use Rattle.std.specs.Prelude.{ℕ, Bool, List, [], ◌∷◌, Option, Some, None, is_some, codes, bytes_eq, if◌then◌else◌}
use Rattle.std.specs.List.{list_any}
use Rattle.orca_meaning.specs.declared.forms.OperandUse.{OperandUse}
use Rattle.orca_meaning.specs.declared.forms.OperandUse.TheVariants.{Never, Accumulator, Signature, Always}
use Rattle.orca_meaning.specs.declared.mnemonics.Mnemonic.{Mnemonic}
use Rattle.orca_meaning.specs.declared.mnemonics.Mnemonic.TheVariants.{Adc, And, Asl, Bcc, Bcs, Beq, Bit, Bmi, Bne, Bpl, Bra, Brk, Brl, Bvc, Bvs, Clc, Cld, Cli, Clv, Cmp, Cop, Cpx, Cpy, Dec, Dex, Dey, Eor, Inc, Inx, Iny, Jml, Jmp, Jsl, Jsr, Lda, Ldx, Ldy, Lsr, Mvn, Mvp, Nop, Ora, Pea, Pei, Per, Pha, Phb, Phd, Phk, Php, Phx, Phy, Pla, Plb, Pld, Plp, Plx, Ply, Rep, Rol, Ror, Rti, Rtl, Rts, Sbc, Sec, Sed, Sei, Sep, Sta, Stp, Stx, Sty, Stz, Tax, Tay, Tcd, Tcs, Tdc, Trb, Tsb, Tsc, Tsx, Txa, Txs, Txy, Tya, Tyx, Wai, Wdm, Xba, Xce}
use Rattle.orca_meaning.specs.declared.modes.Mode.{Mode}
use Rattle.orca_meaning.specs.declared.modes.Mode.TheVariants as modes
use Rattle.orca_meaning.specs.Characters.{folded}
use Rattle.orca_meaning.specs.Matrix.{opcode_of}

-- the mnemonics in the order of the alphabet; BGE and BLT are other names of BCS and BCC
unfoldable pub mnemonics : List (List ℕ × Mnemonic)
mnemonics =
    (codes "ADC", Adc) ∷ (codes "AND", And) ∷ (codes "ASL", Asl) ∷ (codes "BCC", Bcc) ∷
    (codes "BCS", Bcs) ∷ (codes "BEQ", Beq) ∷ (codes "BGE", Bcs) ∷ (codes "BIT", Bit) ∷
    (codes "BLT", Bcc) ∷ (codes "BMI", Bmi) ∷ (codes "BNE", Bne) ∷ (codes "BPL", Bpl) ∷
    (codes "BRA", Bra) ∷ (codes "BRK", Brk) ∷ (codes "BRL", Brl) ∷ (codes "BVC", Bvc) ∷
    (codes "BVS", Bvs) ∷ (codes "CLC", Clc) ∷ (codes "CLD", Cld) ∷ (codes "CLI", Cli) ∷
    (codes "CLV", Clv) ∷ (codes "CMP", Cmp) ∷ (codes "COP", Cop) ∷ (codes "CPX", Cpx) ∷
    (codes "CPY", Cpy) ∷ (codes "DEC", Dec) ∷ (codes "DEX", Dex) ∷ (codes "DEY", Dey) ∷
    (codes "EOR", Eor) ∷ (codes "INC", Inc) ∷ (codes "INX", Inx) ∷ (codes "INY", Iny) ∷
    (codes "JML", Jml) ∷ (codes "JMP", Jmp) ∷ (codes "JSL", Jsl) ∷ (codes "JSR", Jsr) ∷
    (codes "LDA", Lda) ∷ (codes "LDX", Ldx) ∷ (codes "LDY", Ldy) ∷ (codes "LSR", Lsr) ∷
    (codes "MVN", Mvn) ∷ (codes "MVP", Mvp) ∷ (codes "NOP", Nop) ∷ (codes "ORA", Ora) ∷
    (codes "PEA", Pea) ∷ (codes "PEI", Pei) ∷ (codes "PER", Per) ∷ (codes "PHA", Pha) ∷
    (codes "PHB", Phb) ∷ (codes "PHD", Phd) ∷ (codes "PHK", Phk) ∷ (codes "PHP", Php) ∷
    (codes "PHX", Phx) ∷ (codes "PHY", Phy) ∷ (codes "PLA", Pla) ∷ (codes "PLB", Plb) ∷
    (codes "PLD", Pld) ∷ (codes "PLP", Plp) ∷ (codes "PLX", Plx) ∷ (codes "PLY", Ply) ∷
    (codes "REP", Rep) ∷ (codes "ROL", Rol) ∷ (codes "ROR", Ror) ∷ (codes "RTI", Rti) ∷
    (codes "RTL", Rtl) ∷ (codes "RTS", Rts) ∷ (codes "SBC", Sbc) ∷ (codes "SEC", Sec) ∷
    (codes "SED", Sed) ∷ (codes "SEI", Sei) ∷ (codes "SEP", Sep) ∷ (codes "STA", Sta) ∷
    (codes "STP", Stp) ∷ (codes "STX", Stx) ∷ (codes "STY", Sty) ∷ (codes "STZ", Stz) ∷
    (codes "TAX", Tax) ∷ (codes "TAY", Tay) ∷ (codes "TCD", Tcd) ∷ (codes "TCS", Tcs) ∷
    (codes "TDC", Tdc) ∷ (codes "TRB", Trb) ∷ (codes "TSB", Tsb) ∷ (codes "TSC", Tsc) ∷
    (codes "TSX", Tsx) ∷ (codes "TXA", Txa) ∷ (codes "TXS", Txs) ∷ (codes "TXY", Txy) ∷
    (codes "TYA", Tya) ∷ (codes "TYX", Tyx) ∷ (codes "WAI", Wai) ∷ (codes "WDM", Wdm) ∷
    (codes "XBA", Xba) ∷ (codes "XCE", Xce) ∷ []

-- what a table has beside a spelling
unfoldable pub value_of_spelling : {A : Type 0} → List ℕ → List (List ℕ × A) → Option A
value_of_spelling word [] = None
value_of_spelling word (row ∷ rows) = if bytes_eq row.0 word then Some row.1 else value_of_spelling word rows

-- the mnemonic that an operation is, in upper or lower case
unfoldable pub mnemonic_of : List ℕ → Option Mnemonic
mnemonic_of operation = value_of_spelling (folded operation) mnemonics

-- a mnemonic has a mode where an opcode is of both
abbrev pub has_mode : Mnemonic → Mode → Bool
has_mode mnemonic mode = is_some (opcode_of mnemonic mode)

-- An implied mnemonic takes no operand. One with the accumulator mode may lack it, and then means the accumulator; one
-- with a signature byte may lack it, and then has the byte 0. The others need it.
unfoldable pub use_of : Mnemonic → OperandUse
use_of mnemonic =
    if has_mode mnemonic modes.Implied then Never
    else if has_mode mnemonic modes.Accumulator then Accumulator
    else if has_mode mnemonic modes.Signature then Signature
    else Always

-- the directives and macro statements without operand
unfoldable pub without_operand : List (List ℕ)
without_operand = codes "END" ∷ codes "ENTRY" ∷ codes "ANOP" ∷ codes "MACRO" ∷ codes "MEND" ∷ codes "MEXIT" ∷ []

-- what an operation does with its operand
unfoldable pub operation_use : List ℕ → OperandUse
operation_use operation = elim (mnemonic_of operation) [
  | Some mnemonic ↦ use_of mnemonic
  | None ↦ if list_any (bytes_eq (folded operation)) without_operand then Never else Always
]
