-- The instructions of the 65816 in the order of the opcode (WDC 65C816 data sheet, opcode matrix).
use Rattle.std.specs.Prelude.{ℕ, ◌&&◌, List, [], ◌∷◌, Option, position}
use denote.Enum.Bare.{sameb}
use Rattle.orca_meaning.specs.contracts.mnemonics.Mnemonic as mnemonic_type
use Rattle.orca_meaning.specs.contracts.modes.Mode as mode_type
use Rattle.orca_meaning.specs.declared.mnemonics.Mnemonic.{Mnemonic}
use Rattle.orca_meaning.specs.declared.mnemonics.Mnemonic.TheVariants.{Adc, And, Asl, Bcc, Bcs, Beq, Bit, Bmi, Bne, Bpl, Bra, Brk, Brl, Bvc, Bvs, Clc, Cld, Cli, Clv, Cmp, Cop, Cpx, Cpy, Dec, Dex, Dey, Eor, Inc, Inx, Iny, Jml, Jmp, Jsl, Jsr, Lda, Ldx, Ldy, Lsr, Mvn, Mvp, Nop, Ora, Pea, Pei, Per, Pha, Phb, Phd, Phk, Php, Phx, Phy, Pla, Plb, Pld, Plp, Plx, Ply, Rep, Rol, Ror, Rti, Rtl, Rts, Sbc, Sec, Sed, Sei, Sep, Sta, Stp, Stx, Sty, Stz, Tax, Tay, Tcd, Tcs, Tdc, Trb, Tsb, Tsc, Tsx, Txa, Txs, Txy, Tya, Tyx, Wai, Wdm, Xba, Xce}
use Rattle.orca_meaning.specs.declared.modes.Mode.{Mode}
use Rattle.orca_meaning.specs.declared.modes.Mode.TheVariants.{Implied as i, Accumulator as A, Immediate as #, Direct as d, DirectX as dx, DirectY as dy, DirectIndirect as ⟨d⟩, DirectIndirectY as ⟨d⟩y, DirectXIndirect as ⟨dx⟩, DirectLong as [d], DirectLongY as [d]y, Stack as ds, StackIndirectY as ⟨ds⟩y, Absolute as a, AbsoluteX as ax, AbsoluteY as ay, AbsoluteIndirect as ⟨a⟩, AbsoluteXIndirect as ⟨ax⟩, AbsoluteLongIndirect as [a], Long as al, LongX as alx, Relative8 as r, Relative16 as rl, Move as xyc, Signature as sig}

-- an instruction without its operand: a mnemonic in a mode
abbrev pub Instruction : Type 0
Instruction = Mnemonic × Mode

-- The instruction of each opcode, one row for each high digit. The modes have the data sheet's short names, less the commas and with
-- ⟨ ⟩ for round brackets. Where it writes only `s`, for the stack, the operand says the mode here: none, a signature byte (BRK, COP),
-- `a` (PEA), `⟨d⟩` (PEI), `rl` (PER). The reserved WDM has a signature byte too, and `[a]` distinguishes JML through a long address
-- from JMP through a short one.
unfoldable pub matrix : List Instruction
matrix =
    (Brk, sig) ∷ (Ora, ⟨dx⟩) ∷ (Cop, sig) ∷ (Ora, ds) ∷  -- $00 to $03
    (Tsb, d) ∷ (Ora, d) ∷ (Asl, d) ∷ (Ora, [d]) ∷  -- $04 to $07
    (Php, i) ∷ (Ora, #) ∷ (Asl, A) ∷ (Phd, i) ∷  -- $08 to $0B
    (Tsb, a) ∷ (Ora, a) ∷ (Asl, a) ∷ (Ora, al) ∷  -- $0C to $0F
    (Bpl, r) ∷ (Ora, ⟨d⟩y) ∷ (Ora, ⟨d⟩) ∷ (Ora, ⟨ds⟩y) ∷  -- $10 to $13
    (Trb, d) ∷ (Ora, dx) ∷ (Asl, dx) ∷ (Ora, [d]y) ∷  -- $14 to $17
    (Clc, i) ∷ (Ora, ay) ∷ (Inc, A) ∷ (Tcs, i) ∷  -- $18 to $1B
    (Trb, a) ∷ (Ora, ax) ∷ (Asl, ax) ∷ (Ora, alx) ∷  -- $1C to $1F
    (Jsr, a) ∷ (And, ⟨dx⟩) ∷ (Jsl, al) ∷ (And, ds) ∷  -- $20 to $23
    (Bit, d) ∷ (And, d) ∷ (Rol, d) ∷ (And, [d]) ∷  -- $24 to $27
    (Plp, i) ∷ (And, #) ∷ (Rol, A) ∷ (Pld, i) ∷  -- $28 to $2B
    (Bit, a) ∷ (And, a) ∷ (Rol, a) ∷ (And, al) ∷  -- $2C to $2F
    (Bmi, r) ∷ (And, ⟨d⟩y) ∷ (And, ⟨d⟩) ∷ (And, ⟨ds⟩y) ∷  -- $30 to $33
    (Bit, dx) ∷ (And, dx) ∷ (Rol, dx) ∷ (And, [d]y) ∷  -- $34 to $37
    (Sec, i) ∷ (And, ay) ∷ (Dec, A) ∷ (Tsc, i) ∷  -- $38 to $3B
    (Bit, ax) ∷ (And, ax) ∷ (Rol, ax) ∷ (And, alx) ∷  -- $3C to $3F
    (Rti, i) ∷ (Eor, ⟨dx⟩) ∷ (Wdm, sig) ∷ (Eor, ds) ∷  -- $40 to $43
    (Mvp, xyc) ∷ (Eor, d) ∷ (Lsr, d) ∷ (Eor, [d]) ∷  -- $44 to $47
    (Pha, i) ∷ (Eor, #) ∷ (Lsr, A) ∷ (Phk, i) ∷  -- $48 to $4B
    (Jmp, a) ∷ (Eor, a) ∷ (Lsr, a) ∷ (Eor, al) ∷  -- $4C to $4F
    (Bvc, r) ∷ (Eor, ⟨d⟩y) ∷ (Eor, ⟨d⟩) ∷ (Eor, ⟨ds⟩y) ∷  -- $50 to $53
    (Mvn, xyc) ∷ (Eor, dx) ∷ (Lsr, dx) ∷ (Eor, [d]y) ∷  -- $54 to $57
    (Cli, i) ∷ (Eor, ay) ∷ (Phy, i) ∷ (Tcd, i) ∷  -- $58 to $5B
    (Jml, al) ∷ (Eor, ax) ∷ (Lsr, ax) ∷ (Eor, alx) ∷  -- $5C to $5F
    (Rts, i) ∷ (Adc, ⟨dx⟩) ∷ (Per, rl) ∷ (Adc, ds) ∷  -- $60 to $63
    (Stz, d) ∷ (Adc, d) ∷ (Ror, d) ∷ (Adc, [d]) ∷  -- $64 to $67
    (Pla, i) ∷ (Adc, #) ∷ (Ror, A) ∷ (Rtl, i) ∷  -- $68 to $6B
    (Jmp, ⟨a⟩) ∷ (Adc, a) ∷ (Ror, a) ∷ (Adc, al) ∷  -- $6C to $6F
    (Bvs, r) ∷ (Adc, ⟨d⟩y) ∷ (Adc, ⟨d⟩) ∷ (Adc, ⟨ds⟩y) ∷  -- $70 to $73
    (Stz, dx) ∷ (Adc, dx) ∷ (Ror, dx) ∷ (Adc, [d]y) ∷  -- $74 to $77
    (Sei, i) ∷ (Adc, ay) ∷ (Ply, i) ∷ (Tdc, i) ∷  -- $78 to $7B
    (Jmp, ⟨ax⟩) ∷ (Adc, ax) ∷ (Ror, ax) ∷ (Adc, alx) ∷  -- $7C to $7F
    (Bra, r) ∷ (Sta, ⟨dx⟩) ∷ (Brl, rl) ∷ (Sta, ds) ∷  -- $80 to $83
    (Sty, d) ∷ (Sta, d) ∷ (Stx, d) ∷ (Sta, [d]) ∷  -- $84 to $87
    (Dey, i) ∷ (Bit, #) ∷ (Txa, i) ∷ (Phb, i) ∷  -- $88 to $8B
    (Sty, a) ∷ (Sta, a) ∷ (Stx, a) ∷ (Sta, al) ∷  -- $8C to $8F
    (Bcc, r) ∷ (Sta, ⟨d⟩y) ∷ (Sta, ⟨d⟩) ∷ (Sta, ⟨ds⟩y) ∷  -- $90 to $93
    (Sty, dx) ∷ (Sta, dx) ∷ (Stx, dy) ∷ (Sta, [d]y) ∷  -- $94 to $97
    (Tya, i) ∷ (Sta, ay) ∷ (Txs, i) ∷ (Txy, i) ∷  -- $98 to $9B
    (Stz, a) ∷ (Sta, ax) ∷ (Stz, ax) ∷ (Sta, alx) ∷  -- $9C to $9F
    (Ldy, #) ∷ (Lda, ⟨dx⟩) ∷ (Ldx, #) ∷ (Lda, ds) ∷  -- $A0 to $A3
    (Ldy, d) ∷ (Lda, d) ∷ (Ldx, d) ∷ (Lda, [d]) ∷  -- $A4 to $A7
    (Tay, i) ∷ (Lda, #) ∷ (Tax, i) ∷ (Plb, i) ∷  -- $A8 to $AB
    (Ldy, a) ∷ (Lda, a) ∷ (Ldx, a) ∷ (Lda, al) ∷  -- $AC to $AF
    (Bcs, r) ∷ (Lda, ⟨d⟩y) ∷ (Lda, ⟨d⟩) ∷ (Lda, ⟨ds⟩y) ∷  -- $B0 to $B3
    (Ldy, dx) ∷ (Lda, dx) ∷ (Ldx, dy) ∷ (Lda, [d]y) ∷  -- $B4 to $B7
    (Clv, i) ∷ (Lda, ay) ∷ (Tsx, i) ∷ (Tyx, i) ∷  -- $B8 to $BB
    (Ldy, ax) ∷ (Lda, ax) ∷ (Ldx, ay) ∷ (Lda, alx) ∷  -- $BC to $BF
    (Cpy, #) ∷ (Cmp, ⟨dx⟩) ∷ (Rep, #) ∷ (Cmp, ds) ∷  -- $C0 to $C3
    (Cpy, d) ∷ (Cmp, d) ∷ (Dec, d) ∷ (Cmp, [d]) ∷  -- $C4 to $C7
    (Iny, i) ∷ (Cmp, #) ∷ (Dex, i) ∷ (Wai, i) ∷  -- $C8 to $CB
    (Cpy, a) ∷ (Cmp, a) ∷ (Dec, a) ∷ (Cmp, al) ∷  -- $CC to $CF
    (Bne, r) ∷ (Cmp, ⟨d⟩y) ∷ (Cmp, ⟨d⟩) ∷ (Cmp, ⟨ds⟩y) ∷  -- $D0 to $D3
    (Pei, ⟨d⟩) ∷ (Cmp, dx) ∷ (Dec, dx) ∷ (Cmp, [d]y) ∷  -- $D4 to $D7
    (Cld, i) ∷ (Cmp, ay) ∷ (Phx, i) ∷ (Stp, i) ∷  -- $D8 to $DB
    (Jml, [a]) ∷ (Cmp, ax) ∷ (Dec, ax) ∷ (Cmp, alx) ∷  -- $DC to $DF
    (Cpx, #) ∷ (Sbc, ⟨dx⟩) ∷ (Sep, #) ∷ (Sbc, ds) ∷  -- $E0 to $E3
    (Cpx, d) ∷ (Sbc, d) ∷ (Inc, d) ∷ (Sbc, [d]) ∷  -- $E4 to $E7
    (Inx, i) ∷ (Sbc, #) ∷ (Nop, i) ∷ (Xba, i) ∷  -- $E8 to $EB
    (Cpx, a) ∷ (Sbc, a) ∷ (Inc, a) ∷ (Sbc, al) ∷  -- $EC to $EF
    (Beq, r) ∷ (Sbc, ⟨d⟩y) ∷ (Sbc, ⟨d⟩) ∷ (Sbc, ⟨ds⟩y) ∷  -- $F0 to $F3
    (Pea, a) ∷ (Sbc, dx) ∷ (Inc, dx) ∷ (Sbc, [d]y) ∷  -- $F4 to $F7
    (Sed, i) ∷ (Sbc, ay) ∷ (Plx, i) ∷ (Xce, i) ∷  -- $F8 to $FB
    (Jsr, ⟨ax⟩) ∷ (Sbc, ax) ∷ (Inc, ax) ∷ (Sbc, alx) ∷ []  -- $FC to $FF

-- the opcode of a mnemonic in a mode: its place in the matrix, which has none where the mnemonic lacks the mode
unfoldable pub opcode_of : Mnemonic → Mode → Option ℕ
opcode_of mnemonic mode = position (λ row. sameb mnemonic_type.the_type row.0 mnemonic && sameb mode_type.the_type row.1 mode) matrix
