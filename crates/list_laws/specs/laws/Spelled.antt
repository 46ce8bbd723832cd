-- A mnemonic is written so that it is read again.
use Rattle.std.proofs.Common.{◌≡◌, true, false, Some, None, refl}
use Rattle.std.specs.Prelude.{codes}
use Rattle.std.specs.List.{AllByRecursion}
use Rattle.orca_meaning.specs.Characters.{is_name_byte}
use Rattle.macro_meaning.specs.Effect.{operation_or_anop}
use Rattle.macro_meaning.specs.Statements as statements
use Rattle.macro_meaning.specs.laws.Steps.{is_operation}
use Rattle.orca_meaning.specs.declared.mnemonics.Mnemonic.{Mnemonic}
use Rattle.orca_meaning.specs.declared.mnemonics.Mnemonic.TheVariants.{Adc, And, Asl, Bcc, Bcs, Beq, Bit, Bmi, Bne, Bpl, Bra, Brk, Brl, Bvc, Bvs, Clc, Cld, Cli, Clv, Cmp, Cop, Cpx, Cpy, Dec, Dex, Dey, Eor, Inc, Inx, Iny, Jml, Jmp, Jsl, Jsr, Lda, Ldx, Ldy, Lsr, Mvn, Mvp, Nop, Ora, Pea, Pei, Per, Pha, Phb, Phd, Phk, Php, Phx, Phy, Pla, Plb, Pld, Plp, Plx, Ply, Rep, Rol, Ror, Rti, Rtl, Rts, Sbc, Sec, Sed, Sei, Sep, Sta, Stp, Stx, Sty, Stz, Tax, Tay, Tcd, Tcs, Tdc, Trb, Tsb, Tsc, Tsx, Txa, Txs, Txy, Tya, Tyx, Wai, Wdm, Xba, Xce}
use Rattle.orca_meaning.specs.Operation as operations
use Rattle.orca_meaning.specs.Operation.{mnemonic_of}
use Rattle.list_laws.specs.laws.LineText.{IsOperation}
use Rattle.list_meaning.specs.Listed.{spelling_of}

pub record IsSpelled (m : Mnemonic) : Type 0 where
  pub read : mnemonic_of (spelling_of m) ≡ Some m
  pub named : IsOperation (spelling_of m)
  pub statement : operation_or_anop (spelling_of m) ≡ None
  pub no_macro : is_operation (codes "MACRO") (spelling_of m) ≡ false
  pub letters : AllByRecursion (λ b. is_name_byte b ≡ true) (spelling_of m)

pub spelled : (m : Mnemonic) → IsSpelled m
unfolding spelling_of mnemonic_of operations.value_of_spelling operations.mnemonics statements.statement_of statements.statements statements.other_statements
spelled Adc = record { read = refl; named = (refl, (refl, (refl, tt))); statement = refl; no_macro = refl; letters = (refl, (refl, (refl, tt))) }
spelled And = record { read = refl; named = (refl, (refl, (refl, tt))); statement = refl; no_macro = refl; letters = (refl, (refl, (refl, tt))) }
spelled Asl = record { read = refl; named = (refl, (refl, (refl, tt))); statement = refl; no_macro = refl; letters = (refl, (refl, (refl, tt))) }
spelled Bcc = record { read = refl; named = (refl, (refl, (refl, tt))); statement = refl; no_macro = refl; letters = (refl, (refl, (refl, tt))) }
spelled Bcs = record { read = refl; named = (refl, (refl, (refl, tt))); statement = refl; no_macro = refl; letters = (refl, (refl, (refl, tt))) }
spelled Beq = record { read = refl; named = (refl, (refl, (refl, tt))); statement = refl; no_macro = refl; letters = (refl, (refl, (refl, tt))) }
spelled Bit = record { read = refl; named = (refl, (refl, (refl, tt))); statement = refl; no_macro = refl; letters = (refl, (refl, (refl, tt))) }
spelled Bmi = record { read = refl; named = (refl, (refl, (refl, tt))); statement = refl; no_macro = refl; letters = (refl, (refl, (refl, tt))) }
spelled Bne = record { read = refl; named = (refl, (refl, (refl, tt))); statement = refl; no_macro = refl; letters = (refl, (refl, (refl, tt))) }
spelled Bpl = record { read = refl; named = (refl, (refl, (refl, tt))); statement = refl; no_macro = refl; letters = (refl, (refl, (refl, tt))) }
spelled Bra = record { read = refl; named = (refl, (refl, (refl, tt))); statement = refl; no_macro = refl; letters = (refl, (refl, (refl, tt))) }
spelled Brk = record { read = refl; named = (refl, (refl, (refl, tt))); statement = refl; no_macro = refl; letters = (refl, (refl, (refl, tt))) }
spelled Brl = record { read = refl; named = (refl, (refl, (refl, tt))); statement = refl; no_macro = refl; letters = (refl, (refl, (refl, tt))) }
spelled Bvc = record { read = refl; named = (refl, (refl, (refl, tt))); statement = refl; no_macro = refl; letters = (refl, (refl, (refl, tt))) }
spelled Bvs = record { read = refl; named = (refl, (refl, (refl, tt))); statement = refl; no_macro = refl; letters = (refl, (refl, (refl, tt))) }
spelled Clc = record { read = refl; named = (refl, (refl, (refl, tt))); statement = refl; no_macro = refl; letters = (refl, (refl, (refl, tt))) }
spelled Cld = record { read = refl; named = (refl, (refl, (refl, tt))); statement = refl; no_macro = refl; letters = (refl, (refl, (refl, tt))) }
spelled Cli = record { read = refl; named = (refl, (refl, (refl, tt))); statement = refl; no_macro = refl; letters = (refl, (refl, (refl, tt))) }
spelled Clv = record { read = refl; named = (refl, (refl, (refl, tt))); statement = refl; no_macro = refl; letters = (refl, (refl, (refl, tt))) }
spelled Cmp = record { read = refl; named = (refl, (refl, (refl, tt))); statement = refl; no_macro = refl; letters = (refl, (refl, (refl, tt))) }
spelled Cop = record { read = refl; named = (refl, (refl, (refl, tt))); statement = refl; no_macro = refl; letters = (refl, (refl, (refl, tt))) }
spelled Cpx = record { read = refl; named = (refl, (refl, (refl, tt))); statement = refl; no_macro = refl; letters = (refl, (refl, (refl, tt))) }
spelled Cpy = record { read = refl; named = (refl, (refl, (refl, tt))); statement = refl; no_macro = refl; letters = (refl, (refl, (refl, tt))) }
spelled Dec = record { read = refl; named = (refl, (refl, (refl, tt))); statement = refl; no_macro = refl; letters = (refl, (refl, (refl, tt))) }
spelled Dex = record { read = refl; named = (refl, (refl, (refl, tt))); statement = refl; no_macro = refl; letters = (refl, (refl, (refl, tt))) }
spelled Dey = record { read = refl; named = (refl, (refl, (refl, tt))); statement = refl; no_macro = refl; letters = (refl, (refl, (refl, tt))) }
spelled Eor = record { read = refl; named = (refl, (refl, (refl, tt))); statement = refl; no_macro = refl; letters = (refl, (refl, (refl, tt))) }
spelled Inc = record { read = refl; named = (refl, (refl, (refl, tt))); statement = refl; no_macro = refl; letters = (refl, (refl, (refl, tt))) }
spelled Inx = record { read = refl; named = (refl, (refl, (refl, tt))); statement = refl; no_macro = refl; letters = (refl, (refl, (refl, tt))) }
spelled Iny = record { read = refl; named = (refl, (refl, (refl, tt))); statement = refl; no_macro = refl; letters = (refl, (refl, (refl, tt))) }
spelled Jml = record { read = refl; named = (refl, (refl, (refl, tt))); statement = refl; no_macro = refl; letters = (refl, (refl, (refl, tt))) }
spelled Jmp = record { read = refl; named = (refl, (refl, (refl, tt))); statement = refl; no_macro = refl; letters = (refl, (refl, (refl, tt))) }
spelled Jsl = record { read = refl; named = (refl, (refl, (refl, tt))); statement = refl; no_macro = refl; letters = (refl, (refl, (refl, tt))) }
spelled Jsr = record { read = refl; named = (refl, (refl, (refl, tt))); statement = refl; no_macro = refl; letters = (refl, (refl, (refl, tt))) }
spelled Lda = record { read = refl; named = (refl, (refl, (refl, tt))); statement = refl; no_macro = refl; letters = (refl, (refl, (refl, tt))) }
spelled Ldx = record { read = refl; named = (refl, (refl, (refl, tt))); statement = refl; no_macro = refl; letters = (refl, (refl, (refl, tt))) }
spelled Ldy = record { read = refl; named = (refl, (refl, (refl, tt))); statement = refl; no_macro = refl; letters = (refl, (refl, (refl, tt))) }
spelled Lsr = record { read = refl; named = (refl, (refl, (refl, tt))); statement = refl; no_macro = refl; letters = (refl, (refl, (refl, tt))) }
spelled Mvn = record { read = refl; named = (refl, (refl, (refl, tt))); statement = refl; no_macro = refl; letters = (refl, (refl, (refl, tt))) }
spelled Mvp = record { read = refl; named = (refl, (refl, (refl, tt))); statement = refl; no_macro = refl; letters = (refl, (refl, (refl, tt))) }
spelled Nop = record { read = refl; named = (refl, (refl, (refl, tt))); statement = refl; no_macro = refl; letters = (refl, (refl, (refl, tt))) }
spelled Ora = record { read = refl; named = (refl, (refl, (refl, tt))); statement = refl; no_macro = refl; letters = (refl, (refl, (refl, tt))) }
spelled Pea = record { read = refl; named = (refl, (refl, (refl, tt))); statement = refl; no_macro = refl; letters = (refl, (refl, (refl, tt))) }
spelled Pei = record { read = refl; named = (refl, (refl, (refl, tt))); statement = refl; no_macro = refl; letters = (refl, (refl, (refl, tt))) }
spelled Per = record { read = refl; named = (refl, (refl, (refl, tt))); statement = refl; no_macro = refl; letters = (refl, (refl, (refl, tt))) }
spelled Pha = record { read = refl; named = (refl, (refl, (refl, tt))); statement = refl; no_macro = refl; letters = (refl, (refl, (refl, tt))) }
spelled Phb = record { read = refl; named = (refl, (refl, (refl, tt))); statement = refl; no_macro = refl; letters = (refl, (refl, (refl, tt))) }
spelled Phd = record { read = refl; named = (refl, (refl, (refl, tt))); statement = refl; no_macro = refl; letters = (refl, (refl, (refl, tt))) }
spelled Phk = record { read = refl; named = (refl, (refl, (refl, tt))); statement = refl; no_macro = refl; letters = (refl, (refl, (refl, tt))) }
spelled Php = record { read = refl; named = (refl, (refl, (refl, tt))); statement = refl; no_macro = refl; letters = (refl, (refl, (refl, tt))) }
spelled Phx = record { read = refl; named = (refl, (refl, (refl, tt))); statement = refl; no_macro = refl; letters = (refl, (refl, (refl, tt))) }
spelled Phy = record { read = refl; named = (refl, (refl, (refl, tt))); statement = refl; no_macro = refl; letters = (refl, (refl, (refl, tt))) }
spelled Pla = record { read = refl; named = (refl, (refl, (refl, tt))); statement = refl; no_macro = refl; letters = (refl, (refl, (refl, tt))) }
spelled Plb = record { read = refl; named = (refl, (refl, (refl, tt))); statement = refl; no_macro = refl; letters = (refl, (refl, (refl, tt))) }
spelled Pld = record { read = refl; named = (refl, (refl, (refl, tt))); statement = refl; no_macro = refl; letters = (refl, (refl, (refl, tt))) }
spelled Plp = record { read = refl; named = (refl, (refl, (refl, tt))); statement = refl; no_macro = refl; letters = (refl, (refl, (refl, tt))) }
spelled Plx = record { read = refl; named = (refl, (refl, (refl, tt))); statement = refl; no_macro = refl; letters = (refl, (refl, (refl, tt))) }
spelled Ply = record { read = refl; named = (refl, (refl, (refl, tt))); statement = refl; no_macro = refl; letters = (refl, (refl, (refl, tt))) }
spelled Rep = record { read = refl; named = (refl, (refl, (refl, tt))); statement = refl; no_macro = refl; letters = (refl, (refl, (refl, tt))) }
spelled Rol = record { read = refl; named = (refl, (refl, (refl, tt))); statement = refl; no_macro = refl; letters = (refl, (refl, (refl, tt))) }
spelled Ror = record { read = refl; named = (refl, (refl, (refl, tt))); statement = refl; no_macro = refl; letters = (refl, (refl, (refl, tt))) }
spelled Rti = record { read = refl; named = (refl, (refl, (refl, tt))); statement = refl; no_macro = refl; letters = (refl, (refl, (refl, tt))) }
spelled Rtl = record { read = refl; named = (refl, (refl, (refl, tt))); statement = refl; no_macro = refl; letters = (refl, (refl, (refl, tt))) }
spelled Rts = record { read = refl; named = (refl, (refl, (refl, tt))); statement = refl; no_macro = refl; letters = (refl, (refl, (refl, tt))) }
spelled Sbc = record { read = refl; named = (refl, (refl, (refl, tt))); statement = refl; no_macro = refl; letters = (refl, (refl, (refl, tt))) }
spelled Sec = record { read = refl; named = (refl, (refl, (refl, tt))); statement = refl; no_macro = refl; letters = (refl, (refl, (refl, tt))) }
spelled Sed = record { read = refl; named = (refl, (refl, (refl, tt))); statement = refl; no_macro = refl; letters = (refl, (refl, (refl, tt))) }
spelled Sei = record { read = refl; named = (refl, (refl, (refl, tt))); statement = refl; no_macro = refl; letters = (refl, (refl, (refl, tt))) }
spelled Sep = record { read = refl; named = (refl, (refl, (refl, tt))); statement = refl; no_macro = refl; letters = (refl, (refl, (refl, tt))) }
spelled Sta = record { read = refl; named = (refl, (refl, (refl, tt))); statement = refl; no_macro = refl; letters = (refl, (refl, (refl, tt))) }
spelled Stp = record { read = refl; named = (refl, (refl, (refl, tt))); statement = refl; no_macro = refl; letters = (refl, (refl, (refl, tt))) }
spelled Stx = record { read = refl; named = (refl, (refl, (refl, tt))); statement = refl; no_macro = refl; letters = (refl, (refl, (refl, tt))) }
spelled Sty = record { read = refl; named = (refl, (refl, (refl, tt))); statement = refl; no_macro = refl; letters = (refl, (refl, (refl, tt))) }
spelled Stz = record { read = refl; named = (refl, (refl, (refl, tt))); statement = refl; no_macro = refl; letters = (refl, (refl, (refl, tt))) }
spelled Tax = record { read = refl; named = (refl, (refl, (refl, tt))); statement = refl; no_macro = refl; letters = (refl, (refl, (refl, tt))) }
spelled Tay = record { read = refl; named = (refl, (refl, (refl, tt))); statement = refl; no_macro = refl; letters = (refl, (refl, (refl, tt))) }
spelled Tcd = record { read = refl; named = (refl, (refl, (refl, tt))); statement = refl; no_macro = refl; letters = (refl, (refl, (refl, tt))) }
spelled Tcs = record { read = refl; named = (refl, (refl, (refl, tt))); statement = refl; no_macro = refl; letters = (refl, (refl, (refl, tt))) }
spelled Tdc = record { read = refl; named = (refl, (refl, (refl, tt))); statement = refl; no_macro = refl; letters = (refl, (refl, (refl, tt))) }
spelled Trb = record { read = refl; named = (refl, (refl, (refl, tt))); statement = refl; no_macro = refl; letters = (refl, (refl, (refl, tt))) }
spelled Tsb = record { read = refl; named = (refl, (refl, (refl, tt))); statement = refl; no_macro = refl; letters = (refl, (refl, (refl, tt))) }
spelled Tsc = record { read = refl; named = (refl, (refl, (refl, tt))); statement = refl; no_macro = refl; letters = (refl, (refl, (refl, tt))) }
spelled Tsx = record { read = refl; named = (refl, (refl, (refl, tt))); statement = refl; no_macro = refl; letters = (refl, (refl, (refl, tt))) }
spelled Txa = record { read = refl; named = (refl, (refl, (refl, tt))); statement = refl; no_macro = refl; letters = (refl, (refl, (refl, tt))) }
spelled Txs = record { read = refl; named = (refl, (refl, (refl, tt))); statement = refl; no_macro = refl; letters = (refl, (refl, (refl, tt))) }
spelled Txy = record { read = refl; named = (refl, (refl, (refl, tt))); statement = refl; no_macro = refl; letters = (refl, (refl, (refl, tt))) }
spelled Tya = record { read = refl; named = (refl, (refl, (refl, tt))); statement = refl; no_macro = refl; letters = (refl, (refl, (refl, tt))) }
spelled Tyx = record { read = refl; named = (refl, (refl, (refl, tt))); statement = refl; no_macro = refl; letters = (refl, (refl, (refl, tt))) }
spelled Wai = record { read = refl; named = (refl, (refl, (refl, tt))); statement = refl; no_macro = refl; letters = (refl, (refl, (refl, tt))) }
spelled Wdm = record { read = refl; named = (refl, (refl, (refl, tt))); statement = refl; no_macro = refl; letters = (refl, (refl, (refl, tt))) }
spelled Xba = record { read = refl; named = (refl, (refl, (refl, tt))); statement = refl; no_macro = refl; letters = (refl, (refl, (refl, tt))) }
spelled Xce = record { read = refl; named = (refl, (refl, (refl, tt))); statement = refl; no_macro = refl; letters = (refl, (refl, (refl, tt))) }
