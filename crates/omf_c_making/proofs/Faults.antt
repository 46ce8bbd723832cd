-- Faults other than `Memory` are first faults.
use Rattle.std.proofs.Common.{◌≡◌, ◌≢◌, inl, inr, ℕ, List, refl, ap}
use Rattle.omf_format.specs.declared.fault.FileCause.{FileCause}
use Rattle.omf_format.specs.declared.fault.FileCause.TheVariants as file_causes
use Rattle.omf_format.specs.declared.fault.FileFault.{FileFault}
use Rattle.omf_format.specs.File.{IsFirstFault}
use Rattle.link_meaning.specs.declared.fault.LinkCause.TheVariants as link_causes
use Rattle.link_meaning.specs.declared.fault.LinkFault.{LinkFault}
use Rattle.link_meaning.specs.LinkFaults.{LinkInput}
use Rattle.link_meaning.specs.EmitFaults.{IsFirstLinkFault}
use Rattle.asm_meaning.specs.declared.faults.AsmCause.TheVariants as asm_causes
use Rattle.asm_meaning.specs.declared.faults.AsmFault.{AsmFault}
use Rattle.macro_meaning.specs.declared.faults.MacroCause.{MacroCause}
use Rattle.macro_meaning.specs.declared.faults.MacroCause.TheVariants as macro_causes
use Rattle.macro_meaning.specs.declared.faults.MacroFault.{MacroFault}
use Rattle.macro_meaning.specs.Expansion as expansion
use Rattle.source_meaning.specs.Object as asm
use Rattle.omf_records.specs.Segments as records
use Rattle.link_file.specs.Answers.{IsLinkRefused}

first_file : (c : FileCause) (fault : FileFault) (P : Type 0) → (c ≡ file_causes.Memory → ⊥) → records.UnlessMemory c fault P → P
first_file file_causes.Truncated fault P other is = is
first_file file_causes.BadHeader fault P other is = is
first_file file_causes.Unsupported fault P other is = is
first_file file_causes.BadRecord fault P other is = is
first_file file_causes.Memory fault P other is = absurd (other refl)

pub file_first : (fault : FileFault) (file : List ℕ) → fault.cause ≢ file_causes.Memory → records.IsRefused fault file → IsFirstFault file fault
file_first fault file other refused = first_file fault.cause fault (IsFirstFault file fault) other refused

pub link_first : (given : LinkInput) (fault : LinkFault) → fault.cause ≢ link_causes.Memory → IsLinkRefused given fault → IsFirstLinkFault given fault
link_first given fault other (inl lacks) = absurd (other (ap (λ (f : LinkFault). f.cause) lacks))
link_first given fault other (inr first) = first

pub asm_first : (source : List ℕ) (macros : List (List ℕ)) (fault : AsmFault) → fault.cause ≢ asm_causes.Memory → asm.IsAsmFault source macros fault → asm.IsFirstFault source macros fault
asm_first source macros fault other (asm.OutOfMemory lacks) = absurd (other (ap (λ (f : AsmFault). f.cause) lacks))
asm_first source macros fault other (asm.First first) = first

abbrev Unless : MacroCause → Type 0 → Type 0 → Type 0
Unless c M P = elim c [ macro_causes.Memory ↦ M | _ ↦ P ]

first_macro : (c : MacroCause) (M P : Type 0) → (c ≡ macro_causes.Memory → ⊥) → Unless c M P → P
first_macro macro_causes.LineTooLong M P other is = is
first_macro macro_causes.TooManyLines M P other is = is
first_macro macro_causes.NoSuchSymbol M P other is = is
first_macro macro_causes.BadSetting M P other is = is
first_macro macro_causes.BadArguments M P other is = is
first_macro macro_causes.NoSequenceSymbol M P other is = is
first_macro macro_causes.Unclosed M P other is = is
first_macro macro_causes.Counter M P other is = is
first_macro macro_causes.TooNested M P other is = is
first_macro (macro_causes.Noted n) M P other is = is
first_macro macro_causes.Memory M P other is = absurd (other refl)

pub macro_first : (source : List ℕ) (macros : List (List ℕ)) (fault : MacroFault) → fault.cause ≢ macro_causes.Memory → expansion.IsMacroFault source macros fault → expansion.IsFirstFault source macros fault
macro_first source macros fault other is = first_macro fault.cause ((fault.file ≡ 0) × (fault.line ≡ 0)) (expansion.IsFirstFault source macros fault) other is
