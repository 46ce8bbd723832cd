-- The object of a source, or its first fault.
use Rattle.std.proofs.Common.{◌≡◌, ℕ, List, inl, inr, Option, Some, None, Result, Ok, Err, refl, sym, ap, subst, ◌∙◌}
use Rattle.std.specs.Prelude.{IfErr}
use Rattle.std.specs.Global.{Vec}
use Rattle.orca_meaning.specs.Line.{Line}
use Rattle.macro_meaning.specs.declared.faults.MacroCause.{MacroCause}
use Rattle.macro_meaning.specs.declared.faults.MacroCause.TheVariants as macros_
use Rattle.macro_meaning.specs.declared.faults.MacroFault.{MacroFault}
use Rattle.macro_meaning.specs.Expansion as expansion
use Rattle.macro_meaning.specs.Expansion.{IsExpanded}
use Rattle.macro_meaning.specs.laws.Steps.{IsFaultFor}
use Rattle.asm_meaning.specs.declared.faults.AsmCause.{AsmCause}
use Rattle.asm_meaning.specs.declared.faults.AsmCause.TheVariants.{Memory}
use Rattle.asm_meaning.specs.declared.faults.AsmFault.{AsmFault}
use Rattle.source_meaning.specs.Object.{HasLines, cause_of, IsFirstFault, InExpansion, InLine, InSegment, InLength, IsAsmFault, OutOfMemory, First}
use Rattle.asm_meaning.specs.State.{StartedSegment}
use Rattle.orca_object.specs.AssembleView.{IsLastFault, IsAssembled}

-- ---- the object, or the first fault

pub fault_is : (source : List ℕ) (macros : List (List ℕ)) (lines : List Line) (fault : AsmFault) → IsExpanded source macros lines → IsAssembled lines (Err fault) → IsAsmFault source macros fault
fault_is source macros lines fault expanded (inl s) =
    First (InLine s.line s.cause (record { before = s.before; following = s.following; last = s.last; expanded = subst (IsExpanded source macros) s.lines_are expanded; steps = s.steps; wrong = s.wrong }) s.fault_is)
fault_is source macros lines fault expanded (inr l) = First (by_segment l.last.segment refl l.is)
  where
    has : HasLines source macros l.last
    has = record { lines = lines; expanded = expanded; steps = l.steps }

    by_segment : (found : Option StartedSegment) → l.last.segment ≡ found → IsLastFault found l.last fault → IsFirstFault source macros fault
    by_segment None none is = InLength l.last has none is.0 is.1
    by_segment (Some s) some is = InSegment l.last s has some is

-- if the answer is a fault, it is the first
pub answered : (source : List ℕ) (macros : List (List ℕ)) (lines : List Line) (answer : Result (Vec ℕ) AsmFault) → IsExpanded source macros lines → IsAssembled lines answer
    → IfErr answer (λ fault. IsAsmFault source macros fault)
answered source macros lines (Ok object) expanded is = tt
answered source macros lines (Err fault) expanded is = fault_is source macros lines fault expanded is

-- ---- faults of the expansion

abbrev asm_fault : AsmCause → ℕ → ℕ → AsmFault
asm_fault cause file line = record { cause = cause; file = file; line = line }

abbrev macro_fault : MacroCause → ℕ → ℕ → MacroFault
macro_fault cause file line = record { cause = cause; file = file; line = line }

by_cause : (source : List ℕ) (macros : List (List ℕ)) (cause : MacroCause) (file line : ℕ) → IsFaultFor cause source macros (macro_fault cause file line) → IsAsmFault source macros (asm_fault (cause_of cause) file line)
by_cause source macros macros_.LineTooLong file line is = First (InExpansion (macro_fault macros_.LineTooLong file line) is refl)
by_cause source macros macros_.TooManyLines file line is = First (InExpansion (macro_fault macros_.TooManyLines file line) is refl)
by_cause source macros macros_.NoSuchSymbol file line is = First (InExpansion (macro_fault macros_.NoSuchSymbol file line) is refl)
by_cause source macros macros_.BadSetting file line is = First (InExpansion (macro_fault macros_.BadSetting file line) is refl)
by_cause source macros macros_.BadArguments file line is = First (InExpansion (macro_fault macros_.BadArguments file line) is refl)
by_cause source macros macros_.NoSequenceSymbol file line is = First (InExpansion (macro_fault macros_.NoSequenceSymbol file line) is refl)
by_cause source macros macros_.Unclosed file line is = First (InExpansion (macro_fault macros_.Unclosed file line) is refl)
by_cause source macros macros_.Counter file line is = First (InExpansion (macro_fault macros_.Counter file line) is refl)
by_cause source macros macros_.TooNested file line is = First (InExpansion (macro_fault macros_.TooNested file line) is refl)
by_cause source macros (macros_.Noted n) file line is = First (InExpansion (macro_fault (macros_.Noted n) file line) is refl)
by_cause source macros macros_.Memory file line is = OutOfMemory (ap (λ (f : ℕ). asm_fault Memory f line) is.0 ∙ ap (asm_fault Memory 0) is.1)

pub expansion_fault : (source : List ℕ) (macros : List (List ℕ)) (fault : MacroFault) (cause : AsmCause) → cause ≡ cause_of fault.cause → expansion.IsMacroFault source macros fault
    → IsAsmFault source macros (asm_fault cause fault.file fault.line)
expansion_fault source macros fault cause is e = subst (λ (c : AsmCause). IsAsmFault source macros (asm_fault c fault.file fault.line)) (sym is) (by_cause source macros fault.cause fault.file fault.line e)
