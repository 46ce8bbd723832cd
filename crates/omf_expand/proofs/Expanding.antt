-- What is made of a source with macro files is what the expansion answers.
use Rattle.std.proofs.Common.{◌≡◌, ℕ, List, Result, Ok, Err, IfOk, refl, subst}
use Rattle.macro_meaning.specs.declared.faults.MacroCause.{MacroCause}
use Rattle.macro_meaning.specs.declared.faults.MacroCause.TheVariants.{LineTooLong, TooManyLines, NoSuchSymbol, BadSetting, BadArguments, NoSequenceSymbol, Unclosed, Counter, TooNested, Noted, Memory}
use Rattle.macro_meaning.specs.declared.faults.MacroFault.{MacroFault}
use Rattle.macro_meaning.specs.Expansion.{IsFirstFault, IsMacroFault}
use Rattle.macro_meaning.specs.laws.Steps.{IsFaultFor}
use Rattle.omf_making.specs.declared.making.Making.{Making}
use Rattle.omf_commands.specs.Assemble.{following_first}
use Rattle.omf_making.specs.Made.{Made, Bytes, Refusal, made_of, first_of}
use Rattle.omf_expand.specs.Expanded.{ExpandMakes, ReportsMacroFault}

-- a fault other than out of memory is the first fault
first_fault : (cause : MacroCause) (source : List ℕ) (macros : List (List ℕ)) (fault : MacroFault) → IsFaultFor cause source macros fault → (cause ≡ Memory → ⊥) → IsFirstFault source macros fault
first_fault LineTooLong source macros fault is some = is
first_fault TooManyLines source macros fault is some = is
first_fault NoSuchSymbol source macros fault is some = is
first_fault BadSetting source macros fault is some = is
first_fault BadArguments source macros fault is some = is
first_fault NoSequenceSymbol source macros fault is some = is
first_fault Unclosed source macros fault is some = is
first_fault Counter source macros fault is some = is
first_fault TooNested source macros fault is some = is
first_fault (Noted n) source macros fault is some = is
first_fault Memory source macros fault is some = absurd (some refl)

fault_view : (files : List (List ℕ)) (fault : MacroFault) (made : Made) → IsMacroFault (first_of files) (following_first files) fault → ReportsMacroFault fault made → ExpandMakes files made
fault_view files fault (Bytes bytes) is reports = absurd reports
fault_view files fault (Refusal text) is reports = (fault, first_fault fault.cause (first_of files) (following_first files) fault is reports.0, reports.1)

-- and so is what is reported for it
pub reported_making : {E : Type 0} → (files macros : List (List ℕ)) (source : List ℕ) (fault : MacroFault) (r : Result Making E) → source ≡ first_of files → macros ≡ following_first files
    → IsMacroFault source macros fault → IfOk r (λ made. ReportsMacroFault fault (made_of made)) → IfOk r (λ made. ExpandMakes files (made_of made))
reported_making files macros source fault (Ok made) source_is macros_is is reports =
    fault_view files fault (made_of made) (subst (λ (s : List ℕ). IsMacroFault s (following_first files) fault) source_is (subst (λ (m : List (List ℕ)). IsMacroFault source m fault) macros_is is)) reports
reported_making files macros source fault (Err error) source_is macros_is is reports = reports
