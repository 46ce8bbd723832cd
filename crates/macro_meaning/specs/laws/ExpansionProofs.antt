-- Why a source with macro files has one answer.
use Rattle.std.proofs.Common.{◌≡◌, [], Option, Some, None, sym, ap, ◌∙◌}
use Rattle.orca_meaning.specs.Line.{Line}
use Rattle.macro_meaning.specs.declared.faults.MacroCause.{MacroCause}
use Rattle.macro_meaning.specs.declared.faults.MacroFault.{MacroFault}
use Rattle.macro_meaning.specs.Expansion.{InText, InDefinition, InVisit, first_of_files, file_text_fault, file_part_fault, program_of, fault_at}
use Rattle.macro_meaning.specs.Visit.{Move, On, Ends, Stops, first_visit}
use Rattle.macro_meaning.specs.laws.VisitLaws.{follow_once}
use Rattle.macro_meaning.specs.ExpansionLaws.{OneExpansion, NoFaultBeside, OneFirstFault}

pub one_expansion : OneExpansion
one_expansion source macros a b p q =
    (follow_once (program_of source macros) [] first_visit p.visited.visits q.visited.visits a b Ends Ends tt tt p.visited.follow q.visited.follow).0

not_stopped : (line : Line) (cause : MacroCause) → Ends ≡ Stops line cause → ⊥
not_stopped line cause e = absurd cc

no_fault : (o : Option MacroFault) (fault : MacroFault) → o ≡ None → o ≡ Some fault → ⊥
no_fault o fault p q = let clash : None ≡ Some fault = sym p ∙ q in absurd cc

same_fault : (o : Option MacroFault) (a b : MacroFault) → o ≡ Some a → o ≡ Some b → a ≡ b
same_fault o a b p q = let both : Some a ≡ Some b = sym p ∙ q in cc

pub no_fault_beside : NoFaultBeside
no_fault_beside source macros a fault p (InText is) = no_fault (first_of_files file_text_fault source macros) fault p.good.texts is
no_fault_beside source macros a fault p (InDefinition none is) = no_fault (first_of_files file_part_fault source macros) fault p.good.definitions is
no_fault_beside source macros a fault p (InVisit good line cause stops is) =
    not_stopped line cause
    (follow_once (program_of source macros) [] first_visit p.visited.visits stops.visited.visits a stops.given Ends (Stops line cause) tt tt p.visited.follow stops.visited.follow).1

stopped_at : (line line' : Line) (cause cause' : MacroCause) → Stops line cause ≡ Stops line' cause' → fault_at line cause ≡ fault_at line' cause'
stopped_at line line' cause cause' e = ap (λ (m : Move). fault_of m) e
  where
    fault_of : Move → MacroFault
    fault_of (On v) = fault_at line cause
    fault_of Ends = fault_at line cause
    fault_of (Stops l c) = fault_at l c

pub one_first_fault : OneFirstFault
one_first_fault source macros a b (InText p) (InText q) = same_fault (first_of_files file_text_fault source macros) a b p q
one_first_fault source macros a b (InText p) (InDefinition none q) = absurd (no_fault (first_of_files file_text_fault source macros) a none p)
one_first_fault source macros a b (InText p) (InVisit good line cause stops q) = absurd (no_fault (first_of_files file_text_fault source macros) a good.texts p)
one_first_fault source macros a b (InDefinition none p) (InText q) = absurd (no_fault (first_of_files file_text_fault source macros) b none q)
one_first_fault source macros a b (InDefinition none p) (InDefinition none' q) = same_fault (first_of_files file_part_fault source macros) a b p q
one_first_fault source macros a b (InDefinition none p) (InVisit good line cause stops q) = absurd (no_fault (first_of_files file_part_fault source macros) a good.definitions p)
one_first_fault source macros a b (InVisit good line cause stops p) (InText q) = absurd (no_fault (first_of_files file_text_fault source macros) b good.texts q)
one_first_fault source macros a b (InVisit good line cause stops p) (InDefinition none q) = absurd (no_fault (first_of_files file_part_fault source macros) b good.definitions q)
one_first_fault source macros a b (InVisit good line cause stops p) (InVisit good' line' cause' stops' q) =
    p ∙ stopped_at line line' cause cause'
    (follow_once (program_of source macros) [] first_visit stops.visited.visits stops'.visited.visits stops.given stops'.given (Stops line cause) (Stops line' cause') tt tt stops.visited.follow stops'.visited.follow).1
    ∙ sym q
