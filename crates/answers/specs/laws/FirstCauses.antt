-- No first fault of a file, a load file or a run-time library file is Memory.
use Rattle.std.proofs.Common.{◌≡◌, ◌≢◌, inl, inr, ℕ, List, drop, Option, Some, None, Result, Ok, Err, sym, subst}
use Rattle.std.specs.Prelude.{option_map}
use Rattle.omf_format.specs.declared.fault.HeaderFault.{HeaderFault}
use Rattle.omf_format.specs.declared.fault.RecordFault.{RecordFault}
use Rattle.omf_format.specs.declared.fault.FileCause.TheVariants.{Memory}
use Rattle.omf_format.specs.declared.fault.FileFault.{FileFault}
use Rattle.omf_format.specs.Header.{fields_of, version_of, header_fault}
use Rattle.omf_format.specs.Record.{Record}
use Rattle.omf_format.specs.File.{FaultAt, HasFault, InHeader, InRecord, IsFirstFault, to_file_header_fault, to_file_record_fault}
use Rattle.load_meaning.specs.declared.load.LoadCause.{LoadCause}
use Rattle.load_meaning.specs.declared.load.LoadFault.{LoadFault}
use Rattle.load_meaning.specs.Loadable.{Fault, segment_refusal, record_refusal, as_load, front_fault, answer_fault, HasReadFault, OfFront, OfRecord, IsFirstLoadFault, IsEmpty, OfReading, OfSegments}
use Rattle.load_meaning.specs.Runtime.{IsFirstRuntimeFault, OfLoading, OfKind}
use Rattle.answers.specs.laws.Options.{same_some, mapped, either_some}
use Rattle.answers.specs.laws.FileAnswers.{header_cause, record_cause}
use Rattle.answers.specs.laws.LoadCauses.{IsOther, file_cause, segment_cause, refused_cause, later_cause, runtime_cause}

has_cause : (at : ℕ) (file : List ℕ) (reported : FaultAt) → HasFault at file reported → reported.0 ≢ Memory
has_cause at file reported (InHeader fault is e) =
    subst (λ (r : FaultAt). r.0 ≢ Memory) (sym e) (header_cause at (version_of (drop at file)) (drop at file) fault is)
has_cause at file reported (InRecord f before reader fault header run next e) = subst (λ (r : FaultAt). r.0 ≢ Memory) (sym e) (record_cause fault)

pub first_cause : (file : List ℕ) (fault : FileFault) → IsFirstFault file fault → fault.cause ≢ Memory
first_cause file fault is = has_cause is.at file (fault.cause, fault.at) is.here

front_cause : (at : ℕ) (file : List ℕ) (fault : Fault) → front_fault at file ≡ Some fault → IsOther fault.0
unfolding front_fault
front_cause at file fault e = elim (either_some (option_map of_header (header_fault (drop at file))) (option_map of_type (segment_refusal (fields_of (drop at file)))) fault e) [
  | inl here ↦ let found = mapped of_header (header_fault (drop at file)) fault here in
      subst (λ (f : Fault). IsOther f.0) found.2
      (file_cause (to_file_header_fault at (version_of (drop at file)) found.0).0 (header_cause at (version_of (drop at file)) (drop at file) found.0 found.1))
  | inr kind ↦ let found = mapped of_type (segment_refusal (fields_of (drop at file))) fault kind in
      subst (λ (f : Fault). IsOther f.0) found.2 (segment_cause (fields_of (drop at file)) found.0 found.1)
]
  where
    of_header : HeaderFault → Fault
    of_header of = as_load (to_file_header_fault at (version_of (drop at file)) of)

    of_type : LoadCause → Fault
    of_type cause = (cause, at)

answer_cause : (answer : Result (Option (ℕ × Record)) RecordFault) (fault : Fault) → answer_fault answer ≡ Some fault → IsOther fault.0
answer_cause (Err found) fault e =
    subst (λ (f : Fault). IsOther f.0) (same_some (as_load (to_file_record_fault found)) fault e) (file_cause (to_file_record_fault found).0 (record_cause found))
answer_cause (Ok None) fault e = absurd cc
answer_cause (Ok (Some found)) fault e =
    let of = mapped (λ (cause : LoadCause). (cause, found.0)) (record_refusal found.1) fault e in
    subst (λ (f : Fault). IsOther f.0) of.2 (refused_cause found.1 of.0 of.1)

read_cause : (at : ℕ) (file : List ℕ) (fault : Fault) → HasReadFault at file fault → IsOther fault.0
read_cause at file fault (OfFront is) = front_cause at file fault is
read_cause at file fault (OfRecord f before reader header front run all is) = answer_cause _ fault is

pub first_load_cause : (file : List ℕ) (fault : LoadFault) → IsFirstLoadFault file fault → IsOther fault.cause
first_load_cause file fault (IsEmpty none e) = subst (λ (f : LoadFault). IsOther f.cause) (sym e) (λ is. cc)
first_load_cause file fault (OfReading is) = read_cause is.at file (fault.cause, fault.at) is.here
first_load_cause file fault (OfSegments is) = later_cause is.segments fault is.here

pub first_runtime_cause : (file : List ℕ) (fault : LoadFault) → IsFirstRuntimeFault file fault → IsOther fault.cause
first_runtime_cause file fault (OfLoading is) = first_load_cause file fault is
first_runtime_cause file fault (OfKind segments loadable is) = runtime_cause segments fault is
