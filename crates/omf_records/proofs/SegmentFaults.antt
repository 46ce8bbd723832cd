-- The fault of a header or a record is that of its segment.
use Rattle.std.proofs.Common.{◌≡◌, ℕ, ◌^◌, ◌<◌, ◌≤◌, List, length, drop, Some, refl, sym, ap, subst, ◌∙◌, arith}
use Rattle.std.proofs.lemmas.List.{length-drop}
use Rattle.omf_format.specs.declared.fault.HeaderFault.{HeaderFault}
use Rattle.omf_format.specs.declared.fault.HeaderFault.TheVariants.{Truncated, Unsupported, BadField, Memory}
use Rattle.omf_format.specs.declared.fault.FileCause.{FileCause}
use Rattle.omf_format.specs.declared.fault.FileCause.TheVariants as cause
use Rattle.omf_format.specs.declared.fault.FileFault.{FileFault}
use Rattle.omf_format.specs.Header.{HeaderFields, version_of, header_fault}
use Rattle.omf_format.specs.laws.HeaderLaws.{fault_fits}
use Rattle.omf_format.specs.Reading.{Reader, HandsOut}
use Rattle.omf_format.specs.File.{body_reader, IsHeader, FaultAt, to_file_header_fault, HasFault, InHeader, InRecord}
use Rattle.omf_header.specs.View.{IsRefused}
use Rattle.omf_records.specs.Segments.{HasRecordFault, UnlessMemory, IsSegmentFault, IsReported, HasPlace}

-- the place of a header's fault fits 32 bits, as the file does
pub has_place : (of : HeaderFault) (start : ℕ) (bytes file : List ℕ) → bytes ≡ drop start file → start < length file → length file < 2 ^ 32 → IsRefused of bytes → HasPlace of start
has_place (Truncated n) start bytes file is inside short refused =
    let n-is : n ≡ length bytes = fault_fits bytes (Truncated n) refused in
    omega (arith, ap length is, length-drop start file, n-is)
has_place (Unsupported field) start bytes file is inside short refused =
    let long : 44 ≤ length bytes = fault_fits bytes (Unsupported field) refused in
    omega (arith, ap length is, length-drop start file, long)
has_place (BadField field) start bytes file is inside short refused =
    let long : 44 ≤ length bytes = fault_fits bytes (BadField field) refused in
    omega (arith, ap length is, length-drop start file, long)
has_place Memory start bytes file is inside short refused = tt

-- what follows from a fault's segment and from what is reported of it holds, unless out of memory
unless : (reported : FaultAt) (number : ℕ) (fault : FileFault) (P : Type 0) → ((fault.segment ≡ number) → ((fault.cause, fault.at) ≡ reported) → P) → IsReported reported number fault → UnlessMemory fault.cause fault P
unless reported number fault P then is = subst (λ (c : FileCause). UnlessMemory c fault P) (sym is.cause) (by_cause reported.0 refl is.place)
  where
    here : (fault.segment ≡ number) × (fault.at ≡ reported.1) → P
    here h = then h.0 (ap (λ (c : FileCause). (c, fault.at)) is.cause ∙ ap (λ (n : ℕ). (reported.0, n)) h.1)

    by_cause : (c : FileCause) → c ≡ reported.0 → UnlessMemory c fault ((fault.segment ≡ number) × (fault.at ≡ reported.1)) → UnlessMemory c fault P
    by_cause cause.Memory same h = h
    by_cause cause.Truncated same h = here h
    by_cause cause.BadHeader same h = here h
    by_cause cause.Unsupported same h = here h
    by_cause cause.BadRecord same h = here h

of_header : (of : HeaderFault) (number start : ℕ) (bytes file : List ℕ) (fault : FileFault) → bytes ≡ drop start file → header_fault bytes ≡ Some of → IsReported (to_file_header_fault start (version_of bytes) of) number fault
    → IsSegmentFault fault number start file
of_header of number start bytes file fault is e reported =
    unless (to_file_header_fault start (version_of bytes) of) number fault _
    (λ segment same. (segment, InHeader of (ap header_fault (sym is) ∙ e) (same ∙ ap (λ (b : List ℕ). to_file_header_fault start (version_of b) of) is))) reported

-- a header's fault, as it is reported, is that of its segment
pub segment_fault : (of : HeaderFault) (number start : ℕ) (bytes file : List ℕ) (fault : FileFault) → bytes ≡ drop start file → IsRefused of bytes → IsReported (to_file_header_fault start (version_of bytes) of) number fault
    → IsSegmentFault fault number start file
segment_fault (Truncated n) number start bytes file fault is refused reported = of_header (Truncated n) number start bytes file fault is refused reported
segment_fault (Unsupported field) number start bytes file fault is refused reported = of_header (Unsupported field) number start bytes file fault is refused reported
segment_fault (BadField field) number start bytes file fault is refused reported = of_header (BadField field) number start bytes file fault is refused reported
segment_fault Memory number start bytes file fault is refused reported =
    subst (λ (c : FileCause). UnlessMemory c fault ((fault.segment ≡ number) × HasFault start file (fault.cause, fault.at))) (sym reported.cause) reported.place

-- and so is a record's
pub record_segment_fault : (f : HeaderFields) (number start : ℕ) (file : List ℕ) (reader : Reader) (reported : FaultAt) (fault : FileFault) → IsHeader start f file → reader ≡ body_reader start f file
    → HasRecordFault reader reported → IsReported reported number fault → IsSegmentFault fault number start file
record_segment_fault f number start file reader reported fault is at has says =
    let here : HandsOut (body_reader start f file) has.before has.at = subst (λ (r : Reader). HandsOut r has.before has.at) at has.run in
    unless reported number fault _ (λ segment same. (segment, InRecord f has.before has.at has.of is here has.fails (same ∙ has.reported'))) says
