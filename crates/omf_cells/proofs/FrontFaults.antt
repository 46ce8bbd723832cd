-- The fault of a header, a name or a type, or of a record, is that of its segment.
use Rattle.std.proofs.Common.{◌≡◌, ℕ, ◌^◌, ◌<◌, ◌≤◌, List, length, drop, Some, None, refl, sym, ap, subst, ◌∙◌, arith}
use Rattle.std.proofs.lemmas.List.{length-drop}
use Rattle.omf_format.specs.declared.fault.HeaderFault.{HeaderFault}
use Rattle.omf_format.specs.declared.fault.HeaderFault.TheVariants as header
use Rattle.omf_format.specs.declared.fault.RecordFault.{RecordFault}
use Rattle.omf_format.specs.declared.fault.RecordFault.TheVariants as record_faults
use Rattle.load_meaning.specs.declared.load.LoadCause.{LoadCause}
use Rattle.load_meaning.specs.declared.load.LoadCause.TheVariants.{Memory}
use Rattle.load_meaning.specs.declared.load.LoadFault.{LoadFault}
use Rattle.omf_format.specs.Header.{HeaderFields, version_of, fields_of, header_fault}
use Rattle.omf_format.specs.laws.HeaderLaws.{fault_fits}
use Rattle.omf_format.specs.Reading.{Reader, HandsOut}
use Rattle.omf_format.specs.File.{body_reader, IsHeader, to_file_header_fault, to_file_record_fault}
use Rattle.load_meaning.specs.Loadable.{Fault, segment_refusal, as_load, front_fault, HasReadFault, OfFront, OfRecord}
use Rattle.load_meaning.specs.laws.LoadableLaws.{header_fault-reported}
use Rattle.omf_header.specs.View.{IsRefused}
use Rattle.omf_records.specs.Segments.{HasPlace}
use Rattle.load_content.specs.Views.{UnlessMemory}
use Rattle.load_content.specs.Walk.{HasBodyFault}
use Rattle.omf_cells.specs.Load.{IsReadRefused, IsHeaderFault}

-- the place of a header's fault fits 32 bits, as the file does
pub has_place : (of : HeaderFault) (start : ℕ) (bytes file : List ℕ) → bytes ≡ drop start file → start < length file → length file < 2 ^ 32 → IsRefused of bytes → HasPlace of start
has_place (header.Truncated n) start bytes file is inside short refused =
    let n-is : n ≡ length bytes = fault_fits bytes (header.Truncated n) refused in
    omega (arith, ap length is, length-drop start file, n-is)
has_place (header.Unsupported field) start bytes file is inside short refused =
    let long : 44 ≤ length bytes = fault_fits bytes (header.Unsupported field) refused in
    omega (arith, ap length is, length-drop start file, long)
has_place (header.BadField field) start bytes file is inside short refused =
    let long : 44 ≤ length bytes = fault_fits bytes (header.BadField field) refused in
    omega (arith, ap length is, length-drop start file, long)
has_place header.Memory start bytes file is inside short refused = tt

-- a header at fault
pub of_header : (of : HeaderFault) (start : ℕ) (bytes file : List ℕ) → bytes ≡ drop start file → header_fault bytes ≡ Some of → HasReadFault start file (as_load (to_file_header_fault start (version_of bytes) of))
of_header of start bytes file is e =
    subst (λ (b : List ℕ). HasReadFault start file (as_load (to_file_header_fault start (version_of b) of))) (sym is) (header_fault-reported of start file (ap header_fault (sym is) ∙ e))

-- a name or type that is refused
pub of_kind : (f : HeaderFields) (cause : LoadCause) (start : ℕ) (file : List ℕ) → IsHeader start f file → segment_refusal f ≡ Some cause → HasReadFault start file (cause, start)
unfolding front_fault
of_kind f cause start file is e =
    let passes' : header_fault (drop start file) ≡ None = is.passes in
    let there : segment_refusal (fields_of (drop start file)) ≡ Some cause = ap segment_refusal (sym is.fields) ∙ e in
    OfFront (rw (passes', there) refl)

-- as a refusal of the segment
pub refused_header : (of : HeaderFault) (number start : ℕ) (bytes file : List ℕ) (fault : LoadFault) → bytes ≡ drop start file → IsRefused of bytes → IsHeaderFault of start (version_of bytes) number fault → IsReadRefused fault number start file
refused_header (header.Truncated n) number start bytes file fault is refused says =
    subst (λ (x : LoadFault). IsReadRefused x number start file) (sym says) (refl, of_header (header.Truncated n) start bytes file is refused)
refused_header (header.Unsupported field) number start bytes file fault is refused says =
    subst (λ (x : LoadFault). IsReadRefused x number start file) (sym says) (refl, of_header (header.Unsupported field) start bytes file is refused)
refused_header (header.BadField field) number start bytes file fault is refused says =
    subst (λ (x : LoadFault). IsReadRefused x number start file) (sym says) (refl, of_header (header.BadField field) start bytes file is refused)
refused_header header.Memory number start bytes file fault is refused says =
    subst (λ (c : LoadCause). UnlessMemory c fault ((fault.segment ≡ number) × HasReadFault start file (fault.cause, fault.at))) (sym says.0) (says.1, says.2)

-- a body's fault
pub of_body : (start : ℕ) (f : HeaderFields) (file : List ℕ) (reader : Reader) (fault : Fault) → IsHeader start f file → segment_refusal f ≡ None → reader ≡ body_reader start f file → HasBodyFault reader fault → HasReadFault start file fault
of_body start f file reader fault header' front is has =
    OfRecord f has.before has.at header' front (subst (λ (r : Reader). HandsOut r has.before has.at) is has.run) has.pass has.fails

-- a record's fault never has the cause Memory
pub reported_named : (of : RecordFault) → (as_load (to_file_record_fault of)).0 ≡ Memory → ⊥
reported_named (record_faults.Truncated at) e = cc
reported_named (record_faults.Unsupported code at) e = cc
reported_named (record_faults.BadRecord at) e = cc
