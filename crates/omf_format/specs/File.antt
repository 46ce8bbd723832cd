-- A file is its segments, one after another; its first fault, with segment and displacement (GS/OS Reference, appendix F).
use Rattle.std.specs.Prelude.{◌≡◌, ℕ, ◌+◌, ◌<◌, true, false, List, [], ◌∷◌, length, take, drop, Some, None, Err, Option, slice_get, zero, suc}
use Rattle.omf_format.specs.declared.fault.HeaderFault.{HeaderFault}
use Rattle.omf_format.specs.declared.fault.HeaderFault.TheVariants as header
use Rattle.omf_format.specs.declared.fault.RecordFault.{RecordFault}
use Rattle.omf_format.specs.declared.fault.RecordFault.TheVariants as record_faults
use Rattle.omf_format.specs.declared.fault.FileCause.{FileCause}
use Rattle.omf_format.specs.declared.fault.FileCause.TheVariants as cause
use Rattle.omf_format.specs.declared.fault.FileFault.{FileFault}
use Rattle.omf_format.specs.Header.{HeaderFields, fields_of, version_of, header_fault, displacement_of}
use Rattle.omf_format.specs.Field.{layout_of}
use Rattle.omf_format.specs.Record.{Record}
use Rattle.omf_format.specs.Reading.{Reader, next_answer, HandsOut, records_of}

-- a segment of a file: where it starts, its header's fields, and its records with their displacements, END being the last
pub record Segment : Type 0 where
  pub start : ℕ
  pub fields : HeaderFields
  pub records : List (ℕ × Record)

-- a reader at the body's start: the body begins at DISPDATA and ends with the segment, which has BYTECNT bytes
unfoldable pub body_reader : ℕ → HeaderFields → List ℕ → Reader
body_reader start f file = record {
  end = start + f.byte_count;
  left = drop (start + f.disp_data) (take (start + f.byte_count) file);
  ended = false;
  layout = layout_of f.version f.lab_len;
}

-- the header starts there, and passes its checks
pub record IsHeader (start : ℕ) (f : HeaderFields) (file : List ℕ) : Type 0 where
  pub passes : header_fault (drop start file) ≡ None
  pub fields : f ≡ fields_of (drop start file)

-- the segment is in the file: its header, and its records up to END
pub record IsSegment (s : Segment) (file : List ℕ) : Type 0 where
  pub header : IsHeader s.start s.fields file
  pub last : Reader
  pub records : HandsOut (body_reader s.start s.fields file) s.records last
  pub ended : last.ended ≡ true

-- these segments follow one another from the first displacement on, and the next one would start at the second
abbrev pub AreSegments : List Segment → ℕ → List ℕ → ℕ → Type 0
AreSegments [] at file next = at ≡ next
AreSegments (s ∷ segments) at file next =
    (s.start ≡ at) × (at < length file) × IsSegment s file × AreSegments segments (at + s.fields.byte_count) file next

-- the file is these segments
abbrev pub IsFile : List Segment → List ℕ → Type 0
IsFile segments file = AreSegments segments 0 file (length file)

-- a segment's place in a file, and its header
pub record Placed : Type 0 where
  pub start : ℕ
  pub fields : HeaderFields
  pub file : List ℕ

-- the segment whose header starts there, with the records that a reader of its body hands out
abbrev pub segment_of : Placed → Segment
segment_of p = record { start = p.start; fields = p.fields; records = records_of (body_reader p.start p.fields p.file) }

-- the segment with this number, from 1
abbrev pub segment_at : List Segment → ℕ → Option Segment
segment_at segments zero = None
segment_at segments (suc k) = slice_get segments k

-- ---- the first fault

-- what is reported of a fault: its cause, and its displacement in the file
abbrev pub FaultAt : Type 0
FaultAt = FileCause × ℕ

-- a fault of the header that starts there, of a version: the end of the bytes, or the place of the field; no check says Memory
abbrev pub to_file_header_fault : ℕ → ℕ → HeaderFault → FaultAt
to_file_header_fault start version (header.Truncated n) = (cause.Truncated, start + n)
to_file_header_fault start version (header.Unsupported field) = (cause.Unsupported, start + displacement_of version field)
to_file_header_fault start version (header.BadField field) = (cause.BadHeader, start + displacement_of version field)
to_file_header_fault start version header.Memory = (cause.Memory, start)

-- a fault of a record
abbrev pub to_file_record_fault : RecordFault → FaultAt
to_file_record_fault (record_faults.Truncated at) = (cause.Truncated, at)
to_file_record_fault (record_faults.Unsupported code at) = (cause.Unsupported, at)
to_file_record_fault (record_faults.BadRecord at) = (cause.BadRecord, at)

-- the first fault of the segment that starts there is this one: its header's, or else that of the first record at fault
pub data HasFault (start : ℕ) (file : List ℕ) (reported : FaultAt) : Type 0 where
  InHeader : (fault : HeaderFault) → header_fault (drop start file) ≡ Some fault
      → reported ≡ to_file_header_fault start (version_of (drop start file)) fault → HasFault start file reported
  InRecord : (f : HeaderFields) (before : List (ℕ × Record)) (reader : Reader) (fault : RecordFault) → IsHeader start f file
      → HandsOut (body_reader start f file) before reader → next_answer reader ≡ Err fault → reported ≡ to_file_record_fault fault → HasFault start file reported

-- the first fault of a file: the segments before it are sound, and the next one has it
pub record IsFirstFault (file : List ℕ) (fault : FileFault) : Type 0 where
  pub before : List Segment
  pub at : ℕ
  pub sound : AreSegments before 0 file at
  pub more : at < length file
  pub number : fault.segment ≡ length before + 1
  pub here : HasFault at file (fault.cause, fault.at)
