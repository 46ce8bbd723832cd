-- Laws of load files, in the format's own terms.
use Rattle.std.specs.Prelude.{◌≡◌, ℕ, List, [], length, map, drop, Some, Err}
use Rattle.omf_format.specs.declared.fault.HeaderFault.{HeaderFault}
use Rattle.omf_format.specs.declared.fault.RecordFault.{RecordFault}
use Rattle.load_meaning.specs.declared.load.LoadFault.{LoadFault}
use Rattle.omf_format.specs.Header.{version_of, header_fault}
use Rattle.omf_format.specs.File.{Segment, segment_at, to_file_header_fault, to_file_record_fault}
use Rattle.load_meaning.specs.Cells.{Byte, segment_bytes, patches_of, cells}
use Rattle.load_meaning.specs.Loadable.{as_load, answer_fault, HasReadFault, IsLoadable, IsFirstLoadFault, IsSoundSegment}

-- a file is one list of load segments at most
abbrev pub OneLoadFile : Type 0
OneLoadFile = (file : List ℕ) (a b : List Segment) → IsLoadable file a → IsLoadable file b → a ≡ b

-- a load file has no first fault
abbrev pub LoadableHasNoFault : Type 0
LoadableHasNoFault = (file : List ℕ) (segments : List Segment) (fault : LoadFault) → IsLoadable file segments → IsFirstLoadFault file fault → ⊥

-- a file has one first fault at most
abbrev pub OneFirstFault : Type 0
OneFirstFault = (file : List ℕ) (a b : LoadFault) → IsFirstLoadFault file a → IsFirstLoadFault file b → a ≡ b

-- a header's fault has the cause and the place that it has in any file
abbrev pub HeaderFaultKeeps : Type 0
HeaderFaultKeeps = (of : HeaderFault) (start : ℕ) (file : List ℕ) → header_fault (drop start file) ≡ Some of
    → HasReadFault start file (as_load (to_file_header_fault start (version_of (drop start file)) of))

-- and so has a record's
abbrev pub RecordFaultKeeps : Type 0
RecordFaultKeeps = (of : RecordFault) → answer_fault (Err of) ≡ Some (as_load (to_file_record_fault of))

-- a segment of a load file has LENGTH cells
abbrev pub HasLengthCells : Type 0
HasLengthCells = (file : List ℕ) (segments : List Segment) (number : ℕ) (s : Segment) → IsLoadable file segments → segment_at segments number ≡ Some s
    → length (cells s) ≡ s.fields.length

-- the cells of a segment without patches are the bytes of its records and then zeros
abbrev pub CellsAreBytes : Type 0
CellsAreBytes = (s : Segment) → patches_of s ≡ [] → cells s ≡ map Byte (segment_bytes s)

-- a segment of a load file has its number, patches that are allowed there, and a table's layout where it is one
abbrev pub SegmentsAreSound : Type 0
SegmentsAreSound = (file : List ℕ) (segments : List Segment) → IsLoadable file segments → (number : ℕ) (s : Segment) → segment_at segments number ≡ Some s
    → IsSoundSegment segments number s
