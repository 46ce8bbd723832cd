-- How the segments of a file are seen, and why a file is refused.
use Rattle.std.specs.Prelude.{◌≡◌, ℕ, ◌+◌, ◌<◌, ◌^◌, List, length, All, Err}
use Rattle.omf_format.specs.declared.fault.HeaderFault.{HeaderFault}
use Rattle.omf_format.specs.declared.fault.HeaderFault.TheVariants as header
use Rattle.omf_format.specs.declared.fault.RecordFault.{RecordFault}
use Rattle.omf_format.specs.declared.fault.FileCause.{FileCause}
use Rattle.omf_format.specs.declared.fault.FileCause.TheVariants.{Memory}
use Rattle.omf_format.specs.declared.fault.FileFault.{FileFault}
use Rattle.omf_format.specs.Record.{Record}
use Rattle.omf_format.specs.Reading.{Reader, next_answer, HandsOut}
use Rattle.omf_format.specs.File.{Segment, Placed, segment_of, IsHeader, IsSegment, FaultAt, to_file_record_fault, HasFault, IsFirstFault}
use Rattle.omf_header.specs.View.{fields}
use Rattle.omf_records.specs.declared.segment.SegmentView.{SegmentView}

-- a view without where its file lies
abbrev pub placed_view : SegmentView → Placed
placed_view v = record { start = v.start; fields = fields v.header; file = v.file.now }

-- the segment that a view shows
abbrev pub segment_of_view : SegmentView → Segment
segment_of_view v = segment_of (placed_view v)

-- a header starts there and passes its checks, in a file of fewer than 2 ^ 32 bytes
pub record IsPlaced (p : Placed) : Type 0 where
  pub short : length p.file < 2 ^ 32
  pub header : IsHeader p.start p.fields p.file

-- the view is placed, and the segment that it shows is in its file
pub record IsSound (v : SegmentView) : Type 0 where
  pub placed' : IsPlaced (placed_view v)
  pub segment : IsSegment (segment_of_view v) v.file.now

-- the view shows a segment of this file
pub record IsView (file : List ℕ) (v : SegmentView) : Type 0 where
  pub file' : v.file.now ≡ file
  pub segment : IsSegment (segment_of_view v) file

-- this is reported for the first record from there on that can't be read
pub record HasRecordFault (reader : Reader) (reported : FaultAt) : Type 0 where
  pub before : List (ℕ × Record)
  pub at : Reader
  pub of : RecordFault
  pub run : HandsOut reader before at
  pub fails : next_answer at ≡ Err of
  pub reported' : reported ≡ to_file_record_fault of

-- a fault with the cause Memory has no place, and every other one is this
abbrev pub UnlessMemory : FileCause → FileFault → Type 0 → Type 0
UnlessMemory Memory fault P = (fault.segment ≡ 0) × (fault.at ≡ 0)
UnlessMemory _ _ P = P

-- the fault is the first one of the file, unless out of memory
abbrev pub IsRefused : FileFault → List ℕ → Type 0
IsRefused fault file = UnlessMemory fault.cause fault (IsFirstFault file fault)

-- the fault is that of the segment with this number that starts there, unless out of memory
abbrev pub IsSegmentFault : FileFault → ℕ → ℕ → List ℕ → Type 0
IsSegmentFault fault number start file = UnlessMemory fault.cause fault ((fault.segment ≡ number) × HasFault start file (fault.cause, fault.at))

-- the fault has this cause, and this place in the segment with this number, unless out of memory
pub record IsReported (reported : FaultAt) (number : ℕ) (fault : FileFault) : Type 0 where
  pub cause : fault.cause ≡ reported.0
  pub place : UnlessMemory reported.0 fault ((fault.segment ≡ number) × (fault.at ≡ reported.1))

-- the place of a header's fault fits 32 bits
abbrev pub HasPlace : HeaderFault → ℕ → Type 0
HasPlace (header.Truncated n) start = start + n < 2 ^ 32
HasPlace (header.Unsupported field) start = start + 44 < 2 ^ 32
HasPlace (header.BadField field) start = start + 44 < 2 ^ 32
HasPlace header.Memory start = Unit {0}

-- each is sound, and they are fewer than 2 ^ 32
pub record FitsViews (views : List SegmentView) : Type 0 where
  pub few : length views < 2 ^ 32
  pub each : All IsSound views
