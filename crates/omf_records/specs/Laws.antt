-- Laws of records and files, in the format's own terms.
use Rattle.std.specs.Prelude.{◌≡◌, ℕ, List, ◌++◌, Ok}
use Rattle.std.specs.List.{flat_map, AllByRecursion}
use Rattle.omf_format.specs.declared.fault.FileFault.{FileFault}
use Rattle.omf_format.specs.Number.{IsBytes}
use Rattle.omf_format.specs.Field.{Layout}
use Rattle.omf_format.specs.Record.{Record, spelling, IsRecord}
use Rattle.omf_format.specs.Reading.{Reader, first_record, HandsOut}
use Rattle.omf_format.specs.File.{Segment, IsSegment, IsFile, segment_of, IsFirstFault}

-- a record that is read is spelled so
abbrev pub ReadIsSpelled : Type 0
ReadIsSpelled = (layout : Layout) (bytes rest : List ℕ) (r : Record) → IsBytes bytes → first_record layout bytes ≡ Ok (r, rest)
    → IsRecord layout r × (bytes ≡ spelling layout r ++ rest)

-- a record that is spelled is read, whatever follows it
abbrev pub SpelledIsRead : Type 0
SpelledIsRead = (layout : Layout) (r : Record) (rest : List ℕ) → IsRecord layout r → first_record layout (spelling layout r ++ rest) ≡ Ok (r, rest)

-- no spelling of a record begins a spelling of another one
abbrev pub NoneBeginsAnother : Type 0
NoneBeginsAnother = (layout : Layout) (a b : Record) (x y : List ℕ) → IsRecord layout a → IsRecord layout b
    → spelling layout a ++ x ≡ spelling layout b ++ y → (a ≡ b) × (x ≡ y)

-- the records that a reader hands out are the body as it is: their spellings, in order, and what is left
abbrev pub HandedOutIsBody : Type 0
HandedOutIsBody = (reader last : Reader) (founds : List (ℕ × Record)) → IsBytes reader.left → HandsOut reader founds last
    → AllByRecursion (λ found. IsRecord reader.layout found.1) founds
    × (reader.left ≡ flat_map (λ found. spelling reader.layout found.1) founds ++ last.left)

-- a file is one list of segments at most
abbrev pub OneListOfSegments : Type 0
OneListOfSegments = (file : List ℕ) (a b : List Segment) → IsFile a file → IsFile b file → a ≡ b

-- a file with a first fault is no list of segments
abbrev pub FaultIsNoFile : Type 0
FaultIsNoFile = (file : List ℕ) (fault : FileFault) (segments : List Segment) → IsFirstFault file fault → IsFile segments file → ⊥

-- a file has one first fault at most
abbrev pub OneFirstFault : Type 0
OneFirstFault = (file : List ℕ) (a b : FileFault) → IsFirstFault file a → IsFirstFault file b → a ≡ b

-- a segment of a file is the one whose header is at its start, with the records that a reader of its body hands out
abbrev pub SegmentIsShown : Type 0
SegmentIsShown = (s : Segment) (file : List ℕ) → IsBytes file → IsSegment s file
    → segment_of (record { start = s.start; fields = s.fields; file = file }) ≡ s
