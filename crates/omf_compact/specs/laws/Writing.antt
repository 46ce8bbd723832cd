-- Writing the segments of a load file one after another, as the functions that write them see it. No public clause of the crate
-- cites this module.
use Rattle.std.specs.Prelude.{◌≡◌, ◌-◌, ℕ, List, [], ◌∷◌, length, map, drop, Some, None, Vec, slice_get, if◌then◌else◌}
use Rattle.std.specs.declared.alloc.Global.{Global}
use Rattle.std.specs.List.{flat_map}
use Rattle.omf_format.specs.Number.{IsBytes}
use Rattle.omf_format.specs.Field.{written_layout}
use Rattle.omf_format.specs.Record.{Record, LongConst, Entry, spelling}
use Rattle.omf_format.specs.File.{Segment, segment_at}
use Rattle.load_meaning.specs.Cells.{Patch, cells}
use Rattle.load_meaning.specs.Exports.{Export, exports_of, exports_from}
use Rattle.load_meaning.specs.Loadable.{IsLoadable}
use Rattle.load_meaning.specs.WrittenBody.{body_records}
use Rattle.load_writer.specs.declared.written.Patch as code
use Rattle.load_writer.specs.WrittenParts.{seen}
use Rattle.omf_compact.specs.declared.fault.CompactCause.{CompactCause}
use Rattle.omf_compact.specs.declared.fault.CompactCause.TheVariants.{BrokenPart, Memory}
use Rattle.omf_compact.specs.declared.fault.CompactFault.{CompactFault}
use Rattle.omf_compact.specs.Stretches.{first_broken, stretches, bytes_in}
use Rattle.omf_compact.specs.Canonical.{Plain, plain, broken_in, is_pathname}
use Rattle.omf_compact.specs.laws.Words.{entries_in}

-- the segments are those of a load file
pub record IsKnown (segments : List Segment) : Type 0 where
  pub file : List ℕ
  pub bytes : IsBytes file
  pub loadable : IsLoadable file segments

-- there is a segment with this number
abbrev pub HasSegment : List Segment → ℕ → Type 0
HasSegment segments number = (s : Segment) × (segment_at segments number ≡ Some s)

-- ---- judging

-- no part of the segment's cells is broken, and these are their stretches
pub record HasStretches (s : Segment) (patches : List Patch) : Type 0 where
  pub whole : first_broken (cells s) ≡ None
  pub are : patches ≡ stretches (cells s)

-- each list has the stretches of its segment
pub record AreStretches (segments : List Segment) (lists : List (Vec code.Patch Global)) : Type 0 where
  pub count : length lists ≡ length segments
  pub each : (k : ℕ) (s : Segment) (patches : Vec code.Patch Global) → slice_get segments k ≡ Some s → slice_get lists k ≡ Some patches → HasStretches s (map seen patches.items)

-- the fault reports the first broken part, unless out of memory
abbrev pub IsJudgedBy : CompactCause → CompactFault → List Segment → Type 0
IsJudgedBy BrokenPart fault segments = broken_in 1 (plain segments) ≡ Some (fault.segment, fault.at)
IsJudgedBy Memory fault segments = (fault.segment ≡ 0) × (fault.at ≡ 0)
IsJudgedBy _ fault segments = ⊥

abbrev pub IsJudged : CompactFault → List Segment → Type 0
IsJudged fault segments = IsJudgedBy fault.cause fault segments

-- ---- writing

-- the records of a segment before its ENTRY records
unfoldable pub first_records : ℕ → Plain → List Record
first_records number p = if is_pathname p then LongConst (bytes_in p.cells') ∷ [] else body_records number (bytes_in p.cells') (stretches p.cells')

-- their spellings
unfoldable pub first_text : ℕ → Plain → List ℕ
first_text number p = flat_map (spelling written_layout) (first_records number p)

-- those of the ENTRY records
unfoldable pub entries_text : Segment → List ℕ
entries_text s = flat_map (spelling written_layout) (entries_in s)

-- an ENTRY record
abbrev pub entry_of : Export → Record
entry_of e = Entry e.segment e.offset e.name

-- `place` exports are before those of the segment with this number
abbrev pub AtExports : List Segment → ℕ → ℕ → Type 0
AtExports segments number place = drop place (exports_of segments) ≡ exports_from number (drop (number - 1) segments)
