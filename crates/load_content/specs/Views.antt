-- Views of the segments of a load file, and faults that a file has unless out of memory.
use Rattle.std.specs.Prelude.{◌≡◌, ◌<◌, ◌+◌, ◌^◌, ℕ, List, length, All, Option, Some}
use Rattle.load_meaning.specs.declared.load.LoadCause.{LoadCause}
use Rattle.load_meaning.specs.declared.load.LoadCause.TheVariants.{Memory}
use Rattle.load_meaning.specs.declared.load.LoadFault.{LoadFault}
use Rattle.omf_format.specs.File.{IsSegment}
use Rattle.load_meaning.specs.Loadable.{IsLoadSegment}
use Rattle.omf_records.specs.declared.segment.SegmentView.{SegmentView}
use Rattle.omf_records.specs.Segments.{segment_of_view}

-- a fault with the cause Memory has no place, and every other one is this
abbrev pub UnlessMemory : LoadCause → LoadFault → Type 0 → Type 0
UnlessMemory Memory fault P = (fault.segment ≡ 0) × (fault.at ≡ 0)
UnlessMemory _ _ P = P

-- the fault is this first one of the phases after phase 1, unless out of memory
abbrev pub IsLaterRefused : LoadFault → Option LoadFault → Type 0
IsLaterRefused fault first = UnlessMemory fault.cause fault (first ≡ Some fault)

-- the view shows a segment of the file that phase 1 lets pass
pub record IsLoadView (file : List ℕ) (v : SegmentView) : Type 0 where
  pub file' : v.file.now ≡ file
  pub segment : IsSegment (segment_of_view v) file
  pub pass : IsLoadSegment (segment_of_view v)

-- the views show segments of one file, fewer than 2 ^ 32 - 1
pub record AreShown (views : List SegmentView) : Type 0 where
  pub file : List ℕ
  pub short : length file < 2 ^ 32
  pub few : length views + 1 < 2 ^ 32
  pub each : All (IsLoadView file) views
