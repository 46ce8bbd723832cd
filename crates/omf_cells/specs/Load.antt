-- What a load file is seen as, and why a file isn't one.
use Rattle.std.specs.Prelude.{◌≡◌, ◌≢◌, ◌⊎◌, ◌<◌, ◌^◌, ℕ, List, [], length, map, All, Some, None, IsSomeAnd, option_and_then}
use Rattle.std.specs.Option.{option_map_or}
use Rattle.omf_format.specs.declared.fault.HeaderFault.{HeaderFault}
use Rattle.omf_format.specs.declared.fault.HeaderFault.TheVariants as header
use Rattle.load_meaning.specs.declared.load.LoadCause.TheVariants.{Memory}
use Rattle.load_meaning.specs.declared.load.LoadFault.{LoadFault}
use Rattle.omf_format.specs.Header.{HeaderFields}
use Rattle.omf_format.specs.File.{Segment, IsHeader, segment_at, to_file_header_fault}
use Rattle.load_meaning.specs.Cells.{Byte, patches_of, cells}
use Rattle.load_meaning.specs.Loadable.{segment_refusal, as_load, HasReadFault, IsSoundSegment, IsLoadable, IsFirstLoadFault}
use Rattle.load_meaning.specs.laws.Steps.{in_segment}
use Rattle.load_meaning.specs.Exports.{exports_of}
use Rattle.load_meaning.specs.Pathnames.{paths_of}
use Rattle.load_meaning.specs.LoadTable.{table_of, targets_of}
use Rattle.load_meaning.specs.Runtime.{IsFirstRuntimeFault}
use Rattle.std.specs.Borrow.{Bor}
use Rattle.load_meaning.specs.declared.table.Target.{Target}
use Rattle.omf_records.specs.declared.segment.SegmentView.{SegmentView}
use Rattle.omf_records.specs.Segments.{segment_of_view}
use Rattle.load_content.specs.declared.targets.SegmentContent.{SegmentContent}
use Rattle.load_content.specs.Content.{IsContent, AreContents}
use Rattle.load_content.specs.Views.{UnlessMemory, IsLoadView}
use Rattle.load_tables.specs.declared.exports.Export.{Export}
use Rattle.load_tables.specs.View.{seen_export, seen_paths}

-- the fault is the first one of the file, unless out of memory
abbrev pub IsRefused : LoadFault → List ℕ → Type 0
IsRefused fault file = UnlessMemory fault.cause fault (IsFirstLoadFault file fault)

-- the fault is the first one of the file as a run-time library file, unless out of memory
abbrev pub IsRuntimeRefused : LoadFault → List ℕ → Type 0
IsRuntimeRefused fault file = UnlessMemory fault.cause fault (IsFirstRuntimeFault file fault)

-- the fault is the one that phase 1 finds in the segment with this number that starts there, unless out of memory
abbrev pub IsReadRefused : LoadFault → ℕ → ℕ → List ℕ → Type 0
IsReadRefused fault number start file = UnlessMemory fault.cause fault ((fault.segment ≡ number) × HasReadFault start file (fault.cause, fault.at))

-- a fault of a header of a version as one of the load file, in the segment with this number
abbrev pub IsHeaderFault : HeaderFault → ℕ → ℕ → ℕ → LoadFault → Type 0
IsHeaderFault (header.Truncated n) start version number fault = fault ≡ in_segment number (as_load (to_file_header_fault start version (header.Truncated n)))
IsHeaderFault (header.Unsupported field) start version number fault = fault ≡ in_segment number (as_load (to_file_header_fault start version (header.Unsupported field)))
IsHeaderFault (header.BadField field) start version number fault = fault ≡ in_segment number (as_load (to_file_header_fault start version (header.BadField field)))
IsHeaderFault header.Memory start version number fault = (fault.cause ≡ Memory) × (fault.segment ≡ 0) × (fault.at ≡ 0)

-- a header that phase 1 lets pass is at this displacement
pub record IsLoadHeader (start : ℕ) (f : HeaderFields) (file : List ℕ) : Type 0 where
  pub header : IsHeader start f file
  pub front : segment_refusal f ≡ None

-- the views of a load file show its segments, and what is kept of them is theirs
pub record AreLoadViews (views : List SegmentView) (contents : List SegmentContent) : Type 0 where
  pub file : List ℕ
  pub short : length file < 2 ^ 32
  pub each : All (IsLoadView file) views
  pub loadable : IsLoadable file (map segment_of_view views)
  pub contents' : AreContents views contents

-- what a load file keeps: views of its segments and what is in them, fewer than 2 ^ 32 names that it exports, and its paths
pub record IsKept (views : List SegmentView) (contents : List SegmentContent) (exports : List Export) (paths : List (Bor (List ℕ))) : Type 0 where
  pub views' : AreLoadViews views contents
  pub exports' : map seen_export exports ≡ exports_of (map segment_of_view views)
  pub few : length exports < 2 ^ 32
  pub paths' : seen_paths paths ≡ paths_of (map segment_of_view views)

-- ---- what the calls of a load file return

-- no segment has this number
abbrev pub IsOutside : List Segment → ℕ → Type 0
IsOutside segments number = (number ≡ 0) ⊎ (length segments < number)

-- the segment with this number has these fields
abbrev pub HasFields : List Segment → ℕ → HeaderFields → Type 0
HasFields segments number f = IsSomeAnd (segment_at segments number) (λ s. s.fields ≡ f)

-- there is a segment with this number, and its LENGTH is n bytes
abbrev pub HasLength : List Segment → ℕ → ℕ → Type 0
HasLength segments number n = IsSomeAnd (segment_at segments number) (λ s. s.fields.length ≡ n)

-- there is a segment with this number, and a record of it gives a patch
abbrev pub HasPatches : List Segment → ℕ → Type 0
HasPatches segments number = IsSomeAnd (segment_at segments number) (λ s. patches_of s ≢ [])

-- the cells of the segment with this number are these bytes
abbrev pub HasBytes : List Segment → ℕ → List ℕ → Type 0
HasBytes segments number bytes = IsSomeAnd (segment_at segments number) (λ s. cells s ≡ map Byte bytes)

-- the targets of the file's table, in the order of its entries; none where there is no table
abbrev pub table_targets : List Segment → List Target
table_targets segments = option_map_or targets_of (option_and_then (segment_at segments) (table_of segments)) []

-- the view shows the segment with this number, which is of a load file
pub record Shows (segments : List Segment) (number : ℕ) (v : SegmentView) : Type 0 where
  pub here : segment_at segments number ≡ Some (segment_of_view v)
  pub short : length v.file.now < 2 ^ 32
  pub view : IsLoadView v.file.now v
  pub sound : IsSoundSegment segments number (segment_of_view v)

-- what is kept of the segment with this number beside its header
pub record ShowsContent (segments : List Segment) (number : ℕ) (v : SegmentView) (content : SegmentContent) : Type 0 where
  pub shows : Shows segments number v
  pub content' : IsContent v content
