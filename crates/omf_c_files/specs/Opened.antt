-- An open load file, and what a call on it answers and writes.
use Rattle.std.specs.Prelude.{◌≡◌, ◌≢◌, ℕ, ◌-◌, ◌<◌, ◌≤◌, ◌^◌, nat_lt, ◌==◌, Bool, not, ◌&&◌, if◌then◌else◌, List, Option, None, Some, length, map, slice_get, MatchOption, IsSome}
use Rattle.std.specs.List.{list_all}
use Rattle.omf_format.specs.Header.{is_dynamic, is_skipped}
use Rattle.load_meaning.specs.declared.load.LoadFault.{LoadFault}
use Rattle.omf_format.specs.File.{Segment, segment_at}
use Rattle.load_meaning.specs.Cells.{stands}
use Rattle.load_meaning.specs.Exports.{exports_of}
use Rattle.load_meaning.specs.Pathnames.{paths_of}
use Rattle.load_meaning.specs.Loadable.{IsLoadable, IsFirstLoadFault}
use Rattle.load_content.specs.Places.{address_in}
use Rattle.omf_cells.specs.Load.{table_targets}
use Rattle.omf_c_files.specs.declared.header.OmfHeader.{OmfHeader}
use Rattle.omf_c_files.specs.declared.target.OmfTarget.{OmfTarget}
use Rattle.omf_c_files.specs.declared.export.OmfExport.{OmfExport}
use Rattle.omf_c_files.specs.declared.fault.OmfFault.{OmfFault}
use Rattle.omf_c_files.specs.Faults.{ReportsLoad}
use Rattle.omf_c_files.specs.Handed.{Room, IsPut, status_done, status_refused, memory, status_no_file, status_is_open, status_too_long, status_no_segment, status_other_count, status_no_item}
use Rattle.omf_c_files.specs.Views.{ReportsFields, target_view, export_view}

-- a call ended with this status, and wrote nothing
abbrev pub WritesNothing : {X : Type 0} → ℕ → ℕ → X → X → Type 0
WritesNothing why status old new = (status ≡ why) × (new ≡ old)

-- a call on an open file: `Is` says how it ended and what it wrote; where no file is open it wrote nothing
abbrev pub OnOpen : {X : Type 0} → Option (List Segment) → (List Segment → ℕ → X → X → Type 0) → ℕ → X → X → Type 0
OnOpen opened Is status old new = MatchOption opened (WritesNothing status_no_file status old new) (λ segments. Is segments status old new)

-- a file is opened where none is, or it is refused, or there is no memory; in each other case nothing is opened or written
pub data IsOpened (file : List ℕ) (status : ℕ) (old new : Option (List Segment)) (fault after : OmfFault) : Type 0 where
  Opens : status ≡ status_done → old ≡ None → (segments : List Segment) → IsLoadable file segments → new ≡ Some segments → after ≡ fault → IsOpened file status old new fault after
  Refuses : status ≡ status_refused → old ≡ None → length file < 2 ^ 32 → new ≡ None → (first : LoadFault) → IsFirstLoadFault file first → ReportsLoad after first
      → IsOpened file status old new fault after
  Lacks : status ≡ memory → old ≡ None → length file < 2 ^ 32 → new ≡ None → after ≡ fault → IsOpened file status old new fault after
  IsLong : status ≡ status_too_long → old ≡ None → 2 ^ 32 ≤ length file → new ≡ None → after ≡ fault → IsOpened file status old new fault after
  IsThere : status ≡ status_is_open → IsSome old → new ≡ old → after ≡ fault → IsOpened file status old new fault after

-- a number of the file
abbrev pub Counts : (List Segment → ℕ) → List Segment → ℕ → ℕ → ℕ → Type 0
Counts count segments status old new = (status ≡ status_done) × (new ≡ count segments)

-- the header of the segment with a number, from 1
abbrev pub GivesHeader : ℕ → List Segment → ℕ → OmfHeader → OmfHeader → Type 0
GivesHeader number segments status old new =
    MatchOption (segment_at segments number) (WritesNothing status_no_segment status old new) (λ s. (status ≡ status_done) × ReportsFields new s.fields)

-- the bytes that are in memory for the segment with a number, from 1, where the segments lie at these addresses, one for each
pub data IsPlaced (number : ℕ) (addresses : List ℕ) (segments : List Segment) (status : ℕ) (old new : Room ℕ) : Type 0 where
  NoSegment : segment_at segments number ≡ None → WritesNothing status_no_segment status old new → IsPlaced number addresses segments status old new
  OtherCount : IsSome (segment_at segments number) → length addresses ≢ length segments → WritesNothing status_other_count status old new
      → IsPlaced number addresses segments status old new
  Lacks : IsSome (segment_at segments number) → length addresses ≡ length segments → WritesNothing memory status old new → IsPlaced number addresses segments status old new
  Placed : (s : Segment) → segment_at segments number ≡ Some s → length addresses ≡ length segments → IsPut (stands (address_in (map Some addresses)) s) status old new
      → IsPlaced number addresses segments status old new

-- where the entries of the jump table lead, in order; none where there is no table
abbrev pub GivesEntries : List Segment → ℕ → Room OmfTarget → Room OmfTarget → Type 0
GivesEntries segments = IsPut (map target_view (table_targets segments))

-- the path of the file with a number, from 2
abbrev pub path_of : List Segment → ℕ → Option (List ℕ)
path_of segments number = if nat_lt number 2 then None else slice_get (paths_of segments) (number - 2)

abbrev pub GivesPath : ℕ → List Segment → ℕ → Room ℕ → Room ℕ → Type 0
GivesPath number segments status old new = MatchOption (path_of segments number) (WritesNothing status_no_item status old new) (λ path. IsPut path status old new)

-- a segment that a run-time library file can have: it is dynamic, and isn't skipped
abbrev pub is_callable : Segment → Bool
is_callable s = is_dynamic s.fields.kind && not (is_skipped s.fields.kind)

-- 1 where the file is a run-time library file, and else 0
abbrev pub runtime_number : List Segment → ℕ
runtime_number segments = if list_all is_callable segments then 1 else 0

-- the name at a place among those that the file exports, from 0: its bytes, and the place that it represents
abbrev pub GivesExport : ℕ → List Segment → ℕ → Room ℕ × OmfExport → Room ℕ × OmfExport → Type 0
GivesExport place segments status old new =
    MatchOption (slice_get (exports_of segments) place) (WritesNothing status_no_item status old new)
    (λ export. IsPut export.name status old.0 new.0 × (new.1 ≡ (if status == status_done then export_view export else old.1)))
