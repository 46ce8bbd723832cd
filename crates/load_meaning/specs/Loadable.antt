-- Load files: which files are loaded, and the first fault of every other file, by phases. Each phase goes through the
-- segments in order, and a later one begins where the earlier ones found nothing (GS/OS Reference, appendix F).
use Rattle.std.specs.Prelude.{◌≡◌, ◌<◌, ◌≤◌, ◌⊎◌, ℕ, ◌+◌, ◌-◌, ◌*◌, not, ◌||◌, ◌&&◌, true, false, if◌then◌else◌, List, [], ◌∷◌, ◌++◌, length, map, take, drop, codes, Option, Some, None, option_map, Result, Ok, Err, nat_lt, ◌==◌}
use Rattle.std.specs.List.{AllByRecursion, list_any}
use Rattle.std.specs.Option.{option_or, option_map_or}
use Rattle.std.specs.Str.{bytes_eq}
use Rattle.omf_format.specs.declared.fault.RecordFault.{RecordFault}
use Rattle.omf_format.specs.declared.fault.FileCause.{FileCause}
use Rattle.omf_format.specs.declared.fault.FileCause.TheVariants as causes
use Rattle.load_meaning.specs.declared.load.LoadCause.{LoadCause}
use Rattle.load_meaning.specs.declared.load.LoadCause.TheVariants.{NotLoadFile, Truncated, BadHeader, Unsupported, BadRecord, Sequence, DataTooLong, PatchOutside, NoSuchTarget, DynamicTarget, BadTable, Memory}
use Rattle.load_meaning.specs.declared.load.LoadFault.{LoadFault}
use Rattle.load_meaning.specs.declared.table.Target.{Target}
use Rattle.omf_format.specs.Header.{HeaderFields, fields_of, version_of, header_fault, form_of, is_dynamic, is_skipped, first_of}
use Rattle.omf_format.specs.Record.{Record, Align, Org, Using, Strong, Label, Equate, Formula, Entry}
use Rattle.omf_format.specs.Reading.{Reader, next_answer, HandsOut}
use Rattle.omf_format.specs.File.{Segment, body_reader, IsHeader, AreSegments, IsFile, segment_at, FaultAt, to_file_header_fault, to_file_record_fault}
use Rattle.omf_format.specs.Body.{body_bytes}
use Rattle.load_meaning.specs.Cells.{Patch, segment_bytes, patches_in, patches_of}
use Rattle.load_meaning.specs.Table.{IsTableOf, file_entry, entry_start}
use Rattle.load_meaning.specs.Pathnames.{ArePaths, has_pathnames, most_paths, rows_flaw, is_one_long, paths_of}
use Rattle.load_meaning.specs.LoadTable.{is_table, table_of, entry_count, targets_of, is_place, zero_checks, entries_checks}

-- a cause, and its displacement in the file
abbrev pub Fault : Type 0
Fault = LoadCause × ℕ

-- ---- phase 1: header, name and type, and then the records one by one

-- why a load file can't have a segment of this name and type, the name first: `ExpressLoad`, with or without `~` before it, is a segment for
-- the Express Loader, which isn't read, and a library dictionary belongs to a library
unfoldable pub segment_refusal : HeaderFields → Option LoadCause
segment_refusal f = first_of (
    (bytes_eq f.name (codes "ExpressLoad") || bytes_eq f.name (126 ∷ codes "ExpressLoad"), Unsupported)
    ∷ (form_of f.kind == 0x08, NotLoadFile)
    ∷ [])

-- why a load segment can't have this record: it belongs to an object file
abbrev pub record_refusal : Record → Option LoadCause
record_refusal (Align n) = Some NotLoadFile
record_refusal (Org n) = Some NotLoadFile
record_refusal (Using name) = Some NotLoadFile
record_refusal (Strong name) = Some NotLoadFile
record_refusal (Label global name size form private) = Some NotLoadFile
record_refusal (Equate global name size form private expr) = Some NotLoadFile
record_refusal (Formula code count n expr) = Some NotLoadFile
record_refusal _ = None

-- a cause that a load file shares with every file
abbrev pub load_cause : FileCause → LoadCause
load_cause causes.Truncated = Truncated
load_cause causes.BadHeader = BadHeader
load_cause causes.Unsupported = Unsupported
load_cause causes.BadRecord = BadRecord
load_cause causes.Memory = Memory

-- a fault that any file may have
abbrev pub as_load : FaultAt → Fault
as_load reported = (load_cause reported.0, reported.1)

-- what is wrong with the header there, or else with its name or type, for which it is the segment's start
unfoldable pub front_fault : ℕ → List ℕ → Option Fault
front_fault start file = option_or
    (option_map (λ of. as_load (to_file_header_fault start (version_of (drop start file)) of)) (header_fault (drop start file)))
    (option_map (λ cause. (cause, start)) (segment_refusal (fields_of (drop start file))))

-- what is wrong with the next record: its fault, or that no load segment has it
abbrev pub answer_fault : Result (Option (ℕ × Record)) RecordFault → Option Fault
answer_fault (Err fault) = Some (as_load (to_file_record_fault fault))
answer_fault (Ok None) = None
answer_fault (Ok (Some found)) = option_map (λ cause. (cause, found.0)) (record_refusal found.1)

-- a segment that phase 1 lets pass
pub record IsLoadSegment (s : Segment) : Type 0 where
  pub front : segment_refusal s.fields ≡ None
  pub records : AllByRecursion (λ found. record_refusal found.1 ≡ None) s.records

-- the first fault of the segment that starts there: of its header, its name or its type, or else of the first record that has one
pub data HasReadFault (start : ℕ) (file : List ℕ) (fault : Fault) : Type 0 where
  OfFront : front_fault start file ≡ Some fault → HasReadFault start file fault
  OfRecord : (f : HeaderFields) (before : List (ℕ × Record)) (reader : Reader) → IsHeader start f file → segment_refusal f ≡ None
      → HandsOut (body_reader start f file) before reader → AllByRecursion (λ found. record_refusal found.1 ≡ None) before
      → answer_fault (next_answer reader) ≡ Some fault → HasReadFault start file fault

-- the segments before it pass phase 1, and the next one has this fault
pub record IsReadFault (file : List ℕ) (fault : LoadFault) : Type 0 where
  pub before : List Segment
  pub at : ℕ
  pub sound : AreSegments before 0 file at
  pub pass : AllByRecursion IsLoadSegment before
  pub more : at < length file
  pub number : fault.segment ≡ length before + 1
  pub here : HasReadFault at file (fault.cause, fault.at)

-- ---- the later phases, over the segments of the file

-- the first fault of a phase, where `number` is that of the first segment in the list
abbrev pub first_in : (ℕ → Segment → Option Fault) → ℕ → List Segment → Option LoadFault
first_in phase number [] = None
first_in phase number (s ∷ segments) =
    option_or (option_map (λ fault. record { cause = fault.0; segment = number; at = fault.1 }) (phase number s)) (first_in phase (number + 1) segments)

-- phase 2 of a segment: SEGNUM is its number, and LENGTH has room for the bytes of its records
unfoldable pub shape_fault : ℕ → Segment → Option Fault
shape_fault number s = first_of (
    (not (s.fields.seg_num == number), (Sequence, s.start))
    ∷ (nat_lt s.fields.length (length (body_bytes s)), (DataTooLong, s.start))
    ∷ [])

-- why a patch isn't allowed in a segment of the file: it reaches past LENGTH; its target isn't there, or is skipped; or its target is
-- another segment, which is dynamic
unfoldable pub patch_refusal : List Segment → Segment → Patch → Option LoadCause
patch_refusal segments s p = first_of (
    (nat_lt s.fields.length (p.location + p.count), PatchOutside)
    ∷ (not (p.file == 1 && option_map_or (λ t. not (is_skipped t.fields.kind)) (segment_at segments p.segment) false), NoSuchTarget)
    ∷ (not (p.segment == s.fields.seg_num) && option_map_or (λ t. is_dynamic t.fields.kind) (segment_at segments p.segment) false, DynamicTarget)
    ∷ [])

-- why the first of these patches that isn't allowed there is refused
abbrev pub first_refusal : List Segment → Segment → List Patch → Option LoadCause
first_refusal segments s [] = None
first_refusal segments s (p ∷ patches) = option_or (patch_refusal segments s p) (first_refusal segments s patches)

-- an ENTRY names a place of the file's segments
abbrev pub entry_refusal : List Segment → Record → Option LoadCause
entry_refusal segments (Entry number offset name) = if is_place segments number offset then None else Some NoSuchTarget
entry_refusal _ _ = None

-- what phase 3 finds first in records of a segment, at the record's displacement: an ENTRY names a place, and each patch is allowed there
abbrev pub first_target_fault : List Segment → Segment → List (ℕ × Record) → Option Fault
first_target_fault segments s [] = None
first_target_fault segments s (found ∷ founds) =
    let refusal = option_or (entry_refusal segments found.1) (first_refusal segments s (patches_in s found.1)) in
    option_or (option_map (λ cause. (cause, found.0)) refusal) (first_target_fault segments s founds)

-- phase 3 of a segment: its records in order
abbrev pub target_fault : List Segment → ℕ → Segment → Option Fault
target_fault segments number s = first_target_fault segments s s.records

-- why a table isn't one, as the place in its segment: it is the second one, has an attribute or a patch, has not the size
-- of entries, or a field is wrong, in the order of their displacements
unfoldable pub table_flaw : List Segment → ℕ → Segment → Option ℕ
table_flaw segments number s = first_of (
    (list_any is_table (take (number - 1) segments), 0)
    ∷ (is_dynamic s.fields.kind || is_skipped s.fields.kind, 0)
    ∷ (nat_lt 0 (length (patches_of s)), 0)
    ∷ (not (s.fields.length == 12 + 14 * entry_count s.fields.length), s.fields.length)
    ∷ zero_checks (segment_bytes s) 0 8
    ++ (entries_checks segments (segment_bytes s) 0 (entry_count s.fields.length) ++ zero_checks (segment_bytes s) (entry_start (entry_count s.fields.length)) 4))

-- why a pathname segment isn't one, as the place in its segment: it is the second one, has an attribute or another body than one LCONST
-- of LENGTH bytes, or a field is wrong
unfoldable pub pathnames_flaw : List Segment → ℕ → Segment → Option ℕ
pathnames_flaw segments number s = option_or
    (first_of (
    (list_any has_pathnames (take (number - 1) segments), 0)
    ∷ (is_dynamic s.fields.kind || is_skipped s.fields.kind, 0)
    ∷ (not (is_one_long s.fields.length s.records), 0)
    ∷ []))
    (rows_flaw most_paths 0 0 (segment_bytes s))

-- phase 4 of a segment: where it has the pathnames, it is laid out so
abbrev pub pathnames_fault : List Segment → ℕ → Segment → Option Fault
pathnames_fault segments number s = if has_pathnames s then option_map (λ at. (BadTable, at)) (pathnames_flaw segments number s) else None

-- phase 5 of a segment: where it is a table, it is laid out as one
abbrev pub table_fault : List Segment → ℕ → Segment → Option Fault
table_fault segments number s = if is_table s then option_map (λ at. (BadTable, at)) (table_flaw segments number s) else None

-- the first fault of the phases after phase 1
unfoldable pub later_fault : List Segment → Option LoadFault
later_fault segments = option_or (first_in shape_fault 1 segments)
    (option_or (first_in (target_fault segments) 1 segments)
    (option_or (first_in (pathnames_fault segments) 1 segments) (first_in (table_fault segments) 1 segments)))

-- all segments pass phase 1, and a later phase finds this fault first
pub record IsLaterFault (file : List ℕ) (fault : LoadFault) : Type 0 where
  pub segments : List Segment
  pub is_file : IsFile segments file
  pub pass : AllByRecursion IsLoadSegment segments
  pub here : later_fault segments ≡ Some fault

-- ---- the two answers

-- the file is a load file of these segments, of which there is one at least
pub record IsLoadable (file : List ℕ) (segments : List Segment) : Type 0 where
  pub is_file : IsFile segments file
  pub some : segments ≡ [] → ⊥
  pub pass : AllByRecursion IsLoadSegment segments
  pub sound : later_fault segments ≡ None

-- the first fault of a file that isn't loaded
pub data IsFirstLoadFault (file : List ℕ) (fault : LoadFault) : Type 0 where
  IsEmpty : file ≡ [] → fault ≡ record { cause = NotLoadFile; segment = 0; at = 0 } → IsFirstLoadFault file fault
  OfReading : IsReadFault file fault → IsFirstLoadFault file fault
  OfSegments : IsLaterFault file fault → IsFirstLoadFault file fault

-- ---- what a load file has

-- the patches of a segment in file order, without the displacements of their records
abbrev pub patch_list : Segment → List Patch
patch_list s = map (λ found. found.1) (patches_of s)

-- a patch that is in a load segment: inside LENGTH, and its target is there, isn't skipped, and is the segment itself or
-- static
pub record IsPatch (segments : List Segment) (s : Segment) (p : Patch) : Type 0 where
  pub inside : p.location + p.count ≤ s.fields.length
  pub file' : p.file ≡ 1
  pub target : Segment
  pub is : segment_at segments p.segment ≡ Some target
  pub kept : is_skipped target.fields.kind ≡ false
  pub near : (p.segment ≡ s.fields.seg_num) ⊎ (is_dynamic target.fields.kind ≡ false)

-- a target of a table in the file itself: an offset in a dynamic segment that isn't skipped
pub record IsOwnTarget (segments : List Segment) (target : Target) : Type 0 where
  pub file' : target.file ≡ 1
  pub segment' : Segment
  pub is : segment_at segments target.segment ≡ Some segment'
  pub dynamic : is_dynamic segment'.fields.kind ≡ true
  pub kept : is_skipped segment'.fields.kind ≡ false
  pub inside : target.offset < segment'.fields.length

-- a target in another file, which has a row in the pathname segment
pub record IsFarTarget (segments : List Segment) (target : Target) : Type 0 where
  pub beyond : 2 ≤ target.file
  pub row : target.file ≤ length (paths_of segments) + 1

-- a target of a table, in the file itself or in another
abbrev pub IsTarget : List Segment → Target → Type 0
IsTarget segments target = IsOwnTarget segments target ⊎ IsFarTarget segments target

-- a load file's table: static, not skipped, without patches, and laid out as the entries of its targets
pub record IsTable (segments : List Segment) (s : Segment) : Type 0 where
  pub static : is_dynamic s.fields.kind ≡ false
  pub kept : is_skipped s.fields.kind ≡ false
  pub unpatched : patches_of s ≡ []
  pub targets : AllByRecursion (IsTarget segments) (targets_of s)
  pub laid_out : IsTableOf (map file_entry (targets_of s)) (segment_bytes s)

-- a load file's pathname segment: static, not skipped, and laid out as the rows of the file's paths
pub record IsPathnames (segments : List Segment) (s : Segment) : Type 0 where
  pub static : is_dynamic s.fields.kind ≡ false
  pub kept : is_skipped s.fields.kind ≡ false
  pub laid_out : ArePaths (paths_of segments) (segment_bytes s)

-- a load file's segment with a number
pub record IsSoundSegment (segments : List Segment) (number : ℕ) (s : Segment) : Type 0 where
  pub number' : s.fields.seg_num ≡ number
  pub fits : length (body_bytes s) ≤ s.fields.length
  pub patches : AllByRecursion (IsPatch segments s) (patch_list s)
  pub table : is_table s ≡ true → IsTable segments s
  pub only : is_table s ≡ true → table_of segments ≡ Some number
  pub paths : has_pathnames s ≡ true → IsPathnames segments s
