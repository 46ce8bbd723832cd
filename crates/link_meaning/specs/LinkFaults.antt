-- Why files aren't resolved: the first fault of the phases in which names find their definitions and members their places.
use Rattle.std.specs.Prelude.{◌≡◌, ℕ, ◌+◌, Bool, true, false, not, ◌&&◌, ◌||◌, List, [], ◌∷◌, ◌++◌, length, map, Option, Some, None, option_map, Result, Ok, Err, nat_lt, nat_le, ◌==◌, if◌then◌else◌, slice_get, ◌≤◌}
use Rattle.std.specs.Int.{is_power_of_two}
use Rattle.std.specs.List.{list_any, AllByRecursion}
use Rattle.omf_format.specs.Number.{IsBytes}
use Rattle.std.specs.Option.{option_or}
use Rattle.omf_format.specs.declared.fault.FileCause.{FileCause}
use Rattle.omf_format.specs.declared.fault.FileCause.TheVariants as causes
use Rattle.omf_format.specs.declared.fault.FileFault.{FileFault}
use Rattle.omf_format.specs.Header.{HeaderFields, alignment_of, form_of, first_of, is_dynamic, is_skipped}
use Rattle.omf_format.specs.Record.{Record, Align, Reloc, InterSeg, ShortReloc, ShortInterSeg, Super, Entry}
use Rattle.omf_format.specs.File.{Segment, IsFile, IsFirstFault}
use Rattle.omf_base.specs.declared.spot.Spot.{Spot}
use Rattle.load_meaning.specs.Pathnames.{IsPath, most_paths}
use Rattle.link_meaning.specs.declared.fault.LinkCause.{LinkCause}
use Rattle.link_meaning.specs.declared.fault.LinkCause.TheVariants.{Truncated, BadHeader, Unsupported, BadRecord, AlignFault, BadLength, BadLibrary, BadRuntime, NotDynamic, Empty, Unresolved, Duplicate, OrgConflict, TooManySegments, SegmentTooLong, Memory}
use Rattle.link_meaning.specs.declared.fault.LinkFault.{LinkFault}
use Rattle.link_meaning.specs.First.{IsFirst, HasNone, first_some}
use Rattle.object_meaning.specs.Sizes.{body_size}
use Rattle.link_meaning.specs.Member.{OfferedRow, Input, RuntimeFile, LinkSetting, Member, is_library, objects, form_in}
use Rattle.link_meaning.specs.declared.form.LinkForm.{LinkForm}
use Rattle.link_meaning.specs.declared.form.LinkForm.TheVariants.{Program, Runtime as LibraryForm}
use Rattle.load_meaning.specs.declared.load.LoadCause.{LoadCause}
use Rattle.load_meaning.specs.declared.load.LoadCause.TheVariants as loads
use Rattle.load_meaning.specs.declared.load.LoadFault.{LoadFault}
use Rattle.load_meaning.specs.Runtime.{IsRuntime, IsFirstRuntimeFault}
use Rattle.link_meaning.specs.Dictionary.{rows_of}
use Rattle.link_meaning.specs.declared.search.SearchKind.{SearchKind}
use Rattle.link_meaning.specs.declared.search.SearchKind.TheVariants.{Data, One, Any}
use Rattle.link_meaning.specs.Search.{FoundDefinition}
use Rattle.link_meaning.specs.LinkedList.{PlacedUse, all_uses, found_for, IsLinked}
use Rattle.link_meaning.specs.Layout.{in_load, load_names, load_members, load_headers}

abbrev pub no_spot : Spot
no_spot = record { file = 0; segment = 0; at = 0 }

-- a displacement in the member's file
abbrev pub spot_in : Member → ℕ → Spot
spot_in m at = record { file = m.file; segment = m.number; at = at }

-- ---- reading

abbrev pub link_cause : FileCause → LinkCause
link_cause causes.Truncated = Truncated
link_cause causes.BadHeader = BadHeader
link_cause causes.Unsupported = Unsupported
link_cause causes.BadRecord = BadRecord
link_cause causes.Memory = Memory

-- a type that no input has, and a dictionary that isn't the first segment
abbrev pub type_fault : Bool → HeaderFields → Option LinkCause
type_fault first f = first_of (
    (form_of f.kind == 0x02, Unsupported)
    ∷ (form_of f.kind == 0x04, Unsupported)
    ∷ (form_of f.kind == 0x08 && not first, BadRecord)
    ∷ [])

-- patches and ENTRY belong to load files, and ALIGN can't ask for more than the segment has
abbrev pub record_fault : ℕ → Record → Option LinkCause
record_fault align (Align n) = if is_power_of_two n && nat_le n align then None else Some AlignFault
record_fault align (Reloc count shift location offset) = Some BadRecord
record_fault align (InterSeg count shift location file segment offset) = Some BadRecord
record_fault align (ShortReloc count shift location offset) = Some BadRecord
record_fault align (ShortInterSeg count shift location segment offset) = Some BadRecord
record_fault align (Super form bytes) = Some BadRecord
record_fault align (Entry segment offset name) = Some BadRecord
record_fault _ _ = None

-- a segment's first fault with its place: its type, then its records in order, then its LENGTH, which counts the cells of the records and
-- RESSPC
unfoldable pub segment_fault : Bool → Segment → Option (LinkCause × ℕ)
segment_fault first s =
    option_or (option_map (λ cause. (cause, s.start)) (type_fault first s.fields))
    (option_or (first_some (λ found. option_map (λ cause. (cause, found.0)) (record_fault (alignment_of s.fields.align) found.1)) s.records)
    (if s.fields.length == body_size s + s.fields.res_spc then None else Some (BadLength, s.start)))

-- the segments' first fault, with the segment's number
abbrev pub segments_fault : ℕ → List Segment → Option (ℕ × (LinkCause × ℕ))
segments_fault number [] = None
segments_fault number (s ∷ segments) =
    option_or (option_map (λ found. (number, found)) (segment_fault (number == 1) s)) (segments_fault (number + 1) segments)

abbrev pub rows_in_file : List Segment → Result (List OfferedRow) ℕ
rows_in_file segments = if is_library segments then rows_of segments else Ok []

-- the first fault of a file: as of any file, then of its segments, then of its dictionary
pub data HasFileFault (file : ℕ) (bytes : List ℕ) (fault : LinkFault) : Type 0 where
  OfFile : (found : FileFault) → IsFirstFault bytes found
      → fault ≡ record { cause = link_cause found.cause; name = None; spot = record { file = file; segment = found.segment; at = found.at } }
      → HasFileFault file bytes fault
  OfSegment : (segments : List Segment) (found : ℕ × (LinkCause × ℕ)) → IsFile segments bytes → segments_fault 1 segments ≡ Some found
      → fault ≡ record { cause = found.1.0; name = None; spot = record { file = file; segment = found.0; at = found.1.1 } }
      → HasFileFault file bytes fault
  OfDictionary : (segments : List Segment) (at : ℕ) → IsFile segments bytes → segments_fault 1 segments ≡ None → rows_in_file segments ≡ Err at
      → fault ≡ record { cause = BadLibrary; name = None; spot = record { file = file; segment = 1; at = at } }
      → HasFileFault file bytes fault

-- the file is this input
pub record IsInput (bytes : List ℕ) (input : Input) : Type 0 where
  pub is_file : IsFile input.segments bytes
  pub sound : segments_fault 1 input.segments ≡ None
  pub rows : rows_in_file input.segments ≡ Ok input.rows

abbrev pub AreInputs : List (List ℕ) → List Input → Type 0
AreInputs [] [] = Unit {0}
AreInputs [] (input ∷ inputs) = ⊥
AreInputs (bytes ∷ files) [] = ⊥
AreInputs (bytes ∷ files) (input ∷ inputs) = IsInput bytes input × AreInputs files inputs

-- ---- run-time library files

-- how a run-time library file's cause is reported: one that every file may have keeps its name
abbrev pub runtime_cause : LoadCause → LinkCause
runtime_cause loads.Truncated = Truncated
runtime_cause loads.BadHeader = BadHeader
runtime_cause loads.Unsupported = Unsupported
runtime_cause loads.BadRecord = BadRecord
runtime_cause loads.Memory = Memory
runtime_cause _ = BadRuntime

-- the first fault of a run-time library file with this number
pub record HasRuntimeFault (file : ℕ) (bytes : List ℕ) (fault : LinkFault) : Type 0 where
  pub found : LoadFault
  pub first : IsFirstRuntimeFault bytes found
  pub reported : fault ≡ record { cause = runtime_cause found.cause; name = None; spot = record { file = file; segment = found.segment; at = found.at } }

-- the run-time library files, each a path and bytes, are these
abbrev pub AreRuntimes : List (List ℕ × List ℕ) → List RuntimeFile → Type 0
AreRuntimes [] [] = Unit {0}
AreRuntimes [] (r ∷ runtimes) = ⊥
AreRuntimes (file ∷ files) [] = ⊥
AreRuntimes (file ∷ files) (r ∷ runtimes) = (r.path ≡ file.0) × IsRuntime file.1 r.segments × AreRuntimes files runtimes

-- ---- what is given

-- what the linker is given: the inputs, the run-time library files by path and bytes, and what it is to link
pub record LinkInput : Type 0 where
  pub inputs : List (List ℕ)
  pub runtimes : List (List ℕ × List ℕ)
  pub form : LinkForm

-- only a program has run-time library files, and no more than a pathname segment has rows
abbrev pub MayHave : LinkForm → List (List ℕ × List ℕ) → Type 0
MayHave Program runtimes = length runtimes ≤ most_paths
MayHave LibraryForm runtimes = runtimes ≡ []

-- all files are bytes, and the run-time library files have paths and are no more than may be
abbrev pub HasBytes : LinkInput → Type 0
HasBytes given = AllByRecursion IsBytes given.inputs × AllByRecursion (λ file. IsBytes file.1) given.runtimes
    × AllByRecursion (λ file. IsPath file.0) given.runtimes × MayHave given.form given.runtimes

-- inputs that are linked to a program without run-time library files
abbrev pub plain : List (List ℕ) → LinkInput
plain files = record { inputs = files; runtimes = []; form = Program }

-- the files in the order in which they are read, and numbered
pub data InputPart : Type 0 where
  OfInput : (bytes : List ℕ) → InputPart
  OfRuntime : (bytes : List ℕ) → InputPart

-- the first fault of a file, which is numbered by those before it
abbrev pub HasPartFault : List InputPart → InputPart → LinkFault → Type 0
HasPartFault before (OfInput bytes) fault = HasFileFault (length before + 1) bytes fault
HasPartFault before (OfRuntime bytes) fault = HasRuntimeFault (length before + 1) bytes fault

-- what the inputs are linked to, and with what
pub record IsSetting (given : LinkInput) (setting : LinkSetting) : Type 0 where
  pub form' : setting.form ≡ given.form
  pub runtimes' : AreRuntimes given.runtimes setting.runtimes

-- the linked list of what is given
pub record IsProgram (given : LinkInput) (list : List Member) : Type 0 where
  pub setting : LinkSetting
  pub is_setting : IsSetting given setting
  pub inputs : List Input
  pub are_inputs : AreInputs given.inputs inputs
  pub linked : IsLinked setting inputs list

-- ---- names

-- a weak name may have none, every other use has exactly one
abbrev pub use_cause : SearchKind → List FoundDefinition → Option LinkCause
use_cause Data [] = Some Unresolved
use_cause One [] = Some Unresolved
use_cause Data (f ∷ g ∷ more) = Some Duplicate
use_cause One (f ∷ g ∷ more) = Some Duplicate
use_cause Any (f ∷ g ∷ more) = Some Duplicate
use_cause _ _ = None

pub record HasUseFault (list : List Member) (before : List PlacedUse) (a : PlacedUse) (fault : LinkFault) : Type 0 where
  pub cause : use_cause a.use'.want (found_for list a.place a.member a.use') ≡ Some fault.cause
  pub name : fault.name ≡ Some a.use'.name
  pub spot : fault.spot ≡ spot_in a.member a.use'.at

-- ---- layout

-- a later member of a load segment asks for an address
pub record HasOrgFault (before : List Member) (m : Member) (fault : LinkFault) : Type 0 where
  pub later : list_any (in_load m.segment.fields.load_name) before ≡ true
  pub asks : m.segment.fields.org ≡ 0 → ⊥
  pub reported : fault ≡ record { cause = OrgConflict; name = None; spot = spot_in m m.segment.start }

abbrev pub first_spot : List Member → Spot
first_spot [] = no_spot
first_spot (m ∷ members) = spot_in m m.segment.start

-- there is a 255th load segment
pub record HasCountFault (list : List Member) (fault : LinkFault) : Type 0 where
  pub load_name : List ℕ
  pub there : slice_get (load_names list) 254 ≡ Some load_name
  pub reported : fault ≡ record { cause = TooManySegments; name = None; spot = first_spot (load_members load_name list) }

-- a load segment is longer than three bytes can say, or than the bank size that it asks for
pub record HasLengthFault (list : List Member) (before : List HeaderFields) (f : HeaderFields) (fault : LinkFault) : Type 0 where
  pub long : (nat_lt 0xFFFFFF f.length || (not (f.bank_size == 0) && nat_lt f.bank_size f.length)) ≡ true
  pub reported : fault ≡ record { cause = SegmentTooLong; name = None; spot = first_spot (load_members f.load_name list) }

-- a run-time library file has only dynamic load segments, and none is skipped
pub record HasKindFault (list : List Member) (before : List HeaderFields) (f : HeaderFields) (fault : LinkFault) : Type 0 where
  pub other : (elim (form_in list) [ Program ↦ false | LibraryForm ↦ not (is_dynamic f.kind && not (is_skipped f.kind)) ]) ≡ true
  pub reported : fault ≡ record { cause = NotDynamic; name = None; spot = first_spot (load_members f.load_name list) }

pub data LayoutCheck : Type 0 where
  Orgs : LayoutCheck
  Count : LayoutCheck
  Lengths : LayoutCheck
  Kinds : LayoutCheck

abbrev pub HasLayoutFault : List Member → List LayoutCheck → LayoutCheck → LinkFault → Type 0
HasLayoutFault list before Orgs fault = IsFirst HasOrgFault list fault
HasLayoutFault list before Count fault = HasCountFault list fault
HasLayoutFault list before Lengths fault = IsFirst (HasLengthFault list) (load_headers list) fault
HasLayoutFault list before Kinds fault = IsFirst (HasKindFault list) (load_headers list) fault

-- ---- the phases

-- the phases up to layout, in their order
pub data Phase : Type 0 where
  Reading : Phase
  Objects : Phase
  Names : Phase
  Layout : Phase

-- what a phase finds in what is given: the first file at fault; no object segment; the first use, in list and record order, that
-- doesn't resolve; the first check of the load segments that fails
abbrev pub HasPhaseFault : LinkInput → List Phase → Phase → LinkFault → Type 0
HasPhaseFault given before Reading fault =
    IsFirst HasPartFault (map OfInput given.inputs ++ map (λ file. OfRuntime file.1) given.runtimes) fault
HasPhaseFault given before Objects fault =
    (setting : LinkSetting) × (inputs : List Input) × IsSetting given setting × AreInputs given.inputs inputs × (objects setting inputs ≡ [])
    × (fault ≡ record { cause = Empty; name = None; spot = no_spot })
HasPhaseFault given before Names fault = (list : List Member) × IsProgram given list × IsFirst (HasUseFault list) (all_uses list) fault
HasPhaseFault given before Layout fault =
    (list : List Member) × IsProgram given list × IsFirst (HasLayoutFault list) (Orgs ∷ Count ∷ Lengths ∷ Kinds ∷ []) fault

-- the first fault of these phases
abbrev pub IsFirstResolveFault : LinkInput → LinkFault → Type 0
IsFirstResolveFault given fault = IsFirst (HasPhaseFault given) (Reading ∷ Objects ∷ Names ∷ Layout ∷ []) fault

-- the files have this linked list, and none of these phases finds a fault
pub record IsResolved (given : LinkInput) (list : List Member) : Type 0 where
  pub program : IsProgram given list
  pub sound : HasNone (HasPhaseFault given) (Reading ∷ Objects ∷ Names ∷ Layout ∷ [])
