-- The load file as it is read: its headers and cells, which segments they name, and where a loader takes it (GS/OS Reference,
-- appendix F; the jump table's frame and the order of faults are this project's own).
use Rattle.std.specs.Prelude.{◌≡◌, ◌≤◌, ◌<◌, ◌⊎◌, ℕ, ◌+◌, false, true, Bool, List, [], ◌∷◌, ◌++◌, length, map, Some, None, slice_get}
use Rattle.std.specs.List.{AllByRecursion}
use Rattle.omf_format.specs.Header.{HeaderFields, is_skipped}
use Rattle.omf_format.specs.File.{Segment, IsFile}
use Rattle.load_meaning.specs.Cells.{Cell, Byte, Part, cells}
use Rattle.load_meaning.specs.declared.load.LoadFault.{LoadFault}
use Rattle.load_meaning.specs.declared.table.Target.{Target}
use Rattle.load_meaning.specs.Table.{file_entry, table_bytes}
use Rattle.load_meaning.specs.Loadable.{IsLoadable, IsFirstLoadFault}
use Rattle.load_meaning.specs.WrittenFile.{table_fields, pathnames_fields}
use Rattle.load_meaning.specs.Pathnames.{paths_text, pathnames_of}
use Rattle.link_meaning.specs.LinkFaults.{LinkInput, HasBytes}
use Rattle.link_meaning.specs.Member.{Member, setting_in, form_in, RuntimeFile}
use Rattle.link_meaning.specs.declared.form.LinkForm.TheVariants.{Program, Runtime as LibraryForm}
use Rattle.load_meaning.specs.Runtime.{IsRuntime}
use Rattle.link_meaning.specs.Layout.{load_names, load_headers}
use Rattle.link_meaning.specs.LinkValues.{EquateAnswer}
use Rattle.link_meaning.specs.Fitting.{load_header, is_dynamic_load, length_of, length_outside}
use Rattle.link_meaning.specs.LinkedCells.{table_number, targets, linked}
use Rattle.link_meaning.specs.LinkWritten.{linked_cells}
use Rattle.link_meaning.specs.EmitFaults.{IsLinkable, IsLinkedTo}
use Rattle.object_meaning.specs.Sizes.{most_bytes}

-- ---- headers and cells

-- the fields of a header; those that describe how it is written are 0
abbrev pub plain_fields : HeaderFields → HeaderFields
plain_fields f = record f { byte_count = 0; res_spc = 0; lab_len = 0; disp_name = 0; disp_data = 0 }

-- the header of the table, where there is an entry
abbrev pub table_headers : ℕ → List Target → List HeaderFields
table_headers number [] = []
table_headers number (target ∷ targets) = table_fields number (length (table_bytes (map file_entry (target ∷ targets)))) ∷ []

-- the header of the pathnames, where there are run-time library files
abbrev pub path_headers : ℕ → List RuntimeFile → List HeaderFields
path_headers number [] = []
path_headers number (r ∷ runtimes) = pathnames_fields number (length (paths_text (map (λ one. one.path) (r ∷ runtimes)))) ∷ []

-- the headers of the load segments in order of number, the table's after them, and the pathnames' after all
unfoldable pub linked_headers : List Member → List EquateAnswer → List HeaderFields
linked_headers list table =
    let tables = table_headers (table_number list) (targets list table) in
    load_headers list ++ (tables ++ path_headers (table_number list + length tables) (setting_in list).runtimes)

-- the segments are the load segments in order of number, after them the table and then the pathname segment, where there are these two:
-- each has the header of the layout, and represents its linked cells
pub record StandFor (list : List Member) (table : List EquateAnswer) (segments : List Segment) : Type 0 where
  pub headers : map (λ s. plain_fields s.fields) segments ≡ linked_headers list table
  pub cells' : map cells segments ≡ linked_cells list table

-- ---- what is named

-- the number is that of one of `loads` load segments
abbrev pub IsLoad : ℕ → ℕ → Type 0
IsLoad loads number = (1 ≤ number) × (number ≤ loads)

-- a segment that the cells of a load segment may name: the load segment itself or a static one, or the table, where there is
-- an entry
pub data Reaches (list : List Member) (targets : List Target) (own number : ℕ) : Type 0 where
  OfLoad : IsLoad (length (load_names list)) number → (number ≡ own) ⊎ (is_dynamic_load (load_headers list) number ≡ false) → Reaches list targets own number
  OfTable : number ≡ table_number list → (targets ≡ [] → ⊥) → Reaches list targets own number

-- the cell is a byte, or part of a place in a segment for which this holds
abbrev pub Names : (ℕ → Type 0) → Cell → Type 0
Names P (Byte b) = Unit {0}
Names P (Part file segment offset shift index) = P segment

-- a place to which an entry may lead: an offset in a dynamic load segment
pub record IsCalledHere (list : List Member) (t : Target) : Type 0 where
  pub file' : t.file ≡ 1
  pub load : IsLoad (length (load_names list)) t.segment
  pub dynamic : is_dynamic_load (load_headers list) t.segment ≡ true
  pub inside : t.offset < length_of (load_headers list) t.segment

-- the number of a run-time library file, of which the first has 2
abbrev pub IsRuntimeFile : List Member → ℕ → Type 0
IsRuntimeFile list file = (2 ≤ file) × (file ≤ length (setting_in list).runtimes + 1)

-- or an offset in a segment of a run-time library file
pub record IsCalledThere (list : List Member) (t : Target) : Type 0 where
  pub file' : IsRuntimeFile list t.file
  pub inside : t.offset < length_outside (setting_in list) t.file t.segment

-- only a program has entries
abbrev pub IsCalled : List Member → Target → Type 0
IsCalled list t = (form_in list ≡ Program) × (IsCalledHere list t ⊎ IsCalledThere list t)

-- what a value names: a load segment of the file itself, or one of a run-time library file
abbrev pub IsNamed : List Member → ℕ → ℕ → Type 0
IsNamed list file segment = ((file ≡ 1) × IsLoad (length (load_names list)) segment) ⊎ IsRuntimeFile list file

-- the load segment with this number is never loaded
abbrev pub is_skipped_load : List HeaderFields → ℕ → Bool
is_skipped_load headers number = elim (load_header headers number) [ None ↦ false | Some f ↦ is_skipped f.kind ]

-- no part of a place and no entry of the file itself names a skipped load segment
pub record NamesNoSkipped (list : List Member) (table : List EquateAnswer) : Type 0 where
  pub parts : AllByRecursion (λ cs. AllByRecursion (λ c. Names (λ n. is_skipped_load (load_headers list) n ≡ false) c) cs) (linked_cells list table)
  pub entries : AllByRecursion (λ t. t.file ≡ 1 → is_skipped_load (load_headers list) t.segment ≡ false) (targets list table)

-- ---- laws

-- What the linker writes for files represents the linked cells, and has the headers of the layout.
abbrev pub StandsForLinkedCells : Type 0
StandsForLinkedCells = (given : LinkInput) (output : List ℕ) → HasBytes given → (is : IsLinkedTo given output)
    → (segments : List Segment) × IsFile segments output × StandFor is.list is.table segments

-- Only calls reach another dynamic load segment or a run-time library file: what the cells of a load segment name is the load segment
-- itself, a static one, or the table, and the table's entries lead into dynamic ones and into segments of run-time library files.
abbrev pub OnlyCallsReachDynamic : Type 0
OnlyCallsReachDynamic = (given : LinkInput) (list : List Member) (table : List EquateAnswer) → HasBytes given → IsLinkable given list table
    → ((k : ℕ) (load_name : List ℕ) → slice_get (load_names list) k ≡ Some load_name
    → AllByRecursion (λ c. Names (Reaches list (targets list table) (k + 1)) c) (linked list table load_name))
    × AllByRecursion (IsCalled list) (targets list table)

-- It is a load file where no part and no entry names a skipped load segment.
abbrev pub IsLoadedWhereNoneSkipped : Type 0
IsLoadedWhereNoneSkipped = (given : LinkInput) (output : List ℕ) → HasBytes given → (is : IsLinkedTo given output) → NamesNoSkipped is.list is.table
    → (segments : List Segment) × IsLoadable output segments × StandFor is.list is.table segments

-- In the form Runtime it is a run-time library file.
abbrev pub IsRuntimeOfForm : Type 0
IsRuntimeOfForm = (given : LinkInput) (output : List ℕ) → HasBytes given → (is : IsLinkedTo given output) → given.form ≡ LibraryForm
    → (segments : List Segment) × IsRuntime output segments × StandFor is.list is.table segments

-- Without run-time library files it has no pathname segment.
abbrev pub HasNoPathnames : Type 0
HasNoPathnames = (given : LinkInput) (output : List ℕ) → HasBytes given → (is : IsLinkedTo given output) → given.runtimes ≡ [] → (segments : List Segment)
    → StandFor is.list is.table segments → pathnames_of segments ≡ None

-- So it has no fault at load then.
abbrev pub HasNoLoadFault : Type 0
HasNoLoadFault = (given : LinkInput) (output : List ℕ) → HasBytes given → (is : IsLinkedTo given output) → NamesNoSkipped is.list is.table
    → (fault : LoadFault) → IsFirstLoadFault output fault → ⊥

-- It is no longer than the longest file that is read.
abbrev pub IsReadWhole : Type 0
IsReadWhole = (given : LinkInput) (output : List ℕ) → IsLinkedTo given output → length output ≤ most_bytes
