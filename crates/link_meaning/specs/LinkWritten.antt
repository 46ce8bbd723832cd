-- The load file that the linker writes (GS/OS Reference, appendix F; the source of a header's fields, and the names, are this project's own
-- choice).
use Rattle.std.specs.Prelude.{◌≡◌, ◌≤◌, ℕ, ◌+◌, ◌&&◌, List, [], ◌∷◌, ◌++◌, length, map, Ok, ◌==◌, if◌then◌else◌, Result, Err, false, nat_lt}
use Rattle.std.specs.List.{flat_map}
use Rattle.std.specs.Ordering.{int_eq}
use Rattle.omf_format.specs.Header.{HeaderFields}
use Rattle.omf_format.specs.File.{Segment, IsFile}
use Rattle.load_meaning.specs.Cells.{Cell, Byte, Part, Patch, cells, byte_under}
use Rattle.load_meaning.specs.declared.table.Target.{Target}
use Rattle.load_meaning.specs.Table.{file_entry, table_bytes}
use Rattle.load_meaning.specs.WrittenFile.{Image, table_image, file_text, AreReadAs, pathnames_image}
use Rattle.omf_format.specs.Record.{Record, Entry}
use Rattle.omf_format.specs.Value.{is_unshifted}
use Rattle.omf_format.specs.declared.value.Value.{Value}
use Rattle.omf_format.specs.declared.value.Value.TheVariants.{Fixed, At}
use Rattle.omf_format.specs.declared.value.ValueFault.{ValueFault}
use Rattle.load_meaning.specs.Pathnames.{paths_text}
use Rattle.link_meaning.specs.Fitting.{length_of}
use Rattle.link_meaning.specs.Search.{entries}
use Rattle.object_meaning.specs.Defines.{ForSegment, ForUnit, ForAll}
use Rattle.link_meaning.specs.declared.form.LinkForm.TheVariants.{Program, Runtime as LibraryForm}
use Rattle.link_meaning.specs.Member.{Member, RuntimeFile, setting_in, form_in}
use Rattle.link_meaning.specs.Layout.{load_names, load_fields, load_headers}
use Rattle.link_meaning.specs.LinkValues.{EquateAnswer, IsTable, found_value}
use Rattle.link_meaning.specs.LinkedCells.{Item, LinkState, Made, table_number, items, made, state_after_item, targets, linked}
use Rattle.link_meaning.specs.LinkFaults.{LinkInput, HasBytes, IsResolved}

-- ---- patches

-- how many of these cells in a row are the bytes of the patch's place, from this index on
abbrev pub run_length : Patch → ℕ → List Cell → ℕ
run_length p index [] = 0
run_length p index (Byte b ∷ cells) = 0
run_length p index (Part file segment offset shift other ∷ cells) =
    if file == p.file && segment == p.segment && offset == p.offset && int_eq shift p.shift && other == index
    then 1 + run_length p (index + 1) cells else 0

-- the patch that begins with a cell: one of index 0, and as many as follow it
abbrev pub patch_at : ℕ → Cell → List Cell → List Patch
patch_at at (Byte b) cells = []
patch_at at (Part file segment offset shift index) cells =
    let p : Patch = record { location = at; count = 1; file = file; segment = segment; offset = offset; shift = shift } in
    if index == 0 then record p { count = 1 + run_length p 1 cells } ∷ [] else []

-- the patches of cells from this place on, in order of location
abbrev pub patches_from : ℕ → List Cell → List Patch
patches_from at [] = []
patches_from at (c ∷ cells) = patch_at at c cells ++ patches_from (at + 1) cells

-- the patches of a load segment's cells
unfoldable pub patches_of_cells : List Cell → List Patch
patches_of_cells cells = patches_from 0 cells

-- ---- the file

-- ---- the names that a run-time library file exports

-- the ENTRY record of a name with this value: a place without a shift, below LENGTH of its load segment
abbrev pub export_at : List HeaderFields → List ℕ → Result Value ValueFault → List Record
export_at headers name (Ok (Fixed n)) = []
export_at headers name (Ok (At file segment offset shift)) =
    if is_unshifted shift && nat_lt offset (length_of headers segment) then Entry segment offset name ∷ [] else []
export_at headers name (Err fault) = []

-- in list and record order, a SEGNAME before its segment's records; only what all see is exported
unfoldable pub exports : List Member → List EquateAnswer → List Record
exports list table = flat_map (λ f. elim f.definition.scope [
  | ForSegment ↦ []
  | ForUnit ↦ []
  | ForAll ↦ export_at (load_headers list) f.definition.name (found_value list table f)
]) (entries list)

-- the load segments with these load names, in order, the first with this number; of a run-time library file the first has all exports
abbrev pub load_images : List Member → List EquateAnswer → ℕ → List (List ℕ) → List Image
load_images list table number [] = []
load_images list table number (x ∷ xs) =
    record {
      fields = load_fields list number x;
      content = map byte_under (linked list table x);
      patches = patches_of_cells (linked list table x);
      exports = elim (form_in list) [ Program ↦ [] | LibraryForm ↦ if number == 1 then exports list table else [] ];
      whole = false;
    } ∷ load_images list table (number + 1) xs

-- the table, where there is an entry
abbrev pub table_images : ℕ → List Target → List Image
table_images number [] = []
table_images number (target ∷ targets) = table_image number (map file_entry (target ∷ targets)) ∷ []

-- the pathnames, where there are run-time library files
abbrev pub path_images : ℕ → List RuntimeFile → List Image
path_images number [] = []
path_images number (r ∷ runtimes) = pathnames_image number (map (λ one. one.path) (r ∷ runtimes)) ∷ []

-- the load segments in order of number, the table after them, and the pathnames after all
unfoldable pub images : List Member → List EquateAnswer → List Image
images list table =
    let tables = table_images (table_number list) (targets list table) in
    load_images list table 1 (load_names list) ++ (tables ++ path_images (table_number list + length tables) (setting_in list).runtimes)

-- the bytes of the load file
unfoldable pub written_file : List Member → List EquateAnswer → List ℕ
written_file list table = file_text (images list table)

-- ---- what the file represents

-- the table's cells, where there is an entry
abbrev pub table_cells : List Target → List (List Cell)
table_cells [] = []
table_cells (target ∷ targets) = map Byte (table_bytes (map file_entry (target ∷ targets))) ∷ []

-- the pathnames' cells, where there are run-time library files
abbrev pub path_cells : List RuntimeFile → List (List Cell)
path_cells [] = []
path_cells (r ∷ runtimes) = map Byte (paths_text (map (λ one. one.path) (r ∷ runtimes))) ∷ []

-- the linked cells of the load segments in order of number, the table's after them, and the pathnames' after all
unfoldable pub linked_cells : List Member → List EquateAnswer → List (List Cell)
linked_cells list table = map (linked list table) (load_names list) ++ (table_cells (targets list table) ++ path_cells (setting_in list).runtimes)

-- each segment has its cells, and there are as many of the ones as of the others
abbrev pub HaveCells : List (List Cell) → List Segment → Type 0
HaveCells [] [] = Unit {0}
HaveCells [] (s ∷ segments) = ⊥
HaveCells (cs ∷ all) [] = ⊥
HaveCells (cs ∷ all) (s ∷ segments) = (cells s ≡ cs) × HaveCells all segments

-- each of these records, from this state on, gives cells: no value has a fault, and each fits
abbrev pub AreMade : List Member → List EquateAnswer → LinkState → List Item → Type 0
AreMade list table state [] = Unit {0}
AreMade list table state (i ∷ is) =
    (x : Made) × (made list table state i ≡ Ok x) × AreMade list table (state_after_item state i (made list table state i)) is

abbrev pub start : LinkState
start = record { targets = []; place = 0; cells = [] }

-- The file that the linker writes is a file of the load segments, the table and the pathname segment, where there are these two, and each
-- of them represents its cells.
abbrev pub LinkedStandsFor : Type 0
LinkedStandsFor = (given : LinkInput) (list : List Member) (table : List EquateAnswer) → HasBytes given → IsResolved given list
    → IsTable list table → AreMade list table start (items list) → length (written_file list table) ≤ 0x1000000
    → (segments : List Segment) × IsFile segments (written_file list table) × AreReadAs (images list table) segments
    × HaveCells (linked_cells list table) segments
