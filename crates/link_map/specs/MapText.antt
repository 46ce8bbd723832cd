-- The map of a link: its load segments, their members with what these define, the entries of the jump table, the run-time library files, and
-- what is exported (this project's own form).
use Rattle.std.specs.Prelude.{◌≡◌, ℕ, ◌+◌, ℤ, List, [], ◌∷◌, ◌++◌, codes, length, map, flat_map, Some, None, Result, Ok, Err, ◌==◌, if◌then◌else◌}
use Rattle.omf_base.specs.Digits.{decimal, hexadecimal}
use Rattle.omf_base.specs.Lines.{line}
use Rattle.omf_format.specs.declared.value.Value.{Value}
use Rattle.omf_format.specs.declared.value.Value.TheVariants.{Fixed, At}
use Rattle.omf_format.specs.declared.value.ValueFault.{ValueFault}
use Rattle.omf_format.specs.Field.{shift_byte}
use Rattle.omf_format.specs.Header.{HeaderFields}
use Rattle.omf_format.specs.Record.{Record, Entry}
use Rattle.omf_format.specs.Value.{is_unshifted}
use Rattle.dump_lines.specs.Listing.{hex_field, labelled_number, name_text, quoted_name}
use Rattle.load_meaning.specs.declared.table.Target.{Target}
use Rattle.load_meaning.specs.Table.{entry_place, file_entry, table_bytes}
use Rattle.load_meaning.specs.WrittenFile.{table_fields, pathnames_fields}
use Rattle.load_meaning.specs.Pathnames.{paths_text}
use Rattle.link_meaning.specs.Member.{Member, setting_in, form_in}
use Rattle.object_meaning.specs.Defines.{Scope, ForSegment, ForUnit, ForAll, Definition, defined_in}
use Rattle.link_meaning.specs.Layout.{load_headers, load_of, offset_of}
use Rattle.link_meaning.specs.LinkValues.{EquateAnswer, place_value, value_in}
use Rattle.link_meaning.specs.LinkedCells.{table_number, targets}
use Rattle.link_meaning.specs.LinkWritten.{exports, table_images}
use Rattle.link_meaning.specs.declared.form.LinkForm.TheVariants.{Program, Runtime as LibraryForm}
use Rattle.link_meaning.specs.LinkFaults.{LinkInput}
use Rattle.link_meaning.specs.EmitFaults.{IsLinkable}

-- texts one after another, each that of a thing and its number, of which the first has this one
abbrev pub numbered_texts : {A : Type 0} → (ℕ → A → List ℕ) → ℕ → List A → List ℕ
numbered_texts text_of number [] = []
numbered_texts text_of number (x ∷ xs) = text_of number x ++ numbered_texts text_of (number + 1) xs

-- ---- what a member defines

-- who sees a definition
abbrev pub scope_text : Scope → List ℕ
scope_text ForSegment = codes "local"
scope_text ForUnit = codes "private"
scope_text ForAll = codes "public"

-- how far a place is shifted, if it is, as the byte that a patch has for it
abbrev pub shift_text : ℤ → List ℕ
shift_text shift = if is_unshifted shift then [] else codes " shift" ++ hex_field 2 (shift_byte shift)

-- a number in eight digits; or a place: the number of its load segment, the offset there, and its shift. In files that are linked each
-- definition has a value.
abbrev pub value_text : Result Value ValueFault → List ℕ
value_text (Ok (Fixed n)) = labelled_number (codes " is ") n
value_text (Ok (At file segment offset shift)) = codes " at" ++ hex_field 4 segment ++ hex_field 8 offset ++ shift_text shift
value_text (Err fault) = []

-- a definition: who sees it, its name, and its value
unfoldable pub symbol_text : List ℕ → List ℕ → Result Value ValueFault → List ℕ
symbol_text scope name value = line (scope ++ name_text name ++ value_text value)

-- the value of a label is its place in the member, and that of an equate the value of its expression where it is
abbrev pub meant_by : List Member → List EquateAnswer → ℕ → Member → Definition → Result Value ValueFault
meant_by list table place m d = elim d.expr [
  | None ↦ Ok (place_value list place m d.place)
  | Some text ↦ value_in list table place m d.place text
]

abbrev pub symbol_line : List Member → List EquateAnswer → ℕ → Member → Definition → List ℕ
symbol_line list table place m d = symbol_text (scope_text d.scope) d.name (meant_by list table place m d)

-- ---- members and load segments

-- a member: its file among the inputs and its number there, its offset in the load segment, its LENGTH and its SEGNAME
unfoldable pub member_line : ℕ → ℕ → ℕ → HeaderFields → List ℕ
member_line file number offset f =
    line (codes "member " ++ decimal file ++ codes " " ++ decimal number ++ labelled_number (codes " at ") offset ++ labelled_number (codes " length ") f.length
    ++ codes " name " ++ quoted_name f.name)

-- the member at a place of the list, and what it defines, its SEGNAME first, in record order, which is that of places
abbrev pub member_text : List Member → List EquateAnswer → ℕ → Member → List ℕ
member_text list table place m =
    member_line m.file m.number (offset_of list place m) m.segment.fields ++ flat_map (symbol_line list table place m) (defined_in m.segment)

-- the text of a member where it is one of the load segment with this number, and nothing where it isn't
abbrev pub text_in : List Member → List EquateAnswer → ℕ → ℕ → Member → List ℕ
text_in list table number place m = if load_of list m == number then member_text list table place m else []

-- a load segment: its number, LENGTH, KIND, ALIGN and SEGNAME
unfoldable pub load_line : ℕ → ℕ → ℕ → ℕ → List ℕ → List ℕ
load_line number size kind align name =
    line (codes "load " ++ decimal number ++ labelled_number (codes " length ") size ++ codes " kind " ++ hexadecimal 4 kind ++ labelled_number (codes " align ") align
    ++ codes " name " ++ quoted_name name)

-- the line of a load segment with this header
abbrev pub header_line : ℕ → HeaderFields → List ℕ
header_line number f = load_line number f.length f.kind f.align f.name

-- a load segment and its members, in list order
abbrev pub load_text : List Member → List EquateAnswer → ℕ → HeaderFields → List ℕ
load_text list table number f = header_line number f ++ numbered_texts (text_in list table number) 1 list

-- ---- the jump table

-- a load segment of a file: its number, and before it that of the file where this isn't the linked file itself
abbrev pub segment_text : ℕ → ℕ → List ℕ
segment_text file segment =
    if file == 1 then hex_field 4 segment else codes " " ++ decimal file ++ codes ":" ++ hexadecimal 4 segment

-- an entry: the table's number and the offset of the entry's code there, and the segment and the offset to which it leads
unfoldable pub entry_line : ℕ → ℕ → Target → List ℕ
entry_line number k t =
    line (codes "entry at" ++ hex_field 4 number ++ hex_field 8 (entry_place k) ++ codes " calls" ++ segment_text t.file t.segment ++ hex_field 8 t.offset)

-- the load segment that is the table, and its entries; nothing where there is no entry
abbrev pub table_text : ℕ → List Target → List ℕ
table_text number [] = []
table_text number (t ∷ targets) =
    header_line number (table_fields number (length (table_bytes (map file_entry (t ∷ targets))))) ++ numbered_texts (entry_line number) 0 (t ∷ targets)

-- ---- the run-time library files

-- a run-time library file: its number, by which entries name it, and the path by which it is known
unfoldable pub runtime_line : ℕ → List ℕ → List ℕ
runtime_line number path = line (codes "runtime " ++ decimal number ++ codes " name " ++ quoted_name path)

-- the load segment of the pathnames, and the files with these paths; nothing where there is no such file
abbrev pub runtimes_text : ℕ → List (List ℕ) → List ℕ
runtimes_text number [] = []
runtimes_text number (path ∷ paths) =
    header_line number (pathnames_fields number (length (paths_text (path ∷ paths)))) ++ numbered_texts runtime_line 2 (path ∷ paths)

-- ---- the exports

-- a name that a run-time library file exports, with its place: the number of the load segment, and the offset there
abbrev pub export_line : Record → List ℕ
export_line (Entry segment offset name) = line (codes "export" ++ name_text name ++ codes " at" ++ hex_field 4 segment ++ hex_field 8 offset)
export_line _ = []

-- those of a run-time library file that is linked, in the order of its ENTRY records; a program exports nothing
abbrev pub exports_text : List Member → List EquateAnswer → List ℕ
exports_text list table = elim (form_in list) [ Program ↦ [] | LibraryForm ↦ flat_map export_line (exports list table) ]

-- ---- the map

-- the load segments in order of number, the table after the others, the pathnames after it, and what is exported
unfoldable pub map_text : List Member → List EquateAnswer → List ℕ
map_text list table =
    let number = table_number list in
    let called = targets list table in
    numbered_texts (load_text list table) 1 (load_headers list) ++ (table_text number called
    ++ (runtimes_text (number + length (table_images number called)) (map (λ r. r.path) (setting_in list).runtimes)
    ++ exports_text list table))

-- the files are linked, and this is the map of their linked list
pub record IsMapOf (given : LinkInput) (text : List ℕ) : Type 0 where
  pub list : List Member
  pub table : List EquateAnswer
  pub linkable : IsLinkable given list table
  pub is : text ≡ map_text list table
