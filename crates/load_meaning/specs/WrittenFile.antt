-- The file that a linker writes: load segments, one after another, each a header and the body for its cells (GS/OS
-- Reference, appendix F, "Segment header" and "Segment body").
use Rattle.std.specs.Prelude.{◌≡◌, ◌<◌, ◌≤◌, ◌^◌, ℕ, List, [], ◌∷◌, ◌++◌, length, map, replicate, codes, Bool, true, false, if◌then◌else◌}
use Rattle.std.specs.List.{flat_map, AllByRecursion}
use Rattle.omf_format.specs.Field.{written_layout}
use Rattle.omf_format.specs.Header.{HeaderFields, written_fields, header_bytes, IsWritable}
use Rattle.omf_format.specs.WrittenHeader.{FitsWritten}
use Rattle.omf_format.specs.Record.{Record, End, Entry as Exported, IsRecord, spelling}
use Rattle.omf_format.specs.File.{Segment, IsFile}
use Rattle.load_meaning.specs.Pathnames.{paths_text}
use Rattle.load_meaning.specs.declared.table.Entry.{Entry}
use Rattle.load_meaning.specs.Cells.{Byte, Patch, cells}
use Rattle.load_meaning.specs.Table.{most_entries, table_bytes}
use Rattle.load_meaning.specs.WrittenBody.{AreWritten, zeros_after, written_cells, data_records, body_records}

-- a load segment that is to be written: its header's fields, its content, the patches over it, and its ENTRY records; where it is whole,
-- as a list of pathnames, its zeros at the end are written too
pub record Image : Type 0 where
  pub fields : HeaderFields
  pub content : List ℕ
  pub patches : List Patch
  pub exports : List Record
  pub whole : Bool

-- its body, with END
unfoldable pub image_body : Image → List ℕ
image_body image =
    flat_map (spelling written_layout)
    ((if image.whole then data_records image.content else body_records image.fields.seg_num image.content image.patches) ++ image.exports)
    ++ spelling written_layout End

-- the fields that are written: RESSPC is the number of zeros that the body leaves out
abbrev pub image_fields : Image → HeaderFields
image_fields image = record image.fields { res_spc = if image.whole then 0 else zeros_after (written_cells image.content image.patches) }

-- an ENTRY record that can be written
abbrev pub IsExport : Record → Type 0
IsExport (Exported segment offset name) = IsRecord written_layout (Exported segment offset name)
IsExport _ = ⊥

-- its header, and the body after it
unfoldable pub image_text : Image → List ℕ
image_text image = header_bytes (image_fields image) (length (image_body image)) ++ image_body image

-- the file of these segments
unfoldable pub file_text : List Image → List ℕ
file_text images = flat_map image_text images

-- which segments can be written: the fields fit into a header, LENGTH is the number of cells, the patches rise, don't overlap and lie
-- inside the content, the exports are ENTRY records, and a segment whose zeros at the end are written has no patches
pub record IsImage (image : Image) : Type 0 where
  pub fits : FitsWritten (image_fields image) (length (image_body image))
  pub writable : IsWritable (image_fields image)
  pub length' : image.fields.length ≡ length image.content
  pub small : length image.content ≤ 0xFFFFFF
  pub patches' : AreWritten (length image.content) 0 image.patches
  pub exports' : AllByRecursion IsExport image.exports
  pub bare : image.whole ≡ true → image.patches ≡ []

-- the segment has the fields that were written, and its cells are the content with the patches over it
pub record IsReadAs (image : Image) (s : Segment) : Type 0 where
  pub fields : s.fields ≡ written_fields (image_fields image) (length (image_body image))
  pub cells' : cells s ≡ written_cells image.content image.patches

-- so it is of each segment and its image, and there are as many of the ones as of the others
abbrev pub AreReadAs : List Image → List Segment → Type 0
AreReadAs [] [] = Unit {0}
AreReadAs [] (s ∷ segments) = ⊥
AreReadAs (image ∷ images) [] = ⊥
AreReadAs (image ∷ images) (s ∷ segments) = IsReadAs image s × AreReadAs images segments

-- ---- the jump table

-- the header's fields of a jump table with this number and `size` bytes: it is static and lies in one bank, no place is asked for, and its
-- name is ~JumpTable
unfoldable pub table_fields : ℕ → ℕ → HeaderFields
table_fields number size = record {
  byte_count = 0;
  res_spc = 0;
  length = size;
  lab_len = 0;
  version = 2;
  bank_size = 0x10000;
  kind = 0x0002;
  org = 0;
  align = 0;
  seg_num = number;
  entry = 0;
  disp_name = 0;
  disp_data = 0;
  load_name = replicate 10 32;
  name = codes "~JumpTable";
}

-- the segment of a jump table with these entries
unfoldable pub table_image : ℕ → List Entry → Image
table_image number entries = record { fields = table_fields number (length (table_bytes entries)); content = table_bytes entries; patches = []; exports = []; whole = false }

-- ---- the pathnames

-- the header's fields of a pathname segment with this number and `size` bytes: those of a table, with its own type and name
unfoldable pub pathnames_fields : ℕ → ℕ → HeaderFields
pathnames_fields number size = record (table_fields number size) { kind = 0x0004; name = codes "~Pathnames" }

-- the segment of the pathnames of these files
unfoldable pub pathnames_image : ℕ → List (List ℕ) → Image
pathnames_image number paths =
    record { fields = pathnames_fields number (length (paths_text paths)); content = paths_text paths; patches = []; exports = []; whole = true }

-- ---- laws

-- What is written for load segments is a file of exactly these, and each represents its cells.
abbrev pub FileStandsFor : Type 0
FileStandsFor = (images : List Image) → AllByRecursion IsImage images
    → (segments : List Segment) × IsFile segments (file_text images) × AreReadAs images segments

-- A jump table can be written so, and its cells are the table's bytes.
abbrev pub TableStandsFor : Type 0
TableStandsFor = (number : ℕ) (entries : List Entry) → number < 2 ^ 16 → length entries ≤ most_entries
    → IsImage (table_image number entries) × ((s : Segment) → IsReadAs (table_image number entries) s → cells s ≡ map Byte (table_bytes entries))
