-- Load segments that are written.
use Rattle.std.specs.Prelude.{◌≡◌, ◌≤◌, ◌+◌, ◌++◌, ℕ, zero, suc, true, false, List, [], ◌∷◌, length, map}
use Rattle.std.specs.List.{flat_map}
use Rattle.omf_format.specs.Field.{written_layout}
use Rattle.omf_format.specs.Record.{Record, spelling}
use Rattle.omf_format.specs.Header.{HeaderFields, IsWritable}
use Rattle.omf_header.specs.View.{fields}
use Rattle.omf_header.specs.declared.header.Header.{Header}
use Rattle.load_meaning.specs.WrittenBody.{AreWritten}
use Rattle.load_meaning.specs.WrittenFile.{Image}
use Rattle.load_meaning.specs.declared.table.Target.{Target}
use Rattle.link_meaning.specs.Member.{RuntimeFile, Member, form_in}
use Rattle.link_meaning.specs.Layout.{load_names, load_headers}
use Rattle.link_meaning.specs.LinkValues.{EquateAnswer}
use Rattle.link_meaning.specs.LinkedCells.{linked}
use Rattle.link_meaning.specs.LinkWritten.{exports, table_images, path_images}
use Rattle.link_meaning.specs.laws.Steps.{exports_for}
use Rattle.load_writer.specs.WrittenParts.{seen}
use Rattle.link_content.specs.Holding.{Holding}
use Rattle.link_content.specs.Contents.{HoldsCells}

-- the fields with a given number of zeros after the body
abbrev pub with_space : HeaderFields → ℕ → HeaderFields
with_space f zeros = record f { res_spc = zeros }

-- records, as they are spelled one after another
abbrev pub spelled_records : List Record → List ℕ
spelled_records records = flat_map (spelling written_layout) records

-- the load segment with this header and content, and these ENTRY records
abbrev pub image_in : HeaderFields → Holding → List Record → Image
image_in f content exports = record { fields = f; content = content.bytes; patches = map seen content.patches; exports = exports; whole = false }

-- the load segment with this header whose body is one LCONST of these bytes
abbrev pub whole_image : HeaderFields → List ℕ → Image
whole_image f bytes = record { fields = f; content = bytes; patches = []; exports = []; whole = true }

-- the load segments with these headers and contents, of which the first has the ENTRY records
abbrev pub images_in : List Record → List Header → List Holding → List Image
images_in exports [] contents = []
images_in exports (header ∷ headers) [] = []
images_in exports (header ∷ headers) (content ∷ contents) = image_in (fields header) content exports ∷ images_in [] headers contents

-- the ENTRY records that load segments from a place on still have
abbrev pub left_from : ℕ → List Record → List Record
left_from zero exports = exports
left_from (suc place) exports = []

-- it can be written: the header may be, LENGTH is the number of cells, and the patches can be
pub record IsReady (f : HeaderFields) (content : Holding) : Type 0 where
  pub writable : IsWritable (with_space f 0)
  pub length' : f.length ≡ length content.bytes
  pub small : f.length ≤ 0xFFFFFF
  pub patches' : AreWritten (length content.bytes) 0 (map seen content.patches)

-- each is ready, and there are as many headers as contents
abbrev pub AreReady : List Header → List Holding → Type 0
AreReady [] [] = Unit {0}
AreReady [] (content ∷ contents) = ⊥
AreReady (header ∷ headers) [] = ⊥
AreReady (header ∷ headers) (content ∷ contents) = IsReady (fields header) content × AreReady headers contents

-- ---- linked load segments

-- each content holds the linked cells of the load segment with its load name
abbrev pub HoldLinked : List Member → List EquateAnswer → List (List ℕ) → List Holding → Type 0
HoldLinked list table [] [] = Unit {0}
HoldLinked list table [] (content ∷ contents) = ⊥
HoldLinked list table (x ∷ xs) [] = ⊥
HoldLinked list table (x ∷ xs) (content ∷ contents) = HoldsCells (linked list table x) content × HoldLinked list table xs contents

-- these are the headers and the contents of the linked load segments
pub record AreLoads (list : List Member) (table : List EquateAnswer) (headers : List Header) (contents : List Holding) : Type 0 where
  pub headers' : map fields headers ≡ load_headers list
  pub contents' : HoldLinked list table (load_names list) contents

-- the ENTRY records of the linked load segments, as they are spelled
abbrev pub linked_exports : List Member → List EquateAnswer → List ℕ
linked_exports list table = spelled_records (exports_for (form_in list) 1 (exports list table))

-- what follows the load segments: the table, where there is an entry, and the pathnames, where there are run-time library files
abbrev pub images_after : ℕ → List Target → List RuntimeFile → List Image
images_after number targets runtimes =
    let tables = table_images number targets in
    tables ++ path_images (number + length tables) runtimes
