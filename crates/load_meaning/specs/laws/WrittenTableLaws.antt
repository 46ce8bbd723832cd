-- A jump table can be written as a load segment, and its cells are the table's bytes.
use Rattle.std.proofs.Common.{◌≡◌, ℕ, ◌+◌, ◌-◌, ◌*◌, ◌^◌, ◌<◌, ◌≤◌, List, [], ◌∷◌, ◌++◌, length, map, replicate, refl, ap, ◌∙◌, arith}
use Rattle.std.specs.List.{flat_map}
use Rattle.std.proofs.lemmas.List.{append-nil, length-append, length-take, length-map}
use Rattle.std.proofs.lemmas.List.Concat.{flat_map-cons}
use Rattle.byteorder.specs.Endian.{little_bytes}
use Rattle.byteorder.specs.Numbers.{length-bytes_low_first}
use Rattle.omf_format.specs.Field.{written_layout}
use Rattle.omf_format.specs.Record.{LongConst, End, spelling}
use Rattle.omf_format.specs.File.{Segment}
use Rattle.load_meaning.specs.declared.table.Entry.{Entry}
use Rattle.load_meaning.specs.Cells.{Byte, cells}
use Rattle.load_meaning.specs.Table.{entry_bytes, table_bytes}
use Rattle.load_meaning.specs.laws.TableLaws.{length-entry_bytes}
use Rattle.load_meaning.specs.WrittenBody.{zeros_after, written_cells, written_data, data_records, body_records, body_text}
use Rattle.load_meaning.specs.laws.StoredLaws.{zeros-le}
use Rattle.load_meaning.specs.WrittenFile.{image_body, IsImage, IsReadAs, table_fields, table_image, TableStandsFor}

length-entries : (entries : List Entry) → length (flat_map entry_bytes entries) ≡ 14 * length entries
length-entries [] = refl
length-entries (entry ∷ entries) = ap length (flat_map-cons entry_bytes entry entries)
    ∙ omega (arith, length-append (entry_bytes entry) (flat_map entry_bytes entries), length-entry_bytes entry, length-entries entries)

-- a table has 12 bytes and 14 for each entry
pub length-table_bytes : (entries : List Entry) → length (table_bytes entries) ≡ 12 + 14 * length entries
unfolding table_bytes
length-table_bytes entries =
    omega (arith, length-append (replicate 8 0 ++ flat_map entry_bytes entries) (replicate 4 0), length-append (replicate 8 0) (flat_map entry_bytes entries), length-entries entries)

-- ---- a body without patches

pub plain_data : (bytes : List ℕ) → length (flat_map (spelling written_layout) (data_records bytes)) ≤ 5 + length bytes
unfolding spelling
plain_data [] = omega arith
plain_data (byte ∷ bytes) =
    let text = spelling written_layout (LongConst (byte ∷ bytes)) in
    let one : length (flat_map (spelling written_layout) (LongConst (byte ∷ bytes) ∷ [])) ≡ length text =
    ap length (flat_map-cons (spelling written_layout) (LongConst (byte ∷ bytes)) [] ∙ append-nil text) in
    omega (arith, one, length-append (little_bytes 4 (length (byte ∷ bytes))) (byte ∷ bytes), length-bytes_low_first 0 4 (length (byte ∷ bytes)))

length-plain : (own : ℕ) (content : List ℕ) → length (written_data own content []) ≤ length content
unfolding written_data
length-plain own content = omega (arith, length-take (length content - zeros_after (written_cells content [])) content)

-- it is hardly longer than the content
pub length-plain_body : (own : ℕ) (content : List ℕ) → length (body_text own content []) ≤ 5 + length content
unfolding body_text body_records
length-plain_body own content =
    let data' = data_records (written_data own content []) in
    let all : length (flat_map (spelling written_layout) (data' ++ [])) ≡ length (flat_map (spelling written_layout) data') = ap (λ rs. length (flat_map (spelling written_layout) rs)) (append-nil data') in
    omega (arith, all, plain_data (written_data own content []), length-plain own content)

zeros_within : (content : List ℕ) → zeros_after (written_cells content []) ≤ length content
unfolding written_cells
zeros_within content = omega (arith, zeros-le (map Byte content), length-map content (λ (n : ℕ). Byte n))

pub length-end : length (spelling written_layout End) ≡ 1
unfolding spelling
length-end = refl

-- ---- the table

is_image : (number : ℕ) (entries : List Entry) → number < 2 ^ 16 → length entries ≤ 4680 → IsImage (table_image number entries)
unfolding table_image table_fields image_body body_text
is_image number entries small few =
    let size = length-table_bytes entries in
    let zeros = zeros_within (table_bytes entries) in
    let body = length-plain_body number (table_bytes entries) in
    let end = length-end in
    let body' : length (image_body (table_image number entries)) ≡ length (body_text number (table_bytes entries) [] ++ spelling written_layout End) =
    ap (λ rs. length (flat_map (spelling written_layout) rs ++ spelling written_layout End)) (append-nil (body_records number (table_bytes entries) [])) in
    record {
      fits = record {
        res_spc = omega (arith, zeros, size, few);
        length = omega (arith, size, few);
        bank_size = omega arith;
        kind = omega arith;
        org = omega arith;
        align = omega arith;
        seg_num = small;
        entry = omega arith;
        load_name = refl;
        name = omega arith;
        total = omega (arith, body, body', size, few, end, length-append (body_text number (table_bytes entries) []) (spelling written_layout End));
      };
      writable = record { version = refl; banks = omega arith; listed = refl; spaced = zeros };
      length' = refl;
      small = omega (arith, size, few);
      patches' = tt;
      exports' = tt;
      bare = λ e. absurd cc;
    }

table_cells : (number : ℕ) (entries : List Entry) (s : Segment) → IsReadAs (table_image number entries) s → cells s ≡ map Byte (table_bytes entries)
unfolding table_image written_cells
table_cells number entries s is = is.cells'

pub table_stands_for : TableStandsFor
table_stands_for number entries small few = (is_image number entries small few, table_cells number entries)
