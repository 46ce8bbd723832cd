-- How large a library is, and where its rows point.
use Rattle.std.proofs.Common.{◌≡◌, ℕ, suc, ◌+◌, ◌*◌, ◌^◌, ◌<◌, ◌≤◌, Bool, List, [], ◌∷◌, ◌++◌, length, map, refl, sym, ap, subst, ◌∙◌, append_assoc, arith}
use Rattle.std.specs.Prelude.{if◌then◌else◌}
use Rattle.std.specs.List.{flat_map, AllByRecursion}
use Rattle.std.proofs.lemmas.List.{length-append, length-map, map-append}
use Rattle.std.proofs.lemmas.List.Concat.{flat_map-cons}
use Rattle.byteorder.specs.Endian.{little_bytes}
use Rattle.byteorder.specs.Numbers.{length-bytes_low_first}
use Rattle.omf_format.specs.Field.{written_layout}
use Rattle.omf_format.specs.Header.{header_bytes}
use Rattle.omf_format.specs.Record.{End, LongConst, spelling}
use Rattle.omf_format.specs.laws.WrittenHeaderLaws.{length-header}
use Rattle.omf_format.specs.File.{Segment, AreSegments}
use Rattle.lib_dict.specs.declared.member.Member.{Member}
use Rattle.lib_dict.specs.Made.{given_file}
use Rattle.lib_dict.specs.Library.{AreMembers, LibraryRow, LibraryFile, segment_rows, rows_from, files_text, names_text, rows_text, dictionary_fields, dictionary_text, dictionary_size, library_rows, library_bytes}
use Rattle.object_meaning.specs.Sizes.{most_bytes}
use Rattle.lib_dict.specs.Steps.{dictionary_body, row_text, outer_names}
use Rattle.lib_dict.specs.Sizes.{IsReadFile, AreFiles, total_bytes, moved_row, StartBefore, first_place}

-- ---- rows that are moved

abbrev Rows : Type 0
Rows = List LibraryRow

segment_moved : (base number front : ℕ) (s : Segment) → segment_rows number (base + front) s ≡ map (moved_row base) (segment_rows number front s)
segment_moved base number front s = by (outer_names s)
  where
    made : ℕ → List ℕ × Bool → LibraryRow
    made at n = record { name = n.0; file = number; private = n.1; at = at }

    by : (names : List (List ℕ × Bool)) → map (made (base + front + s.start)) names ≡ map (moved_row base) (map (made (front + s.start)) names)
    by [] = refl
    by (n ∷ names) =
        let place : base + front + s.start ≡ base + (front + s.start) = omega arith in
        ap (λ (k : ℕ). made k n ∷ map (made (base + front + s.start)) names) place ∙ ap (λ (l : Rows). made (base + (front + s.start)) n ∷ l) (by names)

segments_moved : (base number front : ℕ) (segments : List Segment) → flat_map (segment_rows number (base + front)) segments ≡ map (moved_row base) (flat_map (segment_rows number front) segments)
segments_moved base number front [] = refl
segments_moved base number front (s ∷ segments) =
    flat_map-cons (segment_rows number (base + front)) s segments
    ∙ ap (λ (l : Rows). l ++ flat_map (segment_rows number (base + front)) segments) (segment_moved base number front s)
    ∙ ap (λ (l : Rows). map (moved_row base) (segment_rows number front s) ++ l) (segments_moved base number front segments)
    ∙ sym (map-append (moved_row base) (segment_rows number front s) (flat_map (segment_rows number front) segments))
    ∙ ap (map (moved_row base)) (sym (flat_map-cons (segment_rows number front) s segments))

pub rows_moved : (base number front : ℕ) (files : List LibraryFile) → rows_from number (base + front) files ≡ map (moved_row base) (rows_from number front files)
rows_moved base number front [] = refl
rows_moved base number front (file ∷ files) =
    let place : base + front + length file.bytes ≡ base + (front + length file.bytes) = omega arith in
    ap (λ (n : ℕ). flat_map (segment_rows number (base + front)) file.segments ++ rows_from (number + 1) n files) place
    ∙ ap (λ (l : Rows). flat_map (segment_rows number (base + front)) file.segments ++ l) (rows_moved base (number + 1) (front + length file.bytes) files)
    ∙ ap (λ (l : Rows). l ++ map (moved_row base) (rows_from (number + 1) (front + length file.bytes) files)) (segments_moved base number front file.segments)
    ∙ sym (map-append (moved_row base) (flat_map (segment_rows number front) file.segments) (rows_from (number + 1) (front + length file.bytes) files))

abbrev name_text : LibraryRow → List ℕ
name_text row = length row.name ∷ row.name

pub names_moved : (base : ℕ) (rows : Rows) → names_text (map (moved_row base) rows) ≡ names_text rows
unfolding names_text
names_moved base [] = refl
names_moved base (row ∷ rows) =
    flat_map-cons name_text (moved_row base row) (map (moved_row base) rows)
    ∙ ap (λ (l : List ℕ). name_text row ++ l) (names_moved base rows)
    ∙ sym (flat_map-cons name_text row rows)

-- the library's rows are those of its files, moved to after the dictionary
pub library_moved : (files : List LibraryFile) → library_rows files ≡ map (moved_row (dictionary_size files)) (rows_from 1 0 files)
unfolding library_rows
library_moved files =
    let plain : dictionary_size files ≡ dictionary_size files + 0 = omega arith in
    ap (λ (n : ℕ). rows_from 1 n files) plain ∙ rows_moved (dictionary_size files) 1 0 files

-- ---- sizes

abbrev flag_of : Bool → ℕ
flag_of private = if private then 1 else 0

pub length-row : (name : ℕ) (row : LibraryRow) → length (row_text name row) ≡ 12
length-row name row = by (little_bytes 4 name) (little_bytes 2 row.file) (little_bytes 2 (flag_of row.private)) (little_bytes 4 row.at) (length-bytes_low_first 0 4 name) (length-bytes_low_first 0 2 row.file) (length-bytes_low_first 0 2 (flag_of row.private)) (length-bytes_low_first 0 4 row.at)
  where
    by : (a b c d : List ℕ) → length a ≡ 4 → length b ≡ 2 → length c ≡ 2 → length d ≡ 4 → length (a ++ (b ++ (c ++ d))) ≡ 12
    by a b c d p q r s = omega (arith, length-append a (b ++ (c ++ d)), length-append b (c ++ d), length-append c d)

pub length-rows : (name : ℕ) (rows : Rows) → length (rows_text name rows) ≡ 12 * length rows
length-rows name [] = refl
length-rows name (row ∷ rows) =
    let rest = length-rows (name + 1 + length row.name) rows in
    omega (arith, length-append (row_text name row) (rows_text (name + 1 + length row.name) rows), length-row name row, rest)

length-long : (bytes : List ℕ) → length (spelling written_layout (LongConst bytes)) ≡ 5 + length bytes
unfolding spelling
length-long bytes = omega (arith, length-append (little_bytes 4 (length bytes)) bytes, length-bytes_low_first 0 4 (length bytes))

length-end : length (spelling written_layout End) ≡ 1
unfolding spelling
length-end = refl

pub length-body : (first second third : List ℕ) → length (dictionary_body first second third) ≡ 16 + (length first + length second + length third)
length-body first second third =
    let a = spelling written_layout (LongConst first) in
    let b = spelling written_layout (LongConst second) in
    let c = spelling written_layout (LongConst third) in
    let e = spelling written_layout End in
    omega (arith, length-append a (b ++ (c ++ e)), length-append b (c ++ e), length-append c e, length-long first, length-long second, length-long third, length-end)

pub length-dictionary : (first second third : List ℕ) → length (dictionary_text first second third) ≡ 81 + (length first + length second + length third)
unfolding dictionary_text
length-dictionary first second third =
    let f = dictionary_fields (length first + length second + length third) in
    let body = dictionary_body first second third in
    omega (arith, length-append (header_bytes f (length body)) body, length-header f (length body) refl, length-body first second third)

pub size_is : (files : List LibraryFile) → dictionary_size files ≡ first_place (length (files_text 1 files)) (length (rows_from 1 0 files)) (length (names_text (rows_from 1 0 files)))
unfolding dictionary_size
size_is files = omega arith

pub bytes-length : (files : List LibraryFile) → length (flat_map (λ (file : LibraryFile). file.bytes) files) ≡ total_bytes files
bytes-length [] = refl
bytes-length (file ∷ files) =
    ap length (flat_map-cons (λ (f : LibraryFile). f.bytes) file files)
    ∙ omega (arith, length-append file.bytes (flat_map (λ (f : LibraryFile). f.bytes) files), bytes-length files)

-- the dictionary, and the bytes of the files
pub length-library : (files : List LibraryFile) → length (library_bytes files) ≡ dictionary_size files + total_bytes files
unfolding library_bytes
length-library files =
    let rows = library_rows files in
    let first = files_text 1 files in
    let moved = library_moved files in
    let count : length rows ≡ length (rows_from 1 0 files) = ap length moved ∙ length-map (rows_from 1 0 files) (moved_row (dictionary_size files)) in
    let names : length (names_text rows) ≡ length (names_text (rows_from 1 0 files)) = ap (λ (l : Rows). length (names_text l)) moved ∙ ap length (names_moved (dictionary_size files) (rows_from 1 0 files)) in
    let text = dictionary_text first (rows_text 0 rows) (names_text rows) in
    omega (arith, length-append text (flat_map (λ (file : LibraryFile). file.bytes) files), length-dictionary first (rows_text 0 rows) (names_text rows), length-rows 0 rows, count, names, size_is files, bytes-length files)

-- ---- where segments start

abbrev Before : ℕ → LibraryRow → Type 0
Before most row = row.at < most

all-append : (most : ℕ) (xs ys : Rows) → AllByRecursion (Before most) xs → AllByRecursion (Before most) ys → AllByRecursion (Before most) (xs ++ ys)
all-append most [] ys p q = q
all-append most (x ∷ xs) ys p q = (p.0, all-append most xs ys p.1 q)

segment_before : (most number front : ℕ) (s : Segment) → front + s.start < most → AllByRecursion (Before most) (segment_rows number front s)
segment_before most number front s lt = by (outer_names s)
  where
    by : (names : List (List ℕ × Bool)) → AllByRecursion (Before most) (map (λ n. record { name = n.0; file = number; private = n.1; at = front + s.start }) names)
    by [] = tt
    by (n ∷ names) = (lt, by names)

segments_before : (number front : ℕ) (segments : List Segment) (at : ℕ) (file : List ℕ) (end : ℕ) → AreSegments segments at file end → (most : ℕ) → front + length file ≤ most
    → AllByRecursion (Before most) (flat_map (segment_rows number front) segments)
segments_before number front [] at file end are most fits = tt
segments_before number front (s ∷ segments) at file end are most fits =
    subst (AllByRecursion (Before most)) (sym (flat_map-cons (segment_rows number front) s segments))
    (all-append most (segment_rows number front s) (flat_map (segment_rows number front) segments) (segment_before most number front s (omega (arith, are.0, are.1)))
    (segments_before number front segments (at + s.fields.byte_count) file end are.3 most fits))

pub rows_before : (number front : ℕ) (files : List LibraryFile) → AllByRecursion IsReadFile files → (most : ℕ) → front + total_bytes files ≤ most → AllByRecursion (Before most) (rows_from number front files)
rows_before number front [] all most fits = tt
rows_before number front (file ∷ files) all most fits =
    all-append most (flat_map (segment_rows number front) file.segments) (rows_from (number + 1) (front + length file.bytes) files)
    (segments_before number front file.segments 0 file.bytes (length file.bytes) all.0.segments most (omega arith))
    (rows_before (number + 1) (front + length file.bytes) files all.1 most (omega arith))

pub start_before : (files : List LibraryFile) (most : ℕ) → AreFiles files → total_bytes files ≤ most → StartBefore most (rows_from 1 0 files)
start_before files most are fits = record { each = rows_before 1 0 files are.each most (omega arith) }

-- ---- the whole

-- the library, as it is put together
pub library_is : (files : List LibraryFile) (rows : Rows) (base : ℕ) (first second third out : List ℕ) → rows ≡ rows_from 1 0 files → first ≡ files_text 1 files → third ≡ names_text rows → base ≡ dictionary_size files
    → second ≡ rows_text 0 (map (moved_row base) rows) → out ≡ dictionary_text first second third ++ flat_map (λ (file : LibraryFile). file.bytes) files → out ≡ library_bytes files
unfolding library_bytes
library_is files rows base first second third out rows_is first_is third_is base_is second_is out_is =
    let moved : map (moved_row base) rows ≡ library_rows files =
    ap (λ (b : ℕ). map (moved_row b) rows) base_is ∙ ap (map (moved_row (dictionary_size files))) rows_is ∙ sym (library_moved files) in
    let second' : second ≡ rows_text 0 (library_rows files) = second_is ∙ ap (rows_text 0) moved in
    let third' : third ≡ names_text (library_rows files) = third_is ∙ sym (names_moved base rows) ∙ ap names_text moved in
    let bytes = flat_map (λ (file : LibraryFile). file.bytes) files in
    out_is
    ∙ ap (λ (l : List ℕ). dictionary_text l second third ++ bytes) first_is
    ∙ ap (λ (l : List ℕ). dictionary_text (files_text 1 files) l third ++ bytes) second'
    ∙ ap (λ (l : List ℕ). dictionary_text (files_text 1 files) (rows_text 0 (library_rows files)) l ++ bytes) third'

-- ---- files that were read

pub members_fit : (members : List Member) (files : List LibraryFile) → AreMembers (map given_file members) files → AllByRecursion (λ (m : Member). length m.bytes.items < 2 ^ 32) members → AllByRecursion IsReadFile files
members_fit [] [] are short = tt
members_fit [] (f ∷ files) are short = absurd are
members_fit (m ∷ members) [] are short = absurd are
members_fit (m ∷ members) (f ∷ files) are short =
    let one = are.0 in
    let size : length f.bytes < 2 ^ 32 = omega (arith, ap length one.bytes, short.0) in
    (record { segments = one.segments; short = size }, members_fit members files are.1 short.1)

pub members_count : (members : List Member) (files : List LibraryFile) → AreMembers (map given_file members) files → length files ≡ length members
members_count [] [] are = refl
members_count [] (f ∷ files) are = absurd are
members_count (m ∷ members) [] are = absurd are
members_count (m ∷ members) (f ∷ files) are = ap suc (members_count members files are.1)

-- ---- the dictionary, put together

pub dictionary_whole : (first second third o0 o1 o2 o3 o4 : List ℕ) → o0 ≡ header_bytes (dictionary_fields (length first + length second + length third)) (16 + (length first + length second + length third))
    → o1 ≡ o0 ++ spelling written_layout (LongConst first) → o2 ≡ o1 ++ spelling written_layout (LongConst second) → o3 ≡ o2 ++ spelling written_layout (LongConst third)
    → o4 ≡ o3 ++ spelling written_layout End → o4 ≡ dictionary_text first second third
unfolding dictionary_text
dictionary_whole first second third o0 o1 o2 o3 o4 e0 e1 e2 e3 e4 =
    let a = spelling written_layout (LongConst first) in
    let b = spelling written_layout (LongConst second) in
    let c = spelling written_layout (LongConst third) in
    let e = spelling written_layout End in
    let f = dictionary_fields (length first + length second + length third) in
    let size = length-body first second third in
    e4
    ∙ ap (λ (l : List ℕ). l ++ e) (e3 ∙ ap (λ (l : List ℕ). l ++ c) (e2 ∙ ap (λ (l : List ℕ). l ++ b) (e1 ∙ ap (λ (l : List ℕ). l ++ a) e0)))
    ∙ append_assoc (((header_bytes f (16 + (length first + length second + length third))) ++ a) ++ b) c e
    ∙ append_assoc (header_bytes f (16 + (length first + length second + length third)) ++ a) b (c ++ e)
    ∙ append_assoc (header_bytes f (16 + (length first + length second + length third))) a (b ++ (c ++ e))
    ∙ ap (λ (n : ℕ). header_bytes f n ++ (a ++ (b ++ (c ++ e)))) (sym size)

-- ---- what the sizes say of the whole

-- a place that doesn't fit is that of a library that is too long
pub too_long_is : (files : List LibraryFile) (first rows third total : ℕ) → first ≡ length (files_text 1 files) → rows ≡ length (rows_from 1 0 files) → third ≡ length (names_text (rows_from 1 0 files))
    → total ≡ total_bytes files → most_bytes < first_place first rows third + total → most_bytes < length (library_bytes files)
too_long_is files first rows third total p q r s long = omega (arith, p, q, r, s, long, size_is files, length-library files)

-- and one that fits is where the first file begins
pub place_is : (files : List LibraryFile) (first rows third place : ℕ) → first ≡ length (files_text 1 files) → rows ≡ length (rows_from 1 0 files) → third ≡ length (names_text (rows_from 1 0 files))
    → place ≡ first_place first rows third → place ≡ dictionary_size files
place_is files first rows third place p q r is = omega (arith, p, q, r, is, size_is files)
