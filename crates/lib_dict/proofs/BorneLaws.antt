-- The rows of a library that is made are borne out by its segments, and laid out in its dictionary.
use Rattle.std.proofs.Common.{◌≡◌, ℕ, suc, ◌+◌, ◌^◌, ◌<◌, ◌≤◌, Bool, true, false, List, [], ◌∷◌, ◌++◌, length, take, map, Option, Some, inl, inr, refl, sym, ap, subst, ◌∙◌, append_assoc, arith}
use Rattle.std.specs.Prelude.{◌||◌, not, ◌==◌, if◌then◌else◌, slice_get}
use Rattle.std.specs.List.{flat_map, filter_map, cons_option, list_any, AllByRecursion}
use Rattle.std.specs.Option.{option_map_or}
use Rattle.std.proofs.lemmas.Bool.{eq-eqb}
use Rattle.std.proofs.lemmas.List.{append-nil, length-append}
use Rattle.std.proofs.lemmas.List.Concat.{flat_map-cons}
use Rattle.byteorder.specs.Endian.{little_bytes}
use Rattle.byteorder.specs.Numbers.{length-bytes_low_first, little_number-reads_back}
use Rattle.omf_format.specs.Number.{number_at}
use Rattle.omf_format.specs.Header.{form_of, laid_out}
use Rattle.omf_format.specs.laws.HeaderLaws.{size_of, number_at-laid_out}
use Rattle.omf_format.specs.Record.{Record}
use Rattle.omf_format.specs.File.{Segment, segment_at}
use Rattle.link_meaning.specs.First.{IsIn}
use Rattle.link_meaning.specs.Member.{OfferedRow}
use Rattle.object_meaning.specs.Defines.{Scope, ForSegment, ForUnit, ForAll, Definition, title_of, defined_in}
use Rattle.lib_dict.specs.Library.{LibraryRow, row_view, segment_rows, LibraryFile, rows_from, files_text, names_text, rows_text, is_dictionary}
use Rattle.lib_dict.specs.Steps.{outer_name, name_in, row_text, outer_names}
use Rattle.lib_dict.specs.DictionaryLayout.{counted_name, AreFileNumbers, DefinesSo, IsRow, AreRows}
use Rattle.lib_dict.specs.View.{outer_of}
use Rattle.lib_dict.proofs.Outers.{names-parts}
use Rattle.lib_dict.proofs.SizeLaws.{length-row}
use Rattle.lib_dict.proofs.MovedLaws.{moved_found, moved_segment, members_of}

-- ---- lists

pub all-append : {A : Type 0} (P : A → Type 0) (xs ys : List A) → AllByRecursion P xs → AllByRecursion P ys → AllByRecursion P (xs ++ ys)
all-append P [] ys p q = q
all-append P (x ∷ xs) ys p q = (p.0, all-append P xs ys p.1 q)

in_middle : {A : Type 0} (front : List A) (x : A) (rest : List A) → IsIn (front ++ x ∷ rest) x
in_middle [] x rest = inl refl
in_middle (y ∷ front) x rest = inr (in_middle front x rest)

all_in_rest : {A : Type 0} (front xs : List A) → AllByRecursion (IsIn (front ++ xs)) xs
all_in_rest front [] = tt
all_in_rest {A = A} front (x ∷ xs) = (in_middle front x xs, subst (λ (l : List A). AllByRecursion (IsIn l) xs) (append_assoc front (x ∷ []) xs) (all_in_rest (front ++ x ∷ []) xs))

get_middle : (front : List Segment) (s : Segment) (rest : List Segment) → slice_get (front ++ s ∷ rest) (length front) ≡ Some s
get_middle [] s rest = refl
get_middle (t ∷ front) s rest = get_middle front s rest

neither : (a b : Bool) → (a || b) ≡ false → (a ≡ false) × (b ≡ false)
neither true b e = absurd cc
neither false b e = (refl, e)

-- ---- what a segment defines for others

abbrev Defined : Segment → List ℕ × Bool → Type 0
Defined s n = DefinesSo s n.0 n.1

defined_from : (s : Segment) (ds : List Definition) → AllByRecursion (IsIn (defined_in s)) ds → AllByRecursion (Defined s) (filter_map outer_name ds)
defined_from s [] all = tt
defined_from s (d ∷ ds) all = by d.scope refl (defined_from s ds all.1)
  where
    by : (scope : Scope) → d.scope ≡ scope → AllByRecursion (Defined s) (filter_map outer_name ds) → AllByRecursion (Defined s) (cons_option (name_in scope d.name) (filter_map outer_name ds))
    by ForSegment is rest = rest
    by ForUnit is rest = (record { by = d; among = all.0; name' = refl; scope = is }, rest)
    by ForAll is rest = (record { by = d; among = all.0; name' = refl; scope = is }, rest)

defined_all : (s : Segment) → AllByRecursion (Defined s) (outer_names s)
defined_all s = defined_from s (defined_in s) (all_in_rest [] (defined_in s))

-- a segment that lies further on defines the same names
names_up : (k : ℕ) (s : Segment) → outer_names (moved_segment k s) ≡ outer_names s
unfolding title_of
names_up k s =
    let m = moved_segment k s in
    names-parts m
    ∙ ap (λ l. l ++ filter_map name_of m.records) (by_name s.fields.name)
    ∙ ap (λ l. filter_map outer_name (title_of s) ++ l) (same s.records)
    ∙ sym (names-parts s)
  where
    name_of : ℕ × Record → Option (List ℕ × Bool)
    name_of found = outer_of found.1

    same : (founds : List (ℕ × Record)) → filter_map name_of (map (moved_found k) founds) ≡ filter_map name_of founds
    same [] = refl
    same (found ∷ founds) = ap (λ l. cons_option (outer_of found.1) l) (same founds)

    at : ℕ → List ℕ → Segment
    at start name = record s { start = start; fields = record s.fields { name = name } }

    by_name : (name : List ℕ) → filter_map outer_name (title_of (at (k + s.start) name)) ≡ filter_map outer_name (title_of (at s.start name))
    by_name [] = refl
    by_name (b ∷ name) = refl

-- ---- rows that are borne out

-- a segment after the dictionary that isn't one starts where the row says and defines its name as the row says, and its file's number is
-- known
pub record IsBorne (segments : List Segment) (numbers : List ℕ) (row : LibraryRow) : Type 0 where
  pub place : ℕ
  pub segment : Segment
  pub here : segment_at segments place ≡ Some segment
  pub following : 1 < place
  pub start : segment.start ≡ row.at
  pub other : form_of segment.fields.kind ≡ 0x08 → ⊥
  pub defines : DefinesSo segment row.name row.private
  pub known : IsIn numbers row.file
  pub few : row.file < 65536

-- the file with that number has a segment there
record Holds (segments : List Segment) (numbers : List ℕ) (place : ℕ) (s : Segment) (file : ℕ) : Type 0 where
  here : segment_at segments place ≡ Some s
  following : 1 < place
  other : form_of s.fields.kind ≡ 0x08 → ⊥
  known : IsIn numbers file
  few : file < 65536

borne_names : (segments : List Segment) (numbers : List ℕ) (place : ℕ) (s : Segment) (file : ℕ) (names : List (List ℕ × Bool)) → Holds segments numbers place s file → AllByRecursion (Defined s) names
    → AllByRecursion (IsBorne segments numbers) (map (λ n. record { name = n.0; file = file; private = n.1; at = s.start }) names)
borne_names segments numbers place s file [] h all = tt
borne_names segments numbers place s file (n ∷ names) h all = (
  record { place = place; segment = s; here = h.here; following = h.following; start = refl; other = h.other; defines = all.0; known = h.known; few = h.few },
  borne_names segments numbers place s file names h all.1,
)

borne_segment : (segments : List Segment) (numbers : List ℕ) (place file front : ℕ) (s : Segment) → Holds segments numbers place (moved_segment front s) file
    → AllByRecursion (IsBorne segments numbers) (segment_rows file front s)
borne_segment segments numbers place file front s h =
    let m = moved_segment front s in
    borne_names segments numbers place m file (outer_names s) h (subst (AllByRecursion (Defined m)) (names_up front s) (defined_all m))

borne_segments : (segments : List Segment) (numbers : List ℕ) (file front : ℕ) (before list following : List Segment) → segments ≡ before ++ (map (moved_segment front) list ++ following) → 1 ≤ length before
    → list_any is_dictionary list ≡ false → IsIn numbers file → file < 65536 → AllByRecursion (IsBorne segments numbers) (flat_map (segment_rows file front) list)
borne_segments segments numbers file front before [] following is some none known few = tt
borne_segments segments numbers file front before (s ∷ list) following is some none known few =
    let m = moved_segment front s in
    let others = neither (is_dictionary s) (list_any is_dictionary list) none in
    let rest = map (moved_segment front) list ++ following in
    let holds : Holds segments numbers (suc (length before)) m file = record {
      here = ap (λ (l : List Segment). slice_get l (length before)) is ∙ get_middle before m rest;
      following = omega arith;
      other = λ e. differ (sym others.0 ∙ eq-eqb (form_of s.fields.kind) 8 e);
      known = known;
      few = few;
    } in
    let next : segments ≡ (before ++ m ∷ []) ++ rest = is ∙ sym (append_assoc before (m ∷ []) rest) in
    let some' : 1 ≤ length (before ++ m ∷ []) = omega (arith, length-append before (m ∷ [])) in
    subst (AllByRecursion (IsBorne segments numbers)) (sym (flat_map-cons (segment_rows file front) s list))
    (all-append (IsBorne segments numbers) (segment_rows file front s) (flat_map (segment_rows file front) list) (borne_segment segments numbers (suc (length before)) file front s holds)
    (borne_segments segments numbers file front (before ++ m ∷ []) list following next some' others.1 known few))
  where
    differ : false ≡ true → ⊥
    differ e = cc

-- the numbers of these files, of which the first has this one
abbrev pub numbers_of : ℕ → List LibraryFile → List ℕ
numbers_of number [] = []
numbers_of number (file ∷ files) = number ∷ numbers_of (number + 1) files

-- no segment of the file is a dictionary
abbrev pub IsOther : LibraryFile → Type 0
IsOther file = list_any is_dictionary file.segments ≡ false

pub borne_files : (segments : List Segment) (numbers : List ℕ) (number front : ℕ) (before : List Segment) (fewer : List ℕ) (files : List LibraryFile) → segments ≡ before ++ members_of front files
    → numbers ≡ fewer ++ numbers_of number files → 1 ≤ length before → number + length files ≤ 65536 → AllByRecursion IsOther files
    → AllByRecursion (IsBorne segments numbers) (rows_from number front files)
borne_files segments numbers number front before fewer [] is counts some few all = tt
borne_files segments numbers number front before fewer (file ∷ files) is counts some few all =
    let here = map (moved_segment front) file.segments in
    let rest = members_of (front + length file.bytes) files in
    let later = numbers_of (number + 1) files in
    let known : IsIn numbers number = subst (λ (l : List ℕ). IsIn l number) (sym counts) (in_middle fewer number later) in
    all-append (IsBorne segments numbers) (flat_map (segment_rows number front) file.segments) (rows_from (number + 1) (front + length file.bytes) files)
    (borne_segments segments numbers number front before file.segments rest is some all.0 known (omega arith))
    (borne_files segments numbers (number + 1) (front + length file.bytes) (before ++ here) (fewer ++ number ∷ []) files (is ∙ sym (append_assoc before here rest))
    (counts ∙ sym (append_assoc fewer (number ∷ []) later)) (omega (arith, length-append before here)) (omega arith) all.1)

-- ---- the first record

pub file_numbers_are : (number : ℕ) (files : List LibraryFile) → 1 ≤ number → number + length files ≤ 65536 → AreFileNumbers (numbers_of number files) (files_text number files)
unfolding number_at
file_numbers_are number [] some few = (length-bytes_low_first 0 2 0, refl)
file_numbers_are number (file ∷ files) some few =
    let digits = little_bytes 2 number in (
      digits,
      file.name,
      files_text (number + 1) files,
      refl,
      length-bytes_low_first 0 2 number,
      ap (number_at 2 0) (sym (append-nil digits)) ∙ little_number-reads_back 2 number [] (omega arith),
      (λ e. absurd (omega arith)),
      file_numbers_are (number + 1) files (omega arith) (omega arith),
    )

-- ---- the third record

abbrev pub row_name : LibraryRow → List ℕ
row_name row = row.name

pub names_are : (rows : List LibraryRow) → names_text rows ≡ flat_map counted_name (map row_name rows)
unfolding names_text
names_are [] = refl
names_are (row ∷ rows) =
    flat_map-cons (λ (r : LibraryRow). length r.name ∷ r.name) row rows
    ∙ ap (λ (l : List ℕ). counted_name row.name ++ l) (names_are rows)
    ∙ sym (flat_map-cons counted_name row.name (map row_name rows))

-- ---- the second record

abbrev flag_of : Bool → ℕ
flag_of private = if private then 1 else 0

abbrev row_fields : ℕ → LibraryRow → List (ℕ × ℕ)
row_fields name row = (4, name) ∷ (2, row.file) ∷ (2, flag_of row.private) ∷ (4, row.at) ∷ []

row_laid_out : (name : ℕ) (row : LibraryRow) → row_text name row ≡ laid_out (row_fields name row) ++ []
row_laid_out name row =
    ap (λ (l : List ℕ). little_bytes 4 name ++ (little_bytes 2 row.file ++ (little_bytes 2 (flag_of row.private) ++ l))) (sym (append-nil (little_bytes 4 row.at)))
    ∙ sym (append-nil (laid_out (row_fields name row)))

number_in : (name : ℕ) (row : LibraryRow) (k w n : ℕ) → slice_get (row_fields name row) k ≡ Some (w, n) → n < 256 ^ w → number_at w (size_of (take k (row_fields name row))) (row_text name row) ≡ n
number_in name row k w n is fits = ap (number_at w (size_of (take k (row_fields name row)))) (row_laid_out name row) ∙ number_at-laid_out (row_fields name row) k w n [] is fits

flag_small : (private : Bool) → flag_of private < 65536
flag_small true = omega arith
flag_small false = omega arith

flag_back : (private : Bool) → not (flag_of private == 0) ≡ private
flag_back true = refl
flag_back false = refl

-- the rows as they are found
abbrev pub linked : (segments : List Segment) (numbers : List ℕ) (rows : List LibraryRow) → AllByRecursion (IsBorne segments numbers) rows → List OfferedRow
linked segments numbers [] all = []
linked segments numbers (row ∷ rows) all = record { name = row.name; from = row.file; private = row.private; segment = all.0.place } ∷ linked segments numbers rows all.1

pub reported_is : (segments : List Segment) (numbers : List ℕ) (rows : List LibraryRow) (all : AllByRecursion (IsBorne segments numbers) rows) → rows ≡ map (row_view segments) (linked segments numbers rows all)
reported_is segments numbers [] all = refl
reported_is segments numbers (row ∷ rows) all =
    let one = all.0 in
    let place : row.at ≡ option_map_or (λ (s : Segment). s.start) (segment_at segments one.place) 0 = sym (ap (λ (o : Option Segment). option_map_or (λ (s : Segment). s.start) o 0) one.here ∙ one.start) in
    ap (λ (n : ℕ). record { name = row.name; file = row.file; private = row.private; at = n } ∷ rows) place
    ∙ ap (λ (l : List LibraryRow). record { name = row.name; file = row.file; private = row.private; at = option_map_or (λ (s : Segment). s.start) (segment_at segments one.place) 0 } ∷ l) (reported_is segments numbers rows all.1)

abbrev pub StartsLow : LibraryRow → Type 0
StartsLow row = row.at < 4294967296

row_is : (segments : List Segment) (numbers : List ℕ) (done rows : List LibraryRow) (row : LibraryRow) (at : ℕ) (b : IsBorne segments numbers row) → at ≡ length (flat_map counted_name (map row_name done)) → at < 4294967296
    → StartsLow row → IsRow segments numbers (map row_name done ++ row.name ∷ map row_name rows) (row_text at row) (record { name = row.name; from = row.file; private = row.private; segment = b.place })
row_is segments numbers done rows row at b place small low = record {
  name = record { before = map row_name done; following = map row_name rows; parts = refl; place = number_in at row 0 4 at refl (omega arith) ∙ place };
  from = sym (number_in at row 1 2 row.file refl (omega (arith, b.few)));
  known = b.known;
  private = sym (ap (λ (n : ℕ). not (n == 0)) (number_in at row 2 2 (flag_of row.private) refl (omega (arith, flag_small row.private))) ∙ flag_back row.private);
  segment = b.segment;
  here = b.here;
  following = b.following;
  start = b.start ∙ sym (number_in at row 3 4 row.at refl (omega arith));
  other = b.other;
  defines = b.defines;
}

pub rows_are : (segments : List Segment) (numbers : List ℕ) (names : List (List ℕ)) (done rows : List LibraryRow) (at : ℕ) (all : AllByRecursion (IsBorne segments numbers) rows)
    → names ≡ map row_name done ++ map row_name rows → at ≡ length (flat_map counted_name (map row_name done)) → at + length (flat_map counted_name (map row_name rows)) < 4294967296 → AllByRecursion StartsLow rows
    → AreRows segments numbers names (linked segments numbers rows all) (rows_text at rows)
rows_are segments numbers names done [] at all is place small low = refl
rows_are segments numbers names done (row ∷ rows) at all is place small low =
    let more = done ++ row ∷ [] in
    let size = ap length (flat_map-cons counted_name row.name (map row_name rows)) in
    let len : length (flat_map counted_name (map row_name (row ∷ rows))) ≡ 1 + length row.name + length (flat_map counted_name (map row_name rows)) = omega (arith, size, length-append (counted_name row.name) (flat_map counted_name (map row_name rows))) in
    let is' : names ≡ map row_name more ++ map row_name rows =
    is ∙ sym (append_assoc (map row_name done) (row.name ∷ []) (map row_name rows)) ∙ ap (λ (l : List (List ℕ)). l ++ map row_name rows) (sym (map_more done)) in
    let place' : at + 1 + length row.name ≡ length (flat_map counted_name (map row_name more)) =
    omega (arith, place, ap (λ (l : List (List ℕ)). length (flat_map counted_name l)) (map_more done), ap length (flat_more (map row_name done)), length-append (flat_map counted_name (map row_name done)) (counted_name row.name)) in (
      row_text at row,
      rows_text (at + 1 + length row.name) rows,
      refl,
      length-row at row,
      subst (λ (l : List (List ℕ)). IsRow segments numbers l (row_text at row) (record { name = row.name; from = row.file; private = row.private; segment = all.0.place })) (sym is)
          (row_is segments numbers done rows row at all.0 place (omega arith) low.0),
      rows_are segments numbers names more rows (at + 1 + length row.name) all.1 is' place' (omega arith) low.1,
    )
  where
    map_more : (l : List LibraryRow) → map row_name (l ++ row ∷ []) ≡ map row_name l ++ row.name ∷ []
    map_more [] = refl
    map_more (x ∷ l) = ap (λ (r : List (List ℕ)). row_name x ∷ r) (map_more l)

    flat_more : (l : List (List ℕ)) → flat_map counted_name (l ++ row.name ∷ []) ≡ flat_map counted_name l ++ counted_name row.name
    flat_more [] = flat_map-cons counted_name row.name [] ∙ append-nil (counted_name row.name)
    flat_more (x ∷ l) =
        flat_map-cons counted_name x (l ++ row.name ∷ [])
        ∙ ap (λ (r : List ℕ). counted_name x ++ r) (flat_more l)
        ∙ sym (append_assoc (counted_name x) (flat_map counted_name l) (counted_name row.name))
        ∙ ap (λ (r : List ℕ). r ++ counted_name row.name) (sym (flat_map-cons counted_name x l))
