-- Loops over the files of a library and over its rows.
use Rattle.std.proofs.Common.{◌≡◌, ℕ, zero, suc, ◌+◌, ◌*◌, ◌<◌, ◌≤◌, Bool, true, false, List, [], ◌∷◌, ◌++◌, length, drop, get_or, map, Some, None, refl, sym, ap, subst, ◌∙◌, append_assoc, arith}
use Rattle.std.specs.Prelude.{slice_get, if◌then◌else◌}
use Rattle.std.specs.Int.{from_bool}
use Rattle.std.specs.List.{flat_map, AllByRecursion}
use Rattle.std.proofs.lemmas.List.{append-nil, length-append}
use Rattle.std.proofs.lemmas.List.Concat.{flat_map-cons}
use Rattle.byteorder.specs.Endian.{little_bytes}
use Rattle.omf_format.specs.File.{Segment, segment_at}
use Rattle.omf_records.specs.declared.segment.SegmentView.{SegmentView}
use Rattle.omf_records.specs.Segments.{segment_of_view}
use Rattle.omf_records.specs.SegmentLaws.{shown_at, none_past}
use Rattle.lib_dict.specs.declared.listed.Outer.{Outer}
use Rattle.lib_dict.specs.declared.members.MemberRead.{MemberRead}
use Rattle.lib_dict.specs.View.{outer_row}
use Rattle.lib_dict.specs.Library.{LibraryRow, LibraryFile, segment_rows, rows_from, files_text, names_text, rows_text}
use Rattle.lib_dict.specs.Steps.{row_text}
use Rattle.lib_dict.specs.Made.{library_file}
use Rattle.lib_dict.specs.Sizes.{IsReadFile, AreFiles, total_bytes, moved_row}

-- ---- places in lists

pub drop_at : {A B : Type 0} (f : A → B) (xs : List A) (i : ℕ) (x : A) → i < length xs → x ≡ get_or xs i x → drop i (map f xs) ≡ f x ∷ drop (i + 1) (map f xs)
drop_at f [] i x lt is = absurd (omega arith)
drop_at f (y ∷ xs) zero x lt is = ap (λ z. f z ∷ map f xs) (sym is)
drop_at f (y ∷ xs) (suc i) x lt is = let step : suc i + 1 ≡ suc (i + 1) = omega arith in drop_at f xs i x (omega arith) is ∙ ap (λ (n : ℕ). f x ∷ drop n (map f (y ∷ xs))) (sym step)

pub drop_end : {A B : Type 0} (f : A → B) (xs : List A) (i : ℕ) → length xs ≤ i → drop i (map f xs) ≡ []
drop_end f [] zero past = refl
drop_end f [] (suc i) past = refl
drop_end f (y ∷ xs) zero past = absurd (omega arith)
drop_end f (y ∷ xs) (suc i) past = drop_end f xs i (omega arith)

pub each_at : {A B : Type 0} (P : B → Type 0) (f : A → B) (xs : List A) (i : ℕ) (x : A) → AllByRecursion P (map f xs) → i < length xs → x ≡ get_or xs i x → P (f x)
each_at P f [] i x all lt is = absurd (omega arith)
each_at P f (y ∷ xs) zero x all lt is = subst (λ z. P (f z)) (sym is) all.0
each_at P f (y ∷ xs) (suc i) x all lt is = each_at P f xs i x all.1 (omega arith) is

-- ---- the rows of a file

-- the rows so far, and those of the segments that are left, are all
pub record PassedFile (file front : ℕ) (list : List Segment) (passed : ℕ) (old rows : List LibraryRow) : Type 0 where
  pub within : passed ≤ length list
  pub whole : old ++ flat_map (segment_rows file front) list ≡ rows ++ flat_map (segment_rows file front) (drop passed list)

drop-here : (list : List Segment) (k : ℕ) (s : Segment) → slice_get list k ≡ Some s → drop k list ≡ s ∷ drop (k + 1) list
drop-here [] k s is = absurd cc
drop-here (t ∷ list) zero s is = let same : t ≡ s = cc in ap (λ (u : Segment). u ∷ list) same
drop-here (t ∷ list) (suc k) s is = let step : suc k + 1 ≡ suc (k + 1) = omega arith in drop-here list k s is ∙ ap (λ (n : ℕ). s ∷ drop n (t ∷ list)) (sym step)

within-here : (list : List Segment) (k : ℕ) (s : Segment) → slice_get list k ≡ Some s → k < length list
within-here [] k s is = absurd cc
within-here (t ∷ list) zero s is = omega arith
within-here (t ∷ list) (suc k) s is = let rest = within-here list k s is in omega arith

drop-past : (list : List Segment) (k : ℕ) → length list ≤ k → drop k list ≡ []
drop-past [] zero past = refl
drop-past [] (suc k) past = refl
drop-past (t ∷ list) zero past = absurd (omega arith)
drop-past (t ∷ list) (suc k) past = drop-past list k (omega arith)

pub file_next : (file front : ℕ) (list : List Segment) (k : ℕ) (v : SegmentView) (old rows new : List LibraryRow) → PassedFile file front list k old rows → Some (segment_of_view v) ≡ segment_at list (k + 1)
    → new ≡ rows ++ segment_rows file front (segment_of_view v) → PassedFile file front list (k + 1) old new
file_next file front list k v old rows new p is more =
    let here = shown_at list k v is in
    let lt = within-here list k (segment_of_view v) here in
    let F = segment_rows file front in
    record {
      within = omega arith;
      whole =
          p.whole
          ∙ ap (λ (l : List Segment). rows ++ flat_map F l) (drop-here list k (segment_of_view v) here)
          ∙ ap (λ (l : List LibraryRow). rows ++ l) (flat_map-cons F (segment_of_view v) (drop (k + 1) list))
          ∙ sym (append_assoc rows (F (segment_of_view v)) (flat_map F (drop (k + 1) list)))
          ∙ ap (λ (l : List LibraryRow). l ++ flat_map F (drop (k + 1) list)) (sym more);
    }

pub file_all : (file front : ℕ) (list : List Segment) (k : ℕ) (old rows : List LibraryRow) → PassedFile file front list k old rows → None ≡ segment_at list (k + 1)
    → rows ≡ old ++ flat_map (segment_rows file front) list
file_all file front list k old rows p none =
    sym (p.whole ∙ ap (λ (l : List Segment). rows ++ flat_map (segment_rows file front) l) (drop-past list k (none_past list k none)) ∙ append-nil rows)

-- ---- the rows of all files

pub record PassedFiles (reads : List MemberRead) (i file front : ℕ) (rows : List Outer) : Type 0 where
  pub number : file ≡ i + 1
  pub front' : front ≤ i * 4294967296
  pub whole : rows_from 1 0 (map library_file reads) ≡ map outer_row rows ++ rows_from file front (drop i (map library_file reads))

pub files_none : (reads : List MemberRead) (rows : List Outer) → rows ≡ [] → PassedFiles reads 0 1 0 rows
files_none reads rows none = record {
  number = refl;
  front' = omega arith;
  whole = ap (λ (l : List Outer). map outer_row l ++ rows_from 1 0 (map library_file reads)) (sym none);
}

-- a file of so few bytes
pub file_is : (reads : List MemberRead) (i : ℕ) (r : MemberRead) → AreFiles (map library_file reads) → i < length reads → r ≡ get_or reads i r → IsReadFile (library_file r)
file_is reads i r are lt is = each_at IsReadFile library_file reads i r are.each lt is

pub files_next : (reads : List MemberRead) (i file front : ℕ) (rows new : List Outer) (r : MemberRead) → PassedFiles reads i file front rows → AreFiles (map library_file reads) → i < length reads → r ≡ get_or reads i r
    → map outer_row new ≡ map outer_row rows ++ flat_map (segment_rows file front) r.list → PassedFiles reads (i + 1) (file + 1) (front + length r.member.now.bytes.items) new
files_next reads i file front rows new r p are lt is more =
    let one = file_is reads i r are lt is in
    let rest = drop (i + 1) (map library_file reads) in
    record {
      number = omega (arith, p.number);
      front' = omega (arith, p.front', one.short);
      whole =
          p.whole
          ∙ ap (λ (l : List LibraryFile). map outer_row rows ++ rows_from file front l) (drop_at library_file reads i r lt is)
          ∙ sym (append_assoc (map outer_row rows) (flat_map (segment_rows file front) r.list) (rows_from (file + 1) (front + length r.member.now.bytes.items) rest))
          ∙ ap (λ (l : List LibraryRow). l ++ rows_from (file + 1) (front + length r.member.now.bytes.items) rest) (sym more);
    }

pub files_all : (reads : List MemberRead) (i file front : ℕ) (rows : List Outer) → PassedFiles reads i file front rows → length reads ≤ i → map outer_row rows ≡ rows_from 1 0 (map library_file reads)
files_all reads i file front rows p past =
    sym (p.whole ∙ ap (λ (l : List LibraryFile). map outer_row rows ++ rows_from file front l) (drop_end library_file reads i past) ∙ append-nil (map outer_row rows))

-- ---- how many bytes

pub record Counted (reads : List MemberRead) (i total : ℕ) : Type 0 where
  pub small : total ≤ i * 4294967296
  pub whole : total + total_bytes (drop i (map library_file reads)) ≡ total_bytes (map library_file reads)

pub counted_next : (reads : List MemberRead) (i total : ℕ) (r : MemberRead) → Counted reads i total → AreFiles (map library_file reads) → i < length reads → r ≡ get_or reads i r
    → Counted reads (i + 1) (total + length r.member.now.bytes.items)
counted_next reads i total r so_far are lt is =
    let one = file_is reads i r are lt is in
    record {
      small = omega (arith, so_far.small, one.short);
      whole = omega (arith, so_far.whole, ap total_bytes (drop_at library_file reads i r lt is));
    }

pub counted_all : (reads : List MemberRead) (i total : ℕ) → Counted reads i total → length reads ≤ i → total ≡ total_bytes (map library_file reads)
counted_all reads i total so_far past = omega (arith, so_far.whole, ap total_bytes (drop_end library_file reads i past))

-- ---- the first record

pub record WrittenFiles (reads : List MemberRead) (i file : ℕ) (out : List ℕ) : Type 0 where
  pub number : file ≡ i + 1
  pub whole : files_text 1 (map library_file reads) ≡ out ++ files_text file (drop i (map library_file reads))

pub written_none : (reads : List MemberRead) (out : List ℕ) → out ≡ [] → WrittenFiles reads 0 1 out
written_none reads out none = record { number = refl; whole = ap (λ (l : List ℕ). l ++ files_text 1 (map library_file reads)) (sym none) }

pub written_next : (reads : List MemberRead) (i file : ℕ) (out new : List ℕ) (r : MemberRead) → WrittenFiles reads i file out → i < length reads → r ≡ get_or reads i r
    → new ≡ out ++ (little_bytes 2 file ++ length r.member.now.name ∷ r.member.now.name) → WrittenFiles reads (i + 1) (file + 1) new
written_next reads i file out new r w lt is more =
    let name = r.member.now.name in
    let rest = files_text (file + 1) (drop (i + 1) (map library_file reads)) in
    record {
      number = omega (arith, w.number);
      whole =
          w.whole
          ∙ ap (λ (l : List LibraryFile). out ++ files_text file l) (drop_at library_file reads i r lt is)
          ∙ ap (λ (l : List ℕ). out ++ l) (sym (append_assoc (little_bytes 2 file) (length name ∷ name) rest))
          ∙ sym (append_assoc out (little_bytes 2 file ++ length name ∷ name) rest)
          ∙ ap (λ (l : List ℕ). l ++ rest) (sym more);
    }

pub written_all : (reads : List MemberRead) (i file : ℕ) (out new : List ℕ) → WrittenFiles reads i file out → length reads ≤ i → new ≡ out ++ 0 ∷ 0 ∷ [] → new ≡ files_text 1 (map library_file reads)
written_all reads i file out new w past is = is ∙ sym (w.whole ∙ ap (λ (l : List LibraryFile). out ++ files_text file l) (drop_end library_file reads i past))

-- ---- the third record

pub record WrittenNames (rows : List Outer) (i : ℕ) (out : List ℕ) : Type 0 where
  pub whole : names_text (map outer_row rows) ≡ out ++ names_text (drop i (map outer_row rows))

abbrev name_text : LibraryRow → List ℕ
name_text row = length row.name ∷ row.name

names-cons : (row : LibraryRow) (rows : List LibraryRow) → names_text (row ∷ rows) ≡ name_text row ++ names_text rows
unfolding names_text
names-cons row rows = flat_map-cons name_text row rows

names-nil : names_text [] ≡ []
unfolding names_text
names-nil = refl

pub names_none : (rows : List Outer) (out : List ℕ) → out ≡ [] → WrittenNames rows 0 out
names_none rows out none = record { whole = ap (λ (l : List ℕ). l ++ names_text (map outer_row rows)) (sym none) }

pub names_next : (rows : List Outer) (i : ℕ) (out new : List ℕ) (o : Outer) → WrittenNames rows i out → i < length rows → o ≡ get_or rows i o → new ≡ out ++ (length o.name.now ∷ o.name.now) → WrittenNames rows (i + 1) new
names_next rows i out new o w lt is more =
    let rest = drop (i + 1) (map outer_row rows) in
    record {
      whole =
          w.whole
          ∙ ap (λ (l : List LibraryRow). out ++ names_text l) (drop_at outer_row rows i o lt is)
          ∙ ap (λ (l : List ℕ). out ++ l) (names-cons (outer_row o) rest)
          ∙ sym (append_assoc out (name_text (outer_row o)) (names_text rest))
          ∙ ap (λ (l : List ℕ). l ++ names_text rest) (sym more);
    }

pub names_all : (rows : List Outer) (i : ℕ) (out : List ℕ) → WrittenNames rows i out → length rows ≤ i → out ≡ names_text (map outer_row rows)
names_all rows i out w past =
    sym (w.whole ∙ ap (λ (l : List LibraryRow). out ++ names_text l) (drop_end outer_row rows i past) ∙ ap (λ (l : List ℕ). out ++ l) names-nil ∙ append-nil out)

-- ---- the second record

pub flag_is : (b : Bool) → from_bool b ≡ (if b then 1 else 0)
flag_is true = refl
flag_is false = refl

-- a row that was written number by number
pub row_put : (name : ℕ) (row : LibraryRow) (flag : ℕ) (old o1 o2 o3 o4 : List ℕ) → o1 ≡ old ++ little_bytes 4 name → o2 ≡ o1 ++ little_bytes 2 row.file → o3 ≡ o2 ++ little_bytes 2 flag
    → o4 ≡ o3 ++ little_bytes 4 row.at → flag ≡ (if row.private then 1 else 0) → o4 ≡ old ++ row_text name row
row_put name row flag old o1 o2 o3 o4 e1 e2 e3 e4 is =
    let a = little_bytes 4 name in
    let b = little_bytes 2 row.file in
    let c = little_bytes 2 flag in
    let d = little_bytes 4 row.at in
    e4
    ∙ ap (λ (l : List ℕ). l ++ d) (e3 ∙ ap (λ (l : List ℕ). l ++ c) (e2 ∙ ap (λ (l : List ℕ). l ++ b) e1))
    ∙ append_assoc ((old ++ a) ++ b) c d
    ∙ append_assoc (old ++ a) b (c ++ d)
    ∙ append_assoc old a (b ++ (c ++ d))
    ∙ ap (λ (n : ℕ). old ++ (a ++ (b ++ (little_bytes 2 n ++ d)))) is

pub record WrittenRows (rows : List Outer) (base i name : ℕ) (out : List ℕ) : Type 0 where
  pub left : name + length (names_text (drop i (map outer_row rows))) ≡ length (names_text (map outer_row rows))
  pub whole : rows_text 0 (map (moved_row base) (map outer_row rows)) ≡ out ++ rows_text name (map (moved_row base) (drop i (map outer_row rows)))

pub rows_none : (rows : List Outer) (base : ℕ) (out : List ℕ) → out ≡ [] → WrittenRows rows base 0 0 out
rows_none rows base out none = record {
  left = omega arith;
  whole = ap (λ (l : List ℕ). l ++ rows_text 0 (map (moved_row base) (map outer_row rows))) (sym none);
}

names_left : (rows : List Outer) (i : ℕ) (o : Outer) → i < length rows → o ≡ get_or rows i o
    → length (names_text (drop i (map outer_row rows))) ≡ 1 + length o.name.now + length (names_text (drop (i + 1) (map outer_row rows)))
names_left rows i o lt is =
    let rest = drop (i + 1) (map outer_row rows) in
    ap (λ (l : List LibraryRow). length (names_text l)) (drop_at outer_row rows i o lt is)
    ∙ ap length (names-cons (outer_row o) rest)
    ∙ omega (arith, length-append (name_text (outer_row o)) (names_text rest))

pub rows_next : (rows : List Outer) (base i name : ℕ) (out new : List ℕ) (o : Outer) → WrittenRows rows base i name out → i < length rows → o ≡ get_or rows i o
    → new ≡ out ++ row_text name (moved_row base (outer_row o)) → WrittenRows rows base (i + 1) (name + (1 + length o.name.now)) new
rows_next rows base i name out new o w lt is more =
    let rest = drop (i + 1) (map outer_row rows) in
    let row = moved_row base (outer_row o) in
    let place : name + 1 + length o.name.now ≡ name + (1 + length o.name.now) = omega arith in
    record {
      left = omega (arith, w.left, names_left rows i o lt is);
      whole =
          w.whole
          ∙ ap (λ (l : List LibraryRow). out ++ rows_text name (map (moved_row base) l)) (drop_at outer_row rows i o lt is)
          ∙ sym (append_assoc out (row_text name row) (rows_text (name + 1 + length o.name.now) (map (moved_row base) rest)))
          ∙ ap (λ (l : List ℕ). l ++ rows_text (name + 1 + length o.name.now) (map (moved_row base) rest)) (sym more)
          ∙ ap (λ (n : ℕ). new ++ rows_text n (map (moved_row base) rest)) place;
    }

pub rows_all : (rows : List Outer) (base i name : ℕ) (out : List ℕ) → WrittenRows rows base i name out → length rows ≤ i → out ≡ rows_text 0 (map (moved_row base) (map outer_row rows))
rows_all rows base i name out w past =
    sym (w.whole ∙ ap (λ (l : List LibraryRow). out ++ rows_text name (map (moved_row base) l)) (drop_end outer_row rows i past) ∙ append-nil out)

-- ---- the files' bytes

abbrev bytes_of : LibraryFile → List ℕ
bytes_of file = file.bytes

pub record WrittenBytes (reads : List MemberRead) (i : ℕ) (old out : List ℕ) : Type 0 where
  pub whole : old ++ flat_map bytes_of (map library_file reads) ≡ out ++ flat_map bytes_of (drop i (map library_file reads))

pub bytes_next : (reads : List MemberRead) (i : ℕ) (old out new : List ℕ) (r : MemberRead) → WrittenBytes reads i old out → i < length reads → r ≡ get_or reads i r → new ≡ out ++ r.member.now.bytes.items → WrittenBytes reads (i + 1) old new
bytes_next reads i old out new r w lt is more =
    let rest = drop (i + 1) (map library_file reads) in
    record {
      whole =
          w.whole
          ∙ ap (λ (l : List LibraryFile). out ++ flat_map bytes_of l) (drop_at library_file reads i r lt is)
          ∙ ap (λ (l : List ℕ). out ++ l) (flat_map-cons bytes_of (library_file r) rest)
          ∙ sym (append_assoc out r.member.now.bytes.items (flat_map bytes_of rest))
          ∙ ap (λ (l : List ℕ). l ++ flat_map bytes_of rest) (sym more);
    }

pub bytes_all : (reads : List MemberRead) (i : ℕ) (old out : List ℕ) → WrittenBytes reads i old out → length reads ≤ i → out ≡ old ++ flat_map bytes_of (map library_file reads)
bytes_all reads i old out w past =
    sym (w.whole ∙ ap (λ (l : List LibraryFile). out ++ flat_map bytes_of l) (drop_end library_file reads i past) ∙ append-nil out)
