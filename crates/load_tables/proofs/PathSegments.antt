-- The one record of a pathname segment, and the paths of a file.
use Rattle.std.proofs.Common.{◌≡◌, ℕ, zero, suc, ◌+◌, ◌-◌, ◌≤◌, Bool, true, false, eqb, List, [], ◌∷◌, ◌++◌, length, take, replicate, Option, Some, None, Ok, refl, sym, ap, ◌∙◌, append_assoc, arith}
use Rattle.std.specs.Prelude.{◌||◌, not, if◌then◌else◌, option_map, slice_get}
use Rattle.std.specs.List.{list_any}
use Rattle.std.specs.Option.{option_or, option_map_or}
use Rattle.std.proofs.lemmas.List.{length-append, append-nil}
use Rattle.omf_format.specs.Header.{first_of, is_dynamic, is_skipped}
use Rattle.omf_format.specs.Record.{Record, End, Const, LongConst, Align, Org, Space, Reloc, InterSeg, ShortReloc, ShortInterSeg, Super, Using, Strong, Label, Equate, Formula, Entry, content_of}
use Rattle.omf_format.specs.Reading.{Reader, next_answer, after_next, HandsOut, records_of}
use Rattle.omf_format.specs.File.{Segment, body_reader}
use Rattle.omf_records.specs.declared.segment.SegmentView.{SegmentView}
use Rattle.omf_records.specs.Segments.{placed_view, segment_of_view}
use Rattle.omf_format.specs.Body.{body_bytes}
use Rattle.omf_format.specs.laws.FileLaws.{gave, same_found, open_at_some}
use Rattle.omf_format.specs.laws.BodyLaws.{none_at_end}
use Rattle.load_meaning.specs.declared.load.LoadCause.TheVariants.{BadTable}
use Rattle.load_meaning.specs.Cells.{segment_bytes}
use Rattle.load_meaning.specs.Loadable.{pathnames_flaw, pathnames_fault}
use Rattle.load_meaning.specs.laws.Steps.{in_segment}
use Rattle.load_meaning.specs.Pathnames.{has_pathnames, most_paths, paths_of, long_bytes, is_one_long}
use Rattle.load_tables.specs.Paths.{lone_bytes, TakesLast, flaw_in, rows_in, flaw_after, fault_after, paths_then, is_second}

-- ---- the one record

ends : (r last : Reader) → r ≡ last → last.ended ≡ true → r.ended ≡ true
ends r last is ended = ap (λ (x : Reader). x.ended) is ∙ ended

pub lone_some : (r new last : Reader) (found : ℕ × Record) (bytes : List ℕ) (founds : List (ℕ × Record)) → HandsOut r founds last → last.ended ≡ true → next_answer r ≡ Ok (Some found)
    → long_bytes found.1 ≡ Some bytes → new ≡ after_next r → TakesLast new true → lone_bytes founds ≡ Some bytes
lone_some r new last found bytes [] run ended e long after more = absurd (open_at_some r found e (ends r last run ended))
lone_some r new last found bytes (a ∷ []) run ended e long after more =
    absurd (open_at_some new more.0 more.1 (ends new last (after ∙ run.1) ended))
lone_some r new last found bytes (a ∷ b ∷ []) run ended e long after more =
    let same : a ≡ found = same_found a found (sym run.0 ∙ e) in
    ap (λ (f : ℕ × Record). long_bytes f.1) same ∙ long
lone_some r new last found bytes (a ∷ b ∷ c ∷ rest) run ended e long after more =
    let third : next_answer (after_next new) ≡ gave c = ap (λ (x : Reader). next_answer (after_next x)) after ∙ run.1.1.0 in
    let clash : gave c ≡ Ok None = sym third ∙ more.2 in
    absurd cc

pub lone_more : (r new last : Reader) (founds : List (ℕ × Record)) → HandsOut r founds last → last.ended ≡ true → new ≡ after_next r → TakesLast new false → lone_bytes founds ≡ None
lone_more r new last [] run ended after more = refl
lone_more r new last (a ∷ []) run ended after more = refl
lone_more r new last (a ∷ b ∷ []) run ended after more =
    let second : next_answer new ≡ Ok (Some b) = ap (λ (x : Reader). next_answer x) after ∙ run.1.0 in
    let third : after_next new ≡ last = ap (λ (x : Reader). after_next x) after ∙ run.1.1 in
    absurd (more b second (none_at_end (after_next new) (ends (after_next new) last third ended)))
lone_more r new last (a ∷ b ∷ c ∷ rest) run ended after more = refl

-- what was reported for the records that a view shows
pub shown_lone : (v : SegmentView) (reader : Reader) (answer : Option (List ℕ)) → reader ≡ body_reader v.start (placed_view v).fields v.file.now → answer ≡ lone_bytes (records_of reader) → lone_bytes (segment_of_view v).records ≡ answer
shown_lone v reader answer at is = ap (λ (r : Reader). lone_bytes (records_of r)) (sym at) ∙ sym is

-- ---- the segment's bytes

long_content : (r : Record) (bytes : List ℕ) → long_bytes r ≡ Some bytes → content_of r ≡ bytes
long_content (LongConst b) bytes e = some_same b bytes e
  where
    some_same : (x y : List ℕ) → Some x ≡ Some y → x ≡ y
    some_same x y e = cc
long_content End bytes e = absurd cc
long_content (Const b) bytes e = absurd cc
long_content (Align n) bytes e = absurd cc
long_content (Org n) bytes e = absurd cc
long_content (Space n) bytes e = absurd cc
long_content (Reloc count shift location offset) bytes e = absurd cc
long_content (InterSeg count shift location file segment offset) bytes e = absurd cc
long_content (ShortReloc count shift location offset) bytes e = absurd cc
long_content (ShortInterSeg count shift location segment offset) bytes e = absurd cc
long_content (Super form b) bytes e = absurd cc
long_content (Using name) bytes e = absurd cc
long_content (Strong name) bytes e = absurd cc
long_content (Label global name size form private) bytes e = absurd cc
long_content (Equate global name size form private expr) bytes e = absurd cc
long_content (Formula code count n expr) bytes e = absurd cc
long_content (Entry segment offset name) bytes e = absurd cc

no_tail : (xs ys : List ℕ) → length (xs ++ ys) ≡ length xs → xs ++ ys ≡ xs
no_tail xs [] e = append-nil xs
no_tail xs (y ∷ ys) e = absurd (omega (arith, length-append xs (y ∷ ys), e))

-- what begins with bytes that are as many is these
pub lone_segment : (s : Segment) (bytes : List ℕ) → length (segment_bytes s) ≡ s.fields.length → lone_bytes s.records ≡ Some bytes → length bytes ≡ s.fields.length → segment_bytes s ≡ bytes
unfolding segment_bytes body_bytes
lone_segment s bytes size lone long = by_records s.records refl
  where
    whole : (tail : List ℕ) → segment_bytes s ≡ bytes ++ tail → segment_bytes s ≡ bytes
    whole tail is = is ∙ no_tail bytes tail (sym (ap length is) ∙ size ∙ sym long)

    by_records : (records : List (ℕ × Record)) → s.records ≡ records → segment_bytes s ≡ bytes
    by_records [] is = let clash : lone_bytes [] ≡ Some bytes = sym (ap lone_bytes is) ∙ lone in absurd cc
    by_records (a ∷ []) is = let clash : lone_bytes (a ∷ []) ≡ Some bytes = sym (ap lone_bytes is) ∙ lone in absurd cc
    by_records (a ∷ b ∷ []) is =
        let here : long_bytes a.1 ≡ Some bytes = sym (ap lone_bytes is) ∙ lone in
        let body : body_bytes s ≡ content_of a.1 ++ (content_of b.1 ++ []) = ap (λ (l : List (ℕ × Record)). body_of l) is in
        let zeros : List ℕ = replicate (s.fields.length - length (body_bytes s)) 0 in
        whole ((content_of b.1 ++ []) ++ zeros)
        (ap (λ (l : List ℕ). l ++ zeros) (body ∙ ap (λ (l : List ℕ). l ++ (content_of b.1 ++ [])) (long_content a.1 bytes here)) ∙ append_assoc bytes (content_of b.1 ++ []) zeros)
      where
        body_of : List (ℕ × Record) → List ℕ
        body_of l = body_bytes (record s { records = l })
    by_records (a ∷ b ∷ c ∷ rest) is = let clash : lone_bytes (a ∷ b ∷ c ∷ rest) ≡ Some bytes = sym (ap lone_bytes is) ∙ lone in absurd cc

-- ---- whether it has one record

pub not_lone : (size : ℕ) (records : List (ℕ × Record)) → lone_bytes records ≡ None → is_one_long size records ≡ false
not_lone size [] e = refl
not_lone size (a ∷ []) e = refl
not_lone size (a ∷ b ∷ []) e = ap (λ (o : Option (List ℕ)). option_map_or (λ bytes. eqb (length bytes) size) o false) e
not_lone size (a ∷ b ∷ c ∷ rest) e = refl

pub is_lone : (size : ℕ) (records : List (ℕ × Record)) (bytes : List ℕ) → lone_bytes records ≡ Some bytes → is_one_long size records ≡ eqb (length bytes) size
is_lone size [] bytes e = absurd cc
is_lone size (a ∷ []) bytes e = absurd cc
is_lone size (a ∷ b ∷ []) bytes e = ap (λ (o : Option (List ℕ)). option_map_or (λ bytes. eqb (length bytes) size) o false) e
is_lone size (a ∷ b ∷ c ∷ rest) bytes e = absurd cc

-- ---- what is wrong with the segment

pub either_left : (a b : Bool) → a ≡ true → (a || b) ≡ true
either_left a b e = ap (λ (x : Bool). x || b) e

pub either_right : (a b : Bool) → b ≡ true → (a || b) ≡ true
either_right true b e = refl
either_right false b e = e

pub neither_kind : (a b : Bool) → a ≡ false → b ≡ false → (a || b) ≡ false
neither_kind a b p q = ap (λ (x : Bool). x || b) p ∙ q

module _ (s : Segment) where
  rows_of : Option ℕ
  rows_of = flaw_in most_paths (segment_bytes s)

  kind_of : Bool
  kind_of = is_dynamic s.fields.kind || is_skipped s.fields.kind

  checked : Bool → Bool → Bool → Option ℕ
  checked second kind body = option_or (first_of ((second, 0) ∷ (kind, 0) ∷ (not body, 0) ∷ [])) rows_of

  pub flaw_second : (second : Bool) → second ≡ true → flaw_after second s ≡ Some 0
  unfolding flaw_after checked kind_of rows_of
  flaw_second second is = ap (λ (b : Bool). checked b kind_of (is_one_long s.fields.length s.records)) is

  pub flaw_kind : (second : Bool) → second ≡ false → (is_dynamic s.fields.kind || is_skipped s.fields.kind) ≡ true → flaw_after second s ≡ Some 0
  unfolding flaw_after checked kind_of rows_of
  flaw_kind second first is =
      ap (λ (b : Bool). checked b kind_of (is_one_long s.fields.length s.records)) first ∙ ap (λ (b : Bool). checked false b (is_one_long s.fields.length s.records)) is

  pub flaw_body : (second : Bool) → second ≡ false → (is_dynamic s.fields.kind || is_skipped s.fields.kind) ≡ false → is_one_long s.fields.length s.records ≡ false → flaw_after second s ≡ Some 0
  unfolding flaw_after checked kind_of rows_of
  flaw_body second first kind body =
      ap (λ (b : Bool). checked b kind_of (is_one_long s.fields.length s.records)) first ∙ ap (λ (b : Bool). checked false b (is_one_long s.fields.length s.records)) kind
      ∙ ap (λ (b : Bool). checked false false b) body

  pub flaw_rows : (second : Bool) (bytes : List ℕ) → second ≡ false → (is_dynamic s.fields.kind || is_skipped s.fields.kind) ≡ false → is_one_long s.fields.length s.records ≡ true → segment_bytes s ≡ bytes
      → flaw_after second s ≡ flaw_in most_paths bytes
  unfolding flaw_after checked kind_of rows_of
  flaw_rows second bytes first kind body is =
      ap (λ (b : Bool). checked b kind_of (is_one_long s.fields.length s.records)) first ∙ ap (λ (b : Bool). checked false b (is_one_long s.fields.length s.records)) kind
      ∙ ap (λ (b : Bool). checked false false b) body ∙ ap (flaw_in most_paths) is

-- where nothing is wrong with a pathname segment, no other one is before it
first_none : (second : Bool) (s : Segment) → flaw_after second s ≡ None → second ≡ false
unfolding flaw_after
first_none true s e = absurd cc
first_none false s e = refl

some_fault : (number : ℕ) (o : Option ℕ) → option_map (λ at. in_segment number (BadTable, at)) o ≡ None → o ≡ None
some_fault number None e = refl
some_fault number (Some at) e = absurd cc

pub first_passed : (second : Bool) (number : ℕ) (s : Segment) → fault_after second number s ≡ None → has_pathnames s ≡ true → second ≡ false
unfolding fault_after
first_passed second number s e is =
    first_none second s (some_fault number (flaw_after second s) (sym (ap (λ (b : Bool). if b then option_map (λ at. in_segment number (BadTable, at)) (flaw_after second s) else None) is) ∙ e))

-- ---- the phase

flaw_same : (segments : List Segment) (number : ℕ) (s : Segment) → pathnames_flaw segments number s ≡ flaw_after (is_second segments number) s
unfolding pathnames_flaw flaw_after flaw_in
flaw_same segments number s = refl

both_maps : (number : ℕ) (b : Bool) (o : Option ℕ)
    → option_map (in_segment number) (if b then option_map (λ (at : ℕ). (BadTable, at)) o else None) ≡ (if b then option_map (λ at. in_segment number (BadTable, at)) o else None)
both_maps number true None = refl
both_maps number true (Some at) = refl
both_maps number false o = refl

pub phase_after : (segments : List Segment) (number : ℕ) (s : Segment) (second : Bool) → second ≡ is_second segments number
    → fault_after second number s ≡ option_map (in_segment number) (pathnames_fault segments number s)
unfolding fault_after
phase_after segments number s second is =
    ap (λ (b : Bool). fault_after b number s) is
    ∙ ap (λ (o : Option ℕ). if has_pathnames s then option_map (λ at. in_segment number (BadTable, at)) o else None) (sym (flaw_same segments number s))
    ∙ sym (both_maps number (has_pathnames s) (pathnames_flaw segments number s))

-- ---- the paths of a file

pub paths_none : paths_of [] ≡ []
unfolding paths_of
paths_none = refl

segment_is : (s t : Segment) → Some s ≡ Some t → s ≡ t
segment_is s t e = cc

neither : (a b : Bool) → (a || b) ≡ false → (a ≡ false) × (b ≡ false)
neither true b e = absurd cc
neither false b e = (refl, e)

-- one segment more
pub paths_more : (segments : List Segment) (i : ℕ) (s : Segment) → slice_get segments i ≡ Some s → (has_pathnames s ≡ true → list_any has_pathnames (take i segments) ≡ false)
    → paths_of (take (i + 1) segments) ≡ paths_then s (paths_of (take i segments))
unfolding paths_of paths_then rows_in
paths_more [] i s e first = absurd cc
paths_more (t ∷ segments) zero s e first = ap (λ (u : Segment). paths_of (u ∷ [])) (segment_is t s e)
paths_more (t ∷ segments) (suc i) s e first = ap (λ (n : ℕ). paths_of (take n (t ∷ segments))) step ∙ by_first (λ others. paths_more segments i s e others) (has_pathnames t) refl
  where
    step : suc i + 1 ≡ suc (i + 1)
    step = omega arith

    rows : List (List ℕ)
    rows = rows_in most_paths (segment_bytes t)

    by_first : ((has_pathnames s ≡ true → list_any has_pathnames (take i segments) ≡ false) → paths_of (take (i + 1) segments) ≡ paths_then s (paths_of (take i segments)))
        → (b : Bool) → has_pathnames t ≡ b → paths_of (t ∷ take (i + 1) segments) ≡ paths_then s (paths_of (t ∷ take i segments))
    by_first more true is = by_last (has_pathnames s) refl
      where
        by_last : (b : Bool) → has_pathnames s ≡ b → paths_of (t ∷ take (i + 1) segments) ≡ paths_then s (paths_of (t ∷ take i segments))
        by_last true other = let clash : true ≡ false = sym is ∙ (neither (has_pathnames t) (list_any has_pathnames (take i segments)) (first other)).0 in absurd cc
        by_last false other =
            ap (λ (b : Bool). if b then rows else paths_of (take (i + 1) segments)) is
            ∙ sym (ap (λ (b : Bool). if b then rows_in most_paths (segment_bytes s) else paths_of (t ∷ take i segments)) other ∙ ap (λ (b : Bool). if b then rows else paths_of (take i segments)) is)
    by_first more false is =
        ap (λ (b : Bool). if b then rows else paths_of (take (i + 1) segments)) is
        ∙ more (λ last. (neither (has_pathnames t) (list_any has_pathnames (take i segments)) (first last)).1)
        ∙ sym (ap (λ (b : Bool). paths_then s (if b then rows else paths_of (take i segments))) is)

-- all segments
pub paths_all : (segments : List Segment) (i : ℕ) → length segments ≤ i → paths_of (take i segments) ≡ paths_of segments
paths_all segments i le = ap paths_of (whole segments i le)
  where
    whole : (l : List Segment) (n : ℕ) → length l ≤ n → take n l ≡ l
    whole [] zero h = refl
    whole [] (suc n) h = refl
    whole (x ∷ l) zero h = absurd (omega (arith, h))
    whole (x ∷ l) (suc n) h = ap (λ (r : List Segment). x ∷ r) (whole l n (omega (arith, h)))
