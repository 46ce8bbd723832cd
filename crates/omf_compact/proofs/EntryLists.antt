-- The ENTRY records of a load file, segment by segment.
use Rattle.std.proofs.Common.{◌≡◌, ℕ, zero, suc, ◌+◌, ◌-◌, ◌<◌, ◌≤◌, List, [], ◌∷◌, ◌++◌, length, map, drop, Option, Some, None, refl, sym, ap, subst, ◌∙◌, append_assoc, arith}
use Rattle.std.specs.Prelude.{slice_get}
use Rattle.std.specs.List.{flat_map, filter, AllByRecursion}
use Rattle.std.proofs.lemmas.List.{append-nil}
use Rattle.std.proofs.lemmas.List.Concat.{flat_map-cons}
use Rattle.omf_format.specs.Field.{written_layout}
use Rattle.omf_format.specs.Record.{Record, End, Const, LongConst, Align, Org, Space, Reloc, InterSeg, ShortReloc, ShortInterSeg, Super, Using, Strong, Label, Equate, Formula, Entry, IsRecord, spelling}
use Rattle.omf_format.specs.File.{Segment, segment_at}
use Rattle.load_meaning.specs.Exports.{Export, exports_of_record, exports_from, exports_of}
use Rattle.omf_compact.specs.Canonical.{is_entry}
use Rattle.omf_compact.specs.laws.Writing.{IsKnown, entry_of, entries_text, AtExports}
use Rattle.omf_compact.specs.laws.HeldLaws.{entries-are}
use Rattle.omf_compact.proofs.KnownLaws.{known_read}
use Rattle.omf_format.specs.Field.{layout_of}

-- ---- lists

drop_next : {A : Type 0} (xs : List A) (i : ℕ) (x : A) → slice_get xs i ≡ Some x → drop i xs ≡ x ∷ drop (i + 1) xs
drop_next [] i x e = absurd cc
drop_next {A} (y ∷ xs) zero x e = let same : y ≡ x = cc in ap (λ (z : A). z ∷ xs) same
drop_next (y ∷ xs) (suc i) x e = let step : suc i + 1 ≡ suc (i + 1) = omega arith in rw step (drop_next xs i x e)

-- ---- exports and their records

-- what the records of the segment with this number export
abbrev pub exports_in : ℕ → List (ℕ × Record) → List Export
exports_in number founds = flat_map (λ found. exports_of_record number found.1) founds

-- the records of exports
abbrev pub records_for : List Export → List Record
records_for es = map entry_of es

one_more : (number : ℕ) (found : ℕ × Record) (founds : List (ℕ × Record)) → exports_in number (found ∷ founds) ≡ exports_of_record number found.1 ++ exports_in number founds
one_more number found founds = flat_map-cons (λ (f : ℕ × Record). exports_of_record number f.1) found founds

entries-records : (number : ℕ) (founds : List (ℕ × Record)) → records_for (exports_in number founds) ≡ filter is_entry (map (λ (found : ℕ × Record). found.1) founds)
entries-records number [] = refl
entries-records number (found ∷ founds) = ap records_for (one_more number found founds) ∙ by_record found.1 (entries-records number founds)
  where
    by_record : (r : Record) → records_for (exports_in number founds) ≡ filter is_entry (map (λ (of : ℕ × Record). of.1) founds)
        → records_for (exports_of_record number r ++ exports_in number founds) ≡ filter is_entry (r ∷ map (λ (of : ℕ × Record). of.1) founds)
    by_record (Entry segment offset name) rest = ap (λ (l : List Record). Entry segment offset name ∷ l) rest
    by_record End rest = rest
    by_record (Const bytes) rest = rest
    by_record (LongConst bytes) rest = rest
    by_record (Align n) rest = rest
    by_record (Org n) rest = rest
    by_record (Space n) rest = rest
    by_record (Reloc count shift location offset) rest = rest
    by_record (InterSeg count shift location file segment offset) rest = rest
    by_record (ShortReloc count shift location offset) rest = rest
    by_record (ShortInterSeg count shift location segment offset) rest = rest
    by_record (Super form bytes) rest = rest
    by_record (Using name) rest = rest
    by_record (Strong name) rest = rest
    by_record (Label global name size form private) rest = rest
    by_record (Equate global name size form private expr) rest = rest
    by_record (Formula code count n expr) rest = rest

held-by : (number : ℕ) (r : Record) → AllByRecursion (λ e. e.holder ≡ number) (exports_of_record number r)
held-by number (Entry segment offset name) = (refl, tt)
held-by number End = tt
held-by number (Const bytes) = tt
held-by number (LongConst bytes) = tt
held-by number (Align n) = tt
held-by number (Org n) = tt
held-by number (Space n) = tt
held-by number (Reloc count shift location offset) = tt
held-by number (InterSeg count shift location file segment offset) = tt
held-by number (ShortReloc count shift location offset) = tt
held-by number (ShortInterSeg count shift location segment offset) = tt
held-by number (Super form bytes) = tt
held-by number (Using name) = tt
held-by number (Strong name) = tt
held-by number (Label global name size form private) = tt
held-by number (Equate global name size form private expr) = tt
held-by number (Formula code count n expr) = tt

both-held : (P : Export → Type 0) (xs ys : List Export) → AllByRecursion P xs → AllByRecursion P ys → AllByRecursion P (xs ++ ys)
both-held P [] ys a b = b
both-held P (x ∷ xs) ys a b = (a.0, both-held P xs ys a.1 b)

all-held : (number : ℕ) (founds : List (ℕ × Record)) → AllByRecursion (λ e. e.holder ≡ number) (exports_in number founds)
all-held number [] = tt
all-held number (found ∷ founds) =
    subst (AllByRecursion (λ e. e.holder ≡ number)) (sym (one_more number found founds))
    (both-held (λ e. e.holder ≡ number) (exports_of_record number found.1) (exports_in number founds) (held-by number found.1) (all-held number founds))

weaker : (P Q : Export → Type 0) (es : List Export) → ((e : Export) → P e → Q e) → AllByRecursion P es → AllByRecursion Q es
weaker P Q [] f all = tt
weaker P Q (e ∷ es) f all = (f e all.0, weaker P Q es f all.1)

later-held : (number : ℕ) (segments : List Segment) → AllByRecursion (λ e. number ≤ e.holder) (exports_from number segments)
later-held number [] = tt
later-held number (s ∷ segments) =
    both-held (λ e. number ≤ e.holder) (exports_in number s.records) (exports_from (number + 1) segments)
    (weaker (λ e. e.holder ≡ number) (λ e. number ≤ e.holder) (exports_in number s.records) (λ e is. omega (arith, is)) (all-held number s.records))
    (weaker (λ e. number + 1 ≤ e.holder) (λ e. number ≤ e.holder) (exports_from (number + 1) segments) (λ e is. omega (arith, is)) (later-held (number + 1) segments))

-- ---- going over them

-- the exports from a place on are some of the segment's, which are still to be written, and those of the segments after it
pub record Left (segments : List Segment) (number : ℕ) (s : Segment) (place : ℕ) (old out : List ℕ) : Type 0 where
  pub rest : List Export
  pub are : drop place (exports_of segments) ≡ rest ++ exports_from (number + 1) (drop number segments)
  pub held : AllByRecursion (λ e. e.holder ≡ number) rest
  pub spelled : AllByRecursion (IsRecord written_layout) (records_for rest)
  pub whole : out ++ flat_map (spelling written_layout) (records_for rest) ≡ old ++ entries_text s

pub left_first : (segments : List Segment) (number : ℕ) (s : Segment) (place : ℕ) (old : List ℕ) → IsKnown segments → segment_at segments number ≡ Some s → AtExports segments number place → Left segments number s place old old
unfolding entries_text
left_first segments zero s place old known at from = absurd cc
left_first segments (suc k) s place old known at from =
    let read = known_read segments (suc k) s known at in
    let entries = entries-are (layout_of s.fields.version s.fields.lab_len) s.records read.fields.lab_len read.records' in
    let less : suc k - 1 ≡ k = omega arith in
    let step : k + 1 ≡ suc k = omega arith in
    record {
      rest = exports_in (suc k) s.records;
      are =
          from ∙ ap (λ (n : ℕ). exports_from (suc k) (drop n segments)) less ∙ ap (exports_from (suc k)) (drop_next segments k s at)
          ∙ ap (λ (n : ℕ). exports_in (suc k) s.records ++ exports_from (suc k + 1) (drop n segments)) step;
      held = all-held (suc k) s.records;
      spelled = subst (AllByRecursion (IsRecord written_layout)) (sym (entries-records (suc k) s.records)) entries.1;
      whole = ap (λ (l : List Record). old ++ flat_map (spelling written_layout) l) (entries-records (suc k) s.records);
    }

abbrev some_export : Export → Option Export
some_export e = Some e

-- the next one is the segment's
pub left_more : (segments : List Segment) (number : ℕ) (s : Segment) (place : ℕ) (old out new : List ℕ) (e : Export) → Left segments number s place old out → slice_get (exports_of segments) place ≡ Some e → e.holder ≡ number
    → new ≡ out ++ spelling written_layout (entry_of e) → Left segments number s (place + 1) old new
left_more segments number s place old out new e left at is put = by_rest left.rest left.are left.held left.spelled left.whole
  where
    following : List Export
    following = exports_from (number + 1) (drop number segments)

    next : drop place (exports_of segments) ≡ e ∷ drop (place + 1) (exports_of segments)
    next = drop_next (exports_of segments) place e at

    none_after : (l : List Export) → AllByRecursion (λ x. number + 1 ≤ x.holder) l → l ≡ e ∷ drop (place + 1) (exports_of segments) → ⊥
    none_after [] all same = cc
    none_after (x ∷ l) all same = let one : x.holder ≡ e.holder = ap (λ (y : Export). y.holder) (head_is x e l (drop (place + 1) (exports_of segments)) same) in omega (arith, all.0, one, is)
      where
        head_is : (x y : Export) (xs ys : List Export) → x ∷ xs ≡ y ∷ ys → x ≡ y
        head_is x y xs ys same = cc

    tail_is : (x y : Export) (xs ys : List Export) → x ∷ xs ≡ y ∷ ys → (x ≡ y) × (xs ≡ ys)
    tail_is x y xs ys same = (cc, cc)

    by_rest : (rest : List Export) → drop place (exports_of segments) ≡ rest ++ following → AllByRecursion (λ x. x.holder ≡ number) rest → AllByRecursion (IsRecord written_layout) (records_for rest)
        → out ++ flat_map (spelling written_layout) (records_for rest) ≡ old ++ entries_text s → Left segments number s (place + 1) old new
    by_rest [] are held spelled whole = absurd (none_after following (later-held (number + 1) (drop number segments)) (sym are ∙ next))
    by_rest (x ∷ rest) are held spelled whole =
        let both = tail_is x e (rest ++ following) (drop (place + 1) (exports_of segments)) (sym are ∙ next) in
        record {
          rest = rest;
          are = sym both.1;
          held = held.1;
          spelled = spelled.1;
          whole =
              ap (λ (l : List ℕ). l ++ flat_map (spelling written_layout) (records_for rest)) (put ∙ ap (λ (y : Export). out ++ spelling written_layout (entry_of y)) (sym both.0))
              ∙ append_assoc out (spelling written_layout (entry_of x)) (flat_map (spelling written_layout) (records_for rest))
              ∙ ap (λ (l : List ℕ). out ++ l) (sym (flat_map-cons (spelling written_layout) (entry_of x) (records_for rest))) ∙ whole;
        }

-- it can be written
pub left_spelled : (segments : List Segment) (number : ℕ) (s : Segment) (place : ℕ) (old out : List ℕ) (e : Export) → Left segments number s place old out → slice_get (exports_of segments) place ≡ Some e → e.holder ≡ number
    → IsRecord written_layout (entry_of e)
left_spelled segments number s place old out e left at is = by_rest left.rest left.are left.spelled
  where
    following : List Export
    following = exports_from (number + 1) (drop number segments)

    next : drop place (exports_of segments) ≡ e ∷ drop (place + 1) (exports_of segments)
    next = drop_next (exports_of segments) place e at

    head_is : (x y : Export) (xs ys : List Export) → x ∷ xs ≡ y ∷ ys → x ≡ y
    head_is x y xs ys same = cc

    none_after : (l : List Export) → AllByRecursion (λ x. number + 1 ≤ x.holder) l → l ≡ e ∷ drop (place + 1) (exports_of segments) → ⊥
    none_after [] all same = cc
    none_after (x ∷ l) all same = let one : x.holder ≡ e.holder = ap (λ (y : Export). y.holder) (head_is x e l (drop (place + 1) (exports_of segments)) same) in omega (arith, all.0, one, is)

    by_rest : (rest : List Export) → drop place (exports_of segments) ≡ rest ++ following → AllByRecursion (IsRecord written_layout) (records_for rest) → IsRecord written_layout (entry_of e)
    by_rest [] are spelled = absurd (none_after following (later-held (number + 1) (drop number segments)) (sym are ∙ next))
    by_rest (x ∷ rest) are spelled = subst (λ (y : Export). IsRecord written_layout (entry_of y)) (head_is x e (rest ++ following) (drop (place + 1) (exports_of segments)) (sym are ∙ next)) spelled.0

-- none of the segment's is left
pub left_none : (segments : List Segment) (number : ℕ) (s : Segment) (place : ℕ) (old out : List ℕ) → Left segments number s place old out
    → ((e : Export) → slice_get (exports_of segments) place ≡ Some e → e.holder ≡ number → ⊥) → (out ≡ old ++ entries_text s) × AtExports segments (number + 1) place
left_none segments number s place old out left other = by_rest left.rest left.are left.held left.whole
  where
    following : List Export
    following = exports_from (number + 1) (drop number segments)

    step : number ≡ number + 1 - 1
    step = omega arith

    get_first : (l : List Export) (i : ℕ) (x : Export) (rest : List Export) → drop i l ≡ x ∷ rest → slice_get l i ≡ Some x
    get_first [] zero x rest e = absurd cc
    get_first [] (suc i) x rest e = absurd cc
    get_first (y ∷ l) zero x rest e = let same : y ≡ x = cc in ap (λ (z : Export). some_export z) same
    get_first (y ∷ l) (suc i) x rest e = get_first l i x rest e

    by_rest : (rest : List Export) → drop place (exports_of segments) ≡ rest ++ following → AllByRecursion (λ x. x.holder ≡ number) rest
        → out ++ flat_map (spelling written_layout) (records_for rest) ≡ old ++ entries_text s → (out ≡ old ++ entries_text s) × AtExports segments (number + 1) place
    by_rest [] are held whole = (sym (append-nil out) ∙ whole, are ∙ ap (λ (n : ℕ). exports_from (number + 1) (drop n segments)) step)
    by_rest (x ∷ rest) are held whole = absurd (other x (get_first (exports_of segments) place x (rest ++ following) are) held.0)

-- ---- the export at a place

pub not_none : (es : List Export) (i : ℕ) → slice_get es i ≡ None → i < length es → ⊥
not_none [] i e lt = omega (arith, lt)
not_none (x ∷ es) zero e lt = cc
not_none (x ∷ es) (suc i) e lt = not_none es i e (omega (arith, lt))

pub some_within : (es : List Export) (i : ℕ) (e : Export) → slice_get es i ≡ Some e → i < length es
some_within [] i e is = absurd cc
some_within (x ∷ es) zero e is = omega arith
some_within (x ∷ es) (suc i) e is = let rest = some_within es i e is in omega (arith, rest)

pub other_holder : (o : Option Export) (x e : Export) (number : ℕ) → o ≡ Some x → o ≡ Some e → (x.holder ≡ number → ⊥) → e.holder ≡ number → ⊥
other_holder o x e number is there not same = not (ap (λ (y : Export). y.holder) (one x e (sym is ∙ there)) ∙ same)
  where
    one : (a b : Export) → Some a ≡ Some b → a ≡ b
    one a b q = cc
