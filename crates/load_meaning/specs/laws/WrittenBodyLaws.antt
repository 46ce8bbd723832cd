-- Read back as the body of a load segment, a written body represents the content with the patches over it.
use Rattle.std.proofs.Common.{◌≡◌, ℕ, zero, suc, ◌+◌, ◌-◌, ◌^◌, ◌<◌, ◌≤◌, Bool, true, false, leb, List, [], ◌∷◌, ◌++◌, length, map, replicate, Option, Some, None, refl, sym, ap, subst, ◌∙◌, arith, inl, inr}
use Rattle.std.specs.Prelude.{◌⊎◌, ◌&&◌, ◌||◌, slice_get, option_map}
use Rattle.std.specs.List.{flat_map, filter, AllByRecursion}
use Rattle.std.proofs.lemmas.Bool.{cases_Bool, cases_eq, and_from, eqb-true, eq-eqb, le-leb}
use Rattle.std.proofs.lemmas.List.{append-nil, length-take, length-map, map-append}
use Rattle.std.proofs.lemmas.List.Concat.{flat_map-cons}
use Rattle.std.proofs.lemmas.Grind.{flat_map-append}
use Rattle.std.proofs.lemmas.Option.{slice_get-map}
use Rattle.omf_format.specs.Field.{written_layout, length_width_of}
use Rattle.omf_format.specs.Record.{Record, End, LongConst, Super, spelling, IsRecord, content_of}
use Rattle.omf_format.specs.Super.{is_super, HavePages, locations_left}
use Rattle.omf_format.specs.laws.SuperLaws.{locations_are}
use Rattle.omf_format.specs.Reading.{Reader, HandsOut, is_end}
use Rattle.omf_format.specs.File.{Segment, body_reader}
use Rattle.omf_format.specs.laws.FileLaws.{HandsOut-same}
use Rattle.omf_format.specs.Body.{body_bytes}
use Rattle.load_meaning.specs.laws.ExportLaws.{exports_content, exports_patches}
use Rattle.load_meaning.specs.WrittenFile.{IsExport}
use Rattle.load_meaning.specs.Cells.{Byte, Patch, segment_bytes, patched_cells, super_patch, patches_in, patches_of, cells}
use Rattle.load_meaning.specs.WrittenPages.{pages_of, pages_text, Rise}
use Rattle.load_meaning.specs.WrittenBody.{IsWrittenPatch, AreWritten, is_own, is_short, super_form, lone_record, with_stored, zeros_after, written_cells, written_data, data_records, of_form, super_records, supers_from, body_records, body_text, HasBody}
use Rattle.load_meaning.specs.laws.Steps.{is_form, has_none, patches_stored_alone}
use Rattle.load_meaning.specs.laws.PageLaws.{read_again}
use Rattle.load_meaning.specs.laws.LayingLaws.{Has, Missed, same_laid}
use Rattle.load_meaning.specs.laws.FormLaws.{IsForm, Own2, Own3, Other3, Named, NamedBank, form_is, Holds, super_gives, lone_gives, lone_fits, lone_content}
use Rattle.load_meaning.specs.laws.StoredLaws.{written_is, written_apart, parts, patched-laid, fit-cells, holds, restored, length-data, data-missed}
use Rattle.load_meaning.specs.laws.PageSizeLaws.{Under, text_short}
use Rattle.object_meaning.specs.laws.RunLaws.{IsBodyRecord, reader_at, text, placed, runs, flat-placed}

-- ---- members

has-append : (xs ys : List Patch) (p : Patch) → Has xs p ⊎ Has ys p → Has (xs ++ ys) p
has-append [] ys p (inl h) = absurd h
has-append [] ys p (inr h) = h
has-append (x ∷ xs) ys p (inl (inl same)) = inl same
has-append (x ∷ xs) ys p (inl (inr more)) = inr (has-append xs ys p (inl more))
has-append (x ∷ xs) ys p (inr h) = inr (has-append xs ys p (inr h))

has-parts : (xs ys : List Patch) (p : Patch) → Has (xs ++ ys) p → Has xs p ⊎ Has ys p
has-parts [] ys p h = inr h
has-parts (x ∷ xs) ys p (inl same) = inl (inl same)
has-parts (x ∷ xs) ys p (inr more) = elim (has-parts xs ys p more) [
  | inl h ↦ inl (inr h)
  | inr h ↦ inr h
]

has-filter : (test : Patch → Bool) (xs : List Patch) (p : Patch) → Has xs p → test p ≡ true → Has (filter test xs) p
has-filter test [] p h e = absurd h
has-filter test (x ∷ xs) p h e = elim (cases_Bool (test x)) [
  | inl pass ↦ rw pass (elim h [
    | inl same ↦ inl same
    | inr more ↦ inr (has-filter test xs p more e)
  ])
  | inr fails ↦ rw fails (elim h [
    | inl same ↦ absurd (clash fails (ap test (sym same) ∙ e))
    | inr more ↦ has-filter test xs p more e
  ])
]
  where
    clash : {b : Bool} → b ≡ false → b ≡ true → ⊥
    clash a b = cc

has-unfilter : (test : Patch → Bool) (xs : List Patch) (p : Patch) → Has (filter test xs) p → Has xs p × (test p ≡ true)
has-unfilter test [] p h = absurd h
has-unfilter test (x ∷ xs) p h = elim (cases_Bool (test x)) [
  | inl pass ↦ by_head pass (rw pass at h) (has-unfilter test xs p)
  | inr fails ↦ let more = has-unfilter test xs p (rw fails at h) in (inr more.0, more.1)
]
  where
    by_head : test x ≡ true → (p ≡ x) ⊎ Has (filter test xs) p → (Has (filter test xs) p → Has xs p × (test p ≡ true)) → Has (x ∷ xs) p × (test p ≡ true)
    by_head pass (inl same) again = (inl same, ap test same ∙ pass)
    by_head pass (inr more) again = let m = again more in (inr m.0, m.1)

-- ---- the patches of a type

some_form : (form : ℕ) (o : Option ℕ) → is_form form o ≡ true → o ≡ Some form
some_form form None e = absurd cc
some_form form (Some other) e = ap (λ (n : ℕ). some n) (eqb-true other form e)
  where
    some : ℕ → Option ℕ
    some n = Some n

form_of_some : (form : ℕ) (o : Option ℕ) → o ≡ Some form → is_form form o ≡ true
form_of_some form o e = ap (is_form form) e ∙ eq-eqb form form refl

two_bytes : (own : ℕ) (p : Patch) (form : ℕ) → IsForm own p form → 2 ≤ p.count
two_bytes own p form (Own2 is h f) = omega (arith, h.count')
two_bytes own p form (Own3 is h f) = omega (arith, h.count')
two_bytes own p form (Other3 is h f) = omega (arith, h.count')
two_bytes own p form (Named is h f) = omega (arith, h.count')
two_bytes own p form (NamedBank is h f) = omega (arith, h.count')

pub form_below : (own : ℕ) (p : Patch) (form : ℕ) → IsForm own p form → form < 38
form_below own p form (Own2 is h f) = omega (arith, f)
form_below own p form (Own3 is h f) = omega (arith, f)
form_below own p form (Other3 is h f) = omega (arith, f)
form_below own p form (Named is h f) = omega (arith, f, is)
form_below own p form (NamedBank is h f) = omega (arith, f, is)

or_second : (x y : Bool) → y ≡ true → (x || y) ≡ true
or_second true y e = refl
or_second false y e = e

high : (form : ℕ) → 14 ≤ form → form ≤ 37 → is_super form ≡ true
high form low up = or_second (leb form 2) (leb 14 form && leb form 37) (and_from (leb 14 form) (leb form 37) (le-leb 14 form low) (le-leb form 37 up))

is_read : (own : ℕ) (p : Patch) (form : ℕ) → IsForm own p form → is_super form ≡ true
is_read own p form (Own2 is h f) = subst (λ (n : ℕ). is_super n ≡ true) f refl
is_read own p form (Own3 is h f) = subst (λ (n : ℕ). is_super n ≡ true) f refl
is_read own p form (Other3 is h f) = subst (λ (n : ℕ). is_super n ≡ true) f refl
is_read own p form (Named is h f) = high form (omega (arith, f, is)) (omega (arith, f, is))
is_read own p form (NamedBank is h f) = high form (omega (arith, f, is)) (omega (arith, f, is))

abbrev pub places : List Patch → List ℕ
places patches = map (λ (q : Patch). q.location) patches

rise_lower : (low at : ℕ) (locations : List ℕ) → low ≤ at → Rise at locations → Rise low locations
rise_lower low at [] le rise = tt
rise_lower low at (next ∷ more) le rise = (omega (arith, rise.0), rise.1)

pub rise_form : (own size low : ℕ) (patches : List Patch) (form : ℕ) → AreWritten size low patches → Rise low (places (of_form own patches form))
rise_form own size low [] form are = tt
rise_form own size low (q ∷ patches) form are =
    let rest = rise_form own size (q.location + q.count) patches form are.2 in
    elim (cases_Bool (is_form form (super_form own q))) [
      | inl is ↦
          let two = two_bytes own q form (form_is own q form (some_form form (super_form own q) is)) in
          rw is (are.1, rise_lower (q.location + 2) (q.location + q.count) (places (of_form own patches form)) (omega (arith, two)) rest)
      | inr other ↦ rw other (rise_lower low (q.location + q.count) (places (of_form own patches form)) (omega (arith, are.1)) rest)
    ]

pub under_form : (own size low : ℕ) (patches : List Patch) (form : ℕ) → AreWritten size low patches → Under size (places (of_form own patches form))
under_form own size low [] form are = tt
under_form own size low (q ∷ patches) form are =
    let rest = under_form own size (q.location + q.count) patches form are.2 in
    elim (cases_Bool (is_form form (super_form own q))) [
      | inl is ↦
          let two = two_bytes own q form (form_is own q form (some_form form (super_form own q) is)) in
          rw is (omega (arith, two, are.0.inside), rest)
      | inr other ↦ rw other rest
    ]

-- ---- each record has a spelling

have_pages : (low : ℕ) (locations : List ℕ) → Rise low locations → HavePages (pages_text locations)
unfolding pages_text
have_pages low locations rise = record { pages = pages_of locations; each = (read_again low locations rise).0; text = refl }

pub super_fits : (own size : ℕ) (patches : List Patch) (form : ℕ) → size ≤ 0xFFFFFF → AreWritten size 0 patches → AllByRecursion IsBodyRecord (super_records form (of_form own patches form))
super_fits own size patches form small are =
    by_list (of_form own patches form) (rise_form own size 0 patches form are) (under_form own size 0 patches form are) (λ p h. some_form form (super_form own p) (has-unfilter (λ q. is_form form (super_form own q)) patches p h).1)
  where
    by_list : (l : List Patch) → Rise 0 (places l) → Under size (places l) → ((p : Patch) → Has l p → super_form own p ≡ Some form) → AllByRecursion IsBodyRecord (super_records form l)
    by_list [] rise under each = tt
    by_list (p ∷ l) rise under each =
        let short = text_short size 0 (places (p ∷ l)) (omega arith) rise under in
        (((is_read own p form (form_is own p form (each p (inl refl))), omega (arith, short, small), have_pages 0 (places (p ∷ l)) rise), refl), tt)

-- the record of a type that has some
pub super_record_fits : (own size : ℕ) (patches : List Patch) (form : ℕ) → size ≤ 0xFFFFFF → AreWritten size 0 patches → 1 ≤ length (of_form own patches form)
    → IsRecord written_layout (Super form (pages_text (places (of_form own patches form))))
super_record_fits own size patches form small are some = by_list (of_form own patches form) some (super_fits own size patches form small are)
  where
    by_list : (l : List Patch) → 1 ≤ length l → AllByRecursion IsBodyRecord (super_records form l) → IsRecord written_layout (Super form (pages_text (places l)))
    by_list [] some all = absurd (omega arith)
    by_list (p ∷ l) some all = all.0.0

all-append : {X : Type 0} (P : X → Type 0) (xs ys : List X) → AllByRecursion P xs → AllByRecursion P ys → AllByRecursion P (xs ++ ys)
all-append P [] ys p q = q
all-append P (x ∷ xs) ys p q = (p.0, all-append P xs ys p.1 q)

supers_fit : (own size : ℕ) (patches : List Patch) (form n : ℕ) → size ≤ 0xFFFFFF → AreWritten size 0 patches → AllByRecursion IsBodyRecord (supers_from own patches form n)
supers_fit own size patches form zero small are = tt
supers_fit own size patches form (suc n) small are =
    all-append IsBodyRecord (super_records form (of_form own patches form)) (supers_from own patches (form + 1) n) (super_fits own size patches form small are) (supers_fit own size patches (form + 1) n small are)

lone_not_end : (own : ℕ) (p : Patch) → is_end (lone_record own p) ≡ false
unfolding lone_record
lone_not_end own p = elim (cases_Bool (is_own own p)) [
  | inl own' ↦ elim (cases_Bool (is_short p)) [
    | inl short ↦ rw (own', short) refl
    | inr long ↦ rw (own', long) refl
  ]
  | inr other ↦ elim (cases_Bool (leb p.segment 255 && is_short p)) [
    | inl short ↦ rw (other, short) refl
    | inr long ↦ rw (other, long) refl
  ]
]

lones_fit : (own size : ℕ) (l : List Patch) → size < 2 ^ 32 → ((p : Patch) → Has l p → IsWrittenPatch size p) → AllByRecursion IsBodyRecord (map (lone_record own) l)
lones_fit own size [] small each = tt
lones_fit own size (p ∷ l) small each =
    ((lone_fits own size p small (each p (inl refl)), lone_not_end own p), lones_fit own size l small (λ q h. each q (inr h)))

data_fits : (bytes : List ℕ) → length bytes < 2 ^ 32 → AllByRecursion IsBodyRecord (data_records bytes)
data_fits [] short = tt
data_fits (byte ∷ bytes) short = ((short, refl), tt)

pub length-written : (own : ℕ) (content : List ℕ) (patches : List Patch) → length (written_data own content patches) ≤ length content
unfolding written_data
length-written own content patches = omega (arith, length-take (length content - zeros_after (written_cells content patches)) (with_stored own content patches))

pub records_fit : (own : ℕ) (content : List ℕ) (patches : List Patch) → length content ≤ 0xFFFFFF → AreWritten (length content) 0 patches → AllByRecursion IsBodyRecord (body_records own content patches)
unfolding body_records
records_fit own content patches small are =
    all-append IsBodyRecord (data_records (written_data own content patches)) (map (lone_record own) (patches_stored_alone own patches) ++ supers_from own patches 0 38)
    (data_fits (written_data own content patches) (omega (arith, small, length-written own content patches)))
    (all-append IsBodyRecord (map (lone_record own) (patches_stored_alone own patches)) (supers_from own patches 0 38)
    (lones_fit own (length content) (patches_stored_alone own patches) (omega (arith, small)) (λ p h. (written_is (length content) 0 patches p are (has-unfilter (λ q. has_none (super_form own q)) patches p h).0).0))
    (supers_fit own (length content) patches 0 38 small are))

-- ---- the content of the records

pub data_content : (bytes : List ℕ) → flat_map content_of (data_records bytes) ≡ bytes
data_content [] = refl
data_content (byte ∷ bytes) = flat_map-cons content_of (LongConst (byte ∷ bytes)) [] ∙ append-nil (byte ∷ bytes)

lone_contents : (own : ℕ) (l : List Patch) → flat_map content_of (map (lone_record own) l) ≡ []
lone_contents own [] = refl
lone_contents own (p ∷ l) = flat_map-cons content_of (lone_record own p) (map (lone_record own) l) ∙ ap (λ (c : List ℕ). c ++ flat_map content_of (map (lone_record own) l)) (lone_content own p) ∙ lone_contents own l

super_content : (form : ℕ) (l : List Patch) → flat_map content_of (super_records form l) ≡ []
super_content form [] = refl
super_content form (p ∷ l) = flat_map-cons content_of (Super form (pages_text (places (p ∷ l)))) []

supers_content : (own : ℕ) (patches : List Patch) (form n : ℕ) → flat_map content_of (supers_from own patches form n) ≡ []
supers_content own patches form zero = refl
supers_content own patches form (suc n) =
    flat_map-append content_of (super_records form (of_form own patches form)) (supers_from own patches (form + 1) n)
    ∙ ap (λ (c : List ℕ). c ++ flat_map content_of (supers_from own patches (form + 1) n)) (super_content form (of_form own patches form))
    ∙ supers_content own patches (form + 1) n

records_content : (own : ℕ) (content : List ℕ) (patches : List Patch) → flat_map content_of (body_records own content patches) ≡ written_data own content patches
unfolding body_records
records_content own content patches =
    let lones = map (lone_record own) (patches_stored_alone own patches) in
    let supers = supers_from own patches 0 38 in
    flat_map-append content_of (data_records (written_data own content patches)) (lones ++ supers)
    ∙ ap (λ (c : List ℕ). flat_map content_of (data_records (written_data own content patches)) ++ c) (flat_map-append content_of lones supers ∙ ap (λ (c : List ℕ). c ++ flat_map content_of supers) (lone_contents own (patches_stored_alone own patches)) ∙ supers_content own patches 0 38)
    ∙ append-nil (flat_map content_of (data_records (written_data own content patches)))
    ∙ data_content (written_data own content patches)

-- ---- the patches of the records

-- each patch is read again from its SUPER
abbrev Again : Segment → ℕ → List Patch → Type 0
Again s form l = (p : Patch) → Has l p → super_patch s form p.location ≡ p

again_all : (s : Segment) (form : ℕ) (l : List Patch) → Again s form l → map (super_patch s form) (places l) ≡ l
again_all s form [] again = refl
again_all s form (p ∷ l) again =
    ap (λ (q : Patch). q ∷ map (super_patch s form) (places l)) (again p (inl refl)) ∙ ap (λ (m : List Patch). p ∷ m) (again_all s form l (λ q h. again q (inr h)))

read_places : (locations : List ℕ) → Rise 0 locations → locations_left 0 0 (pages_text locations) ≡ locations
unfolding pages_text
read_places locations rise = let both = read_again 0 locations rise in locations_are 0 (pages_of locations) both.0 ∙ both.1

super_patches : (s : Segment) (form : ℕ) (l : List Patch) → Rise 0 (places l) → Again s form l → flat_map (patches_in s) (super_records form l) ≡ l
super_patches s form [] rise again = refl
super_patches s form (p ∷ l) rise again =
    flat_map-cons (patches_in s) (Super form (pages_text (places (p ∷ l)))) []
    ∙ append-nil (map (super_patch s form) (locations_left 0 0 (pages_text (places (p ∷ l)))))
    ∙ ap (map (super_patch s form)) (read_places (places (p ∷ l)) rise)
    ∙ again_all s form (p ∷ l) again

-- the patches of n types from one on
abbrev pub by_forms : ℕ → List Patch → ℕ → ℕ → List Patch
by_forms own patches form zero = []
by_forms own patches form (suc n) = of_form own patches form ++ by_forms own patches (form + 1) n

-- what is known of the segment: its number, and that its data hold what the patches want
pub record Stands (own : ℕ) (patches : List Patch) (s : Segment) : Type 0 where
  pub number : s.fields.seg_num ≡ own
  pub written : AreWritten s.fields.length 0 patches
  pub data' : (p : Patch) → Has patches p → Holds own p (segment_bytes s)

supers_patches : (own : ℕ) (patches : List Patch) (s : Segment) (form n : ℕ) → Stands own patches s → flat_map (patches_in s) (supers_from own patches form n) ≡ by_forms own patches form n
supers_patches own patches s form zero st = refl
supers_patches own patches s form (suc n) st =
    flat_map-append (patches_in s) (super_records form (of_form own patches form)) (supers_from own patches (form + 1) n)
    ∙ ap (λ (l : List Patch). l ++ flat_map (patches_in s) (supers_from own patches (form + 1) n)) (super_patches s form (of_form own patches form) (rise_form own s.fields.length 0 patches form st.written) again)
    ∙ ap (λ (l : List Patch). of_form own patches form ++ l) (supers_patches own patches s (form + 1) n st)
  where
    again : Again s form (of_form own patches form)
    again p h =
        let is = has-unfilter (λ q. is_form form (super_form own q)) patches p h in
        super_gives s own p form st.number (written_is s.fields.length 0 patches p st.written is.0).0.file' (st.data' p is.0) (some_form form (super_form own p) is.1)

lone_patches : (own : ℕ) (s : Segment) (l : List Patch) → s.fields.seg_num ≡ own → ((p : Patch) → Has l p → p.file ≡ 1) → flat_map (patches_in s) (map (lone_record own) l) ≡ l
lone_patches own s [] number file = refl
lone_patches own s (p ∷ l) number file =
    flat_map-cons (patches_in s) (lone_record own p) (map (lone_record own) l)
    ∙ ap (λ (m : List Patch). m ++ flat_map (patches_in s) (map (lone_record own) l)) (lone_gives s own p number (file p (inl refl)))
    ∙ ap (λ (m : List Patch). p ∷ m) (lone_patches own s l number (λ q h. file q (inr h)))

pub data_patches : (s : Segment) (bytes : List ℕ) → flat_map (patches_in s) (data_records bytes) ≡ []
data_patches s [] = refl
data_patches s (byte ∷ bytes) = flat_map-cons (patches_in s) (LongConst (byte ∷ bytes)) []

records_patches : (own : ℕ) (content : List ℕ) (patches : List Patch) (s : Segment) → Stands own patches s
    → flat_map (patches_in s) (body_records own content patches) ≡ patches_stored_alone own patches ++ by_forms own patches 0 38
unfolding body_records
records_patches own content patches s st =
    let lones = map (lone_record own) (patches_stored_alone own patches) in
    let supers = supers_from own patches 0 38 in
    let file : (p : Patch) → Has (patches_stored_alone own patches) p → p.file ≡ 1 = λ p h. (written_is s.fields.length 0 patches p st.written (has-unfilter (λ q. has_none (super_form own q)) patches p h).0).0.file' in
    flat_map-append (patches_in s) (data_records (written_data own content patches)) (lones ++ supers)
    ∙ ap (λ (l : List Patch). l ++ flat_map (patches_in s) (lones ++ supers)) (data_patches s (written_data own content patches))
    ∙ flat_map-append (patches_in s) lones supers
    ∙ ap (λ (l : List Patch). l ++ flat_map (patches_in s) supers) (lone_patches own s (patches_stored_alone own patches) st.number file)
    ∙ ap (λ (l : List Patch). patches_stored_alone own patches ++ l) (supers_patches own patches s 0 38 st)

-- they are the same patches
in_forms : (own : ℕ) (patches : List Patch) (p : Patch) (of form n : ℕ) → Has patches p → super_form own p ≡ Some of → form ≤ of → of < form + n → Has (by_forms own patches form n) p
in_forms own patches p of form zero h e low up = absurd (omega arith)
in_forms own patches p of form (suc n) h e low up = elim (cases_eq of form) [
  | inl same ↦ has-append (of_form own patches form) (by_forms own patches (form + 1) n) p (inl (has-filter (λ q. is_form form (super_form own q)) patches p h (form_of_some form (super_form own p) (e ∙ ap (λ (m : ℕ). Some m) same))))
  | inr other ↦ has-append (of_form own patches form) (by_forms own patches (form + 1) n) p (inr (in_forms own patches p of (form + 1) n h e (omega (arith, low, other)) (omega (arith, up))))
]

from_forms : (own : ℕ) (patches : List Patch) (p : Patch) (form n : ℕ) → Has (by_forms own patches form n) p → Has patches p
from_forms own patches p form zero h = absurd h
from_forms own patches p form (suc n) h = elim (has-parts (of_form own patches form) (by_forms own patches (form + 1) n) p h) [
  | inl here ↦ (has-unfilter (λ q. is_form form (super_form own q)) patches p here).0
  | inr more ↦ from_forms own patches p (form + 1) n more
]

pub to_records : (own : ℕ) (patches : List Patch) (p : Patch) → Has patches p → Has (patches_stored_alone own patches ++ by_forms own patches 0 38) p
to_records own patches p h = by_option (super_form own p) refl
  where
    by_option : (o : Option ℕ) → super_form own p ≡ o → Has (patches_stored_alone own patches ++ by_forms own patches 0 38) p
    by_option None e = has-append (patches_stored_alone own patches) (by_forms own patches 0 38) p (inl (has-filter (λ q. has_none (super_form own q)) patches p h (ap has_none e)))
    by_option (Some form) e = has-append (patches_stored_alone own patches) (by_forms own patches 0 38) p (inr (in_forms own patches p form 0 38 h e (omega arith) (omega (arith, form_below own p form (form_is own p form e)))))

pub from_records : (own : ℕ) (patches : List Patch) (p : Patch) → Has (patches_stored_alone own patches ++ by_forms own patches 0 38) p → Has patches p
from_records own patches p h = elim (has-parts (patches_stored_alone own patches) (by_forms own patches 0 38) p h) [
  | inl here ↦ (has-unfilter (λ q. has_none (super_form own q)) patches p here).0
  | inr more ↦ from_forms own patches p 0 38 more
]

-- ---- the law

-- a segment that hands out these records, any ENTRY records after them, and END
abbrev pub HasRecords : ℕ → List ℕ → List Patch → Segment → Type 0
HasRecords own content patches s =
    (end : ℕ) × (exports : List Record) × AllByRecursion IsExport exports × (s.records ≡ placed end (body_records own content patches ++ exports))

pub without : {A : Type 0} (f : Record → List A) (rs exports : List Record) → flat_map f exports ≡ [] → flat_map f (rs ++ exports) ≡ flat_map f rs
without f rs exports none = flat_map-append f rs exports ∙ ap (λ l. flat_map f rs ++ l) none ∙ append-nil (flat_map f rs)

pub segment_has : (own : ℕ) (content : List ℕ) (patches : List Patch) (s : Segment) → s.fields.length ≡ length content → AreWritten (length content) 0 patches → HasRecords own content patches s
    → segment_bytes s ≡ with_stored own content patches
unfolding segment_bytes body_bytes
segment_has own content patches s len are has =
    let records : flat_map (λ (found : ℕ × Record). content_of found.1) s.records ≡ written_data own content patches =
    ap (flat_map (λ (found : ℕ × Record). content_of found.1)) has.3 ∙ flat-placed content_of has.0 (body_records own content patches ++ has.1) refl
    ∙ without content_of (body_records own content patches) has.1 (exports_content has.1 has.2) ∙ records_content own content patches in
    ap (λ (l : List ℕ). l ++ replicate (s.fields.length - length l) 0) records
    ∙ ap (λ (n : ℕ). written_data own content patches ++ replicate (n - length (written_data own content patches)) 0) len
    ∙ sym (restored own patches content are)

-- the patches of records without the records' displacements
pub without_places : (s : Segment) (founds : List (ℕ × Record))
    → map (λ (p : ℕ × Patch). p.1) (flat_map (λ (found : ℕ × Record). map (λ (p : Patch). (found.0, p)) (patches_in s found.1)) founds) ≡ flat_map (λ (found : ℕ × Record). patches_in s found.1) founds
without_places s [] = refl
without_places s (found ∷ founds) =
    ap (map (λ (p : ℕ × Patch). p.1)) (flat_map-cons (λ (of : ℕ × Record). map (λ (p : Patch). (of.0, p)) (patches_in s of.1)) found founds)
    ∙ map-append (λ (p : ℕ × Patch). p.1) (map (λ (p : Patch). (found.0, p)) (patches_in s found.1)) (flat_map (λ (of : ℕ × Record). map (λ (p : Patch). (of.0, p)) (patches_in s of.1)) founds)
    ∙ ap (λ (l : List Patch). l ++ map (λ (p : ℕ × Patch). p.1) (flat_map (λ (of : ℕ × Record). map (λ (p : Patch). (of.0, p)) (patches_in s of.1)) founds)) (back (patches_in s found.1))
    ∙ ap (λ (l : List Patch). patches_in s found.1 ++ l) (without_places s founds)
    ∙ sym (flat_map-cons (λ (of : ℕ × Record). patches_in s of.1) found founds)
  where
    back : (l : List Patch) → map (λ (p : ℕ × Patch). p.1) (map (λ (p : Patch). (found.0, p)) l) ≡ l
    back [] = refl
    back (p ∷ l) = ap (λ (m : List Patch). p ∷ m) (back l)

-- its patches are those that it is written for, in the order of its records
pub patches_are : (own : ℕ) (content : List ℕ) (patches : List Patch) (s : Segment) → HasRecords own content patches s → Stands own patches s
    → map (λ p. p.1) (patches_of s) ≡ patches_stored_alone own patches ++ by_forms own patches 0 38
unfolding patches_of
patches_are own content patches s has st =
    without_places s s.records
    ∙ ap (flat_map (λ (found : ℕ × Record). patches_in s found.1)) has.3 ∙ flat-placed (patches_in s) has.0 (body_records own content patches ++ has.1) refl
    ∙ without (patches_in s) (body_records own content patches) has.1 (exports_patches s has.1 has.2) ∙ records_patches own content patches s st

pub stands : (own : ℕ) (content : List ℕ) (patches : List Patch) (s : Segment) → s.fields.seg_num ≡ own → s.fields.length ≡ length content → AreWritten (length content) 0 patches → HasRecords own content patches s
    → Stands own patches s
stands own content patches s number len are has = record {
  number = number;
  written = subst (λ (n : ℕ). AreWritten n 0 patches) (sym len) are;
  data' = λ p h. subst (Holds own p) (sym (segment_has own content patches s len are has)) (holds own patches content p are h);
}

pub cells_are : (own : ℕ) (content : List ℕ) (patches : List Patch) (s : Segment) → s.fields.seg_num ≡ own → s.fields.length ≡ length content → AreWritten (length content) 0 patches → HasRecords own content patches s
    → cells s ≡ written_cells content patches
unfolding cells written_cells
cells_are own content patches s number len are has =
    let bytes = segment_has own content patches s len are has in
    let st = stands own content patches s number len are has in
    let qs = patches_stored_alone own patches ++ by_forms own patches 0 38 in
    let all = with_stored own content patches in
    let sizes : length (map Byte content) ≡ length (map Byte all) = length-map content (λ (n : ℕ). Byte n) ∙ sym (length-data own patches content are) ∙ sym (length-map all (λ (n : ℕ). Byte n)) in
    let outside : (k : ℕ) → Missed patches k → slice_get (map Byte content) k ≡ slice_get (map Byte all) k =
    λ k none. slice_get-map Byte content k ∙ ap (option_map Byte) (sym (data-missed own patches content k are none)) ∙ sym (slice_get-map Byte all k) in
    ap (λ (l : List ℕ). patched_cells (map Byte l) (map (λ p. p.1) (patches_of s))) bytes
    ∙ ap (λ (l : List Patch). patched_cells (map Byte all) l) (patches_are own content patches s has st)
    ∙ patched-laid (map Byte all) qs
    ∙ sym (same_laid parts patches qs (map Byte content) (map Byte all) sizes (fit-cells patches content are) (written_apart (length content) 0 patches are) (to_records own patches) (from_records own patches) outside)
    ∙ sym (patched-laid (map Byte content) patches)

-- a body of version 2 with LABLEN 0 is read as it is written
pub reader_is : (own size : ℕ) (bytes : List ℕ) (s : Segment) (file : List ℕ) → HasBody own size bytes s file
    → body_reader s.start s.fields file ≡ reader_at (s.start + s.fields.byte_count) bytes false
unfolding body_reader length_width_of
reader_is own size bytes s file has = rw (has.version, has.lab_len, has.body) refl

pub has_records : (own : ℕ) (content : List ℕ) (patches : List Patch) (s : Segment) (file : List ℕ) → length content ≤ 0xFFFFFF → AreWritten (length content) 0 patches
    → HasBody own (length content) (body_text own content patches ++ spelling written_layout End) s file → HasRecords own content patches s
unfolding body_text
has_records own content patches s file small are has =
    let end = s.start + s.fields.byte_count in
    let rs = body_records own content patches in
    let reader = reader_is own (length content) (text rs) s file has in
    let given : HandsOut (reader_at end (text rs) false) s.records has.segment'.last = subst (λ (r : Reader). HandsOut r s.records has.segment'.last) reader has.segment'.records in
    let made = runs rs end (records_fit own content patches small are) in
    let is = HandsOut-same (reader_at end (text rs) false) s.records (placed end rs) has.segment'.last (reader_at end [] true) given made has.segment'.ended refl in
    (end, [], tt, is ∙ ap (placed end) (sym (append-nil rs)))

pub stands_for : (own : ℕ) (content : List ℕ) (patches : List Patch) (s : Segment) (file : List ℕ) → length content ≤ 0xFFFFFF → AreWritten (length content) 0 patches
    → HasBody own (length content) (body_text own content patches ++ spelling written_layout End) s file → cells s ≡ written_cells content patches
stands_for own content patches s file small are has =
    cells_are own content patches s has.seg_num has.length' are (has_records own content patches s file small are has)
