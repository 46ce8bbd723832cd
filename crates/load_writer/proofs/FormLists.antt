-- Locations by type: those that were put in, and those of the patches that are left.
use Rattle.std.proofs.Common.{◌≡◌, ℕ, zero, suc, ◌+◌, ◌<◌, true, false, eqb, List, [], ◌∷◌, ◌++◌, length, map, replicate, get_or, set, Option, Some, None, refl, sym, ap, ◌∙◌, append_assoc, arith}
use Rattle.std.specs.Prelude.{slice_get}
use Rattle.std.proofs.lemmas.Bool.{eq-eqb, ne_eqb}
use Rattle.std.proofs.lemmas.List.{append-nil, map-set, length-map}
use Rattle.std.proofs.lemmas.List.Concat.{flat_map-cons}
use Rattle.std.proofs.lemmas.Option.{get_or_from_slice_get}
use Rattle.std.specs.List.{flat_map}
use Rattle.omf_format.specs.Field.{written_layout}
use Rattle.omf_format.specs.Record.{spelling}
use Rattle.load_meaning.specs.Cells.{Patch}
use Rattle.load_meaning.specs.laws.FormLaws as forms
use Rattle.load_meaning.specs.laws.WrittenBodyLaws.{form_below}
use Rattle.load_meaning.specs.WrittenBody.{super_form, of_form, lone_record, super_records}
use Rattle.load_meaning.specs.laws.Steps.{is_form, patches_stored_alone}
use Rattle.load_writer.specs.WrittenParts.{places, places_from, locations_by_form, put_in, super_of}

-- after the locations of each type, those of the patches that are left
abbrev pub with_left : ℕ → List Patch → ℕ → List (List ℕ) → List (List ℕ)
with_left own left form [] = []
with_left own left form (l ∷ lists) = (l ++ places (of_form own left form)) ∷ with_left own left (form + 1) lists

-- a patch of another type isn't there
other_form : (own form : ℕ) (p : Patch) (left : List Patch) → is_form form (super_form own p) ≡ false → of_form own (p ∷ left) form ≡ of_form own left form
other_form own form p left e = rw e refl

same_form : (own form : ℕ) (p : Patch) (left : List Patch) → is_form form (super_form own p) ≡ true → of_form own (p ∷ left) form ≡ p ∷ of_form own left form
same_form own form p left e = rw e refl

form_is : (form k : ℕ) (o : Option ℕ) → o ≡ Some k → is_form form o ≡ eqb k form
form_is form k o e = ap (is_form form) e

-- where the patch has a type below all of these, or none
left_before : (own form k : ℕ) (p : Patch) (left : List Patch) (lists : List (List ℕ)) → super_form own p ≡ Some k → k < form → with_left own (p ∷ left) form lists ≡ with_left own left form lists
left_before own form k p left [] e lt = refl
left_before own form k p left (l ∷ lists) e lt =
    let other : is_form form (super_form own p) ≡ false = form_is form k (super_form own p) e ∙ ne_eqb k form (λ (same : k ≡ form). absurd (omega (arith, same, lt))) in
    ap (λ (m : List Patch). (l ++ places m) ∷ with_left own (p ∷ left) (form + 1) lists) (other_form own form p left other)
    ∙ ap (λ (m : List (List ℕ)). (l ++ places (of_form own left form)) ∷ m) (left_before own (form + 1) k p left lists e (omega (arith, lt)))

-- put in with its type, it is one of those that are there
put_from : (own form k : ℕ) (p : Patch) (left : List Patch) (lists : List (List ℕ)) → super_form own p ≡ Some (form + k) → with_left own left form (put_in lists k p.location) ≡ with_left own (p ∷ left) form lists
put_from own form k p left [] e = refl
put_from own form zero p left (l ∷ lists) e =
    let here : super_form own p ≡ Some form = e ∙ ap (λ (n : ℕ). some n) (omega arith) in
    let same : is_form form (super_form own p) ≡ true = form_is form form (super_form own p) here ∙ eq-eqb form form refl in
    ap (λ (m : List ℕ). m ∷ with_left own left (form + 1) lists) (append_assoc l (p.location ∷ []) (places (of_form own left form)))
    ∙ ap (λ (m : List Patch). (l ++ places m) ∷ with_left own left (form + 1) lists) (sym (same_form own form p left same))
    ∙ ap (λ (m : List (List ℕ)). (l ++ places (of_form own (p ∷ left) form)) ∷ m) (sym (left_before own (form + 1) form p left lists here (omega arith)))
  where
    some : ℕ → Option ℕ
    some n = Some n
put_from own form (suc k) p left (l ∷ lists) e =
    let there : super_form own p ≡ Some (form + 1 + k) = e ∙ ap (λ (n : ℕ). some n) (omega arith) in
    let other : is_form form (super_form own p) ≡ false = form_is form (form + 1 + k) (super_form own p) there ∙ ne_eqb (form + 1 + k) form (λ (same : form + 1 + k ≡ form). absurd (omega (arith, same))) in
    ap (λ (m : List Patch). (l ++ places m) ∷ with_left own left (form + 1) (put_in lists k p.location)) (sym (other_form own form p left other))
    ∙ ap (λ (m : List (List ℕ)). (l ++ places (of_form own (p ∷ left) form)) ∷ m) (put_from own (form + 1) k p left lists there)
  where
    some : ℕ → Option ℕ
    some n = Some n

pub put_first : (own k : ℕ) (p : Patch) (left : List Patch) (lists : List (List ℕ)) → super_form own p ≡ Some k → with_left own left 0 (put_in lists k p.location) ≡ with_left own (p ∷ left) 0 lists
put_first own k p left lists e = put_from own 0 k p left lists (e ∙ ap (λ (n : ℕ). some n) (omega arith))
  where
    some : ℕ → Option ℕ
    some n = Some n

-- a list is put in the place of one, with one location more
pub set_is : (lists : List (List ℕ)) (k at : ℕ) (d : List ℕ) → k < length lists → set lists k (get_or lists k d ++ at ∷ []) ≡ put_in lists k at
set_is [] k at d lt = absurd (omega arith)
set_is (l ∷ lists) zero at d lt = refl
set_is (l ∷ lists) (suc k) at d lt = ap (λ (m : List (List ℕ)). l ∷ m) (set_is lists k at d (omega arith))

get_map : {V : Type 0} (seen : V → List ℕ) (lists : List V) (k : ℕ) (d : V) → get_or (map seen lists) k (seen d) ≡ seen (get_or lists k d)
get_map seen [] k d = refl
get_map seen (v ∷ lists) zero d = refl
get_map seen (v ∷ lists) (suc k) d = get_map seen lists k d

-- so it is seen of any lists that are seen as such
pub put_is : {V : Type 0} (seen : V → List ℕ) (lists : List V) (k form at : ℕ) (old new : V) → k ≡ form → form < length lists → old ≡ get_or lists k old
    → seen new ≡ seen old ++ at ∷ [] → map seen (set lists k new) ≡ put_in (map seen lists) form at
put_is {V} seen lists k form at old new is lt there more =
    let same : seen old ≡ get_or (map seen lists) k (seen old) = ap seen there ∙ sym (get_map seen lists k old) in
    let size : length (map seen lists) ≡ length lists = length-map lists seen in
    map-set seen lists k new
    ∙ ap (set (map seen lists) k) (more ∙ ap (λ (l : List ℕ). l ++ at ∷ []) same)
    ∙ set_is (map seen lists) k at (seen old) (omega (arith, size, is, lt))
    ∙ ap (λ (i : ℕ). put_in (map seen lists) i at) is

pub length-put_in : (lists : List (List ℕ)) (k at : ℕ) → length (put_in lists k at) ≡ length lists
length-put_in [] k at = refl
length-put_in (l ∷ lists) zero at = refl
length-put_in (l ∷ lists) (suc k) at = ap suc (length-put_in lists k at)

-- at first all patches are left, and at last none
pub left_all : (own form : ℕ) (patches : List Patch) (n : ℕ) → with_left own patches form (replicate n []) ≡ places_from own patches form n
left_all own form patches zero = refl
left_all own form patches (suc n) = ap (λ (m : List (List ℕ)). places (of_form own patches form) ∷ m) (left_all own (form + 1) patches n)

pub left_nothing : (own form : ℕ) (lists : List (List ℕ)) → with_left own [] form lists ≡ lists
left_nothing own form [] = refl
left_nothing own form (l ∷ lists) = ap (λ (m : List ℕ). m ∷ with_left own [] (form + 1) lists) (append-nil l) ∙ ap (λ (m : List (List ℕ)). l ∷ m) (left_nothing own (form + 1) lists)

-- the locations of one type
pub places_at : (own form : ℕ) (patches : List Patch) (n k : ℕ) → k < n → slice_get (places_from own patches form n) k ≡ Some (places (of_form own patches (form + k)))
places_at own form patches zero k lt = absurd (omega arith)
places_at own form patches (suc n) zero lt = ap (λ (i : ℕ). some_places i) (omega arith)
  where
    some_places : ℕ → Option (List ℕ)
    some_places i = Some (places (of_form own patches i))
places_at own form patches (suc n) (suc k) lt = places_at own (form + 1) patches n k (omega arith) ∙ ap (λ (i : ℕ). some_places i) (omega arith)
  where
    some_places : ℕ → Option (List ℕ)
    some_places i = Some (places (of_form own patches i))

pub length-places_from : (own form : ℕ) (patches : List Patch) (n : ℕ) → length (places_from own patches form n) ≡ n
length-places_from own form patches zero = refl
length-places_from own form patches (suc n) = ap suc (length-places_from own (form + 1) patches n)

-- where all patches are left and the lists are empty, these are the lists of all types
pub at_first : (own : ℕ) (patches : List Patch) → with_left own patches 0 (replicate 38 []) ≡ locations_by_form own patches
unfolding locations_by_form
at_first own patches = left_all own 0 patches 38

pub of_type : (own : ℕ) (patches : List Patch) (form : ℕ) → form < 38 → slice_get (locations_by_form own patches) form ≡ Some (places (of_form own patches form))
unfolding locations_by_form
of_type own patches form lt = places_at own 0 patches 38 form lt ∙ ap (λ (i : ℕ). some_places i) (omega arith)
  where
    some_places : ℕ → Option (List ℕ)
    some_places i = Some (places (of_form own patches i))

pub length-by_form : (own : ℕ) (patches : List Patch) → length (locations_by_form own patches) ≡ 38
unfolding locations_by_form
length-by_form own patches = length-places_from own 0 patches 38

-- a type is below 38
pub below : (own : ℕ) (p : Patch) (form : ℕ) → super_form own p ≡ Some form → form < 38
below own p form e = form_below own p form (forms.form_is own p form e)

-- ---- the walk over the patches

pub step_is : (own form : ℕ) (p : Patch) (rest left : List Patch) (old new whole : List (List ℕ)) → new ≡ put_in old form p.location → super_form own p ≡ Some form
    → left ≡ p ∷ rest → with_left own left 0 old ≡ whole → with_left own rest 0 new ≡ whole
step_is own form p rest left old new whole put e is all =
    ap (with_left own rest 0) put ∙ put_first own form p rest old e ∙ ap (λ (l : List Patch). with_left own l 0 old) (sym is) ∙ all

pub size_is : {V : Type 0} (seen : V → List ℕ) (old new : List V) (form at : ℕ) → map seen new ≡ put_in (map seen old) form at → length new ≡ length old
size_is seen old new form at put = sym (length-map new seen) ∙ ap length put ∙ length-put_in (map seen old) form at ∙ length-map old seen

pub end_is : (own : ℕ) (left : List Patch) (lists whole : List (List ℕ)) → length left ≡ 0 → with_left own left 0 lists ≡ whole → lists ≡ whole
end_is own [] lists whole none all = sym (left_nothing own 0 lists) ∙ all
end_is own (p ∷ left) lists whole none all = absurd (omega arith)

pub start_is : (own : ℕ) (patches : List Patch) (lists : List (List ℕ)) → lists ≡ replicate 38 [] → with_left own patches 0 lists ≡ locations_by_form own patches
start_is own patches lists is = ap (with_left own patches 0) is ∙ at_first own patches

pub start_size : {V : Type 0} (seen : V → List ℕ) (lists : List V) → map seen lists ≡ replicate 38 [] → length lists ≡ 38
start_size seen lists is = sym (length-map lists seen) ∙ ap length is

-- ---- the list of one type

pub there_is : {V : Type 0} (seen : V → List ℕ) (lists : List V) (own : ℕ) (patches : List Patch) (form k : ℕ) (v : V) → map seen lists ≡ locations_by_form own patches → k ≡ form → form < 38
    → v ≡ get_or lists k v → seen v ≡ places (of_form own patches form)
there_is seen lists own patches form k v all is lt there =
    ap seen there
    ∙ sym (get_map seen lists k v)
    ∙ ap (λ (i : ℕ). get_or (map seen lists) i (seen v)) is
    ∙ ap (λ (l : List (List ℕ)). get_or l form (seen v)) all
    ∙ get_or_from_slice_get (locations_by_form own patches) form (places (of_form own patches form)) (seen v) (of_type own patches form lt)

pub lists_size : {V : Type 0} (seen : V → List ℕ) (lists : List V) (own : ℕ) (patches : List Patch) → map seen lists ≡ locations_by_form own patches → length lists ≡ 38
lists_size seen lists own patches all = sym (length-map lists seen) ∙ ap length all ∙ length-by_form own patches

-- ---- patches that are in no SUPER

-- one isn't among those of any type
left_lone : (own form : ℕ) (p : Patch) (left : List Patch) (lists : List (List ℕ)) → super_form own p ≡ None → with_left own (p ∷ left) form lists ≡ with_left own left form lists
left_lone own form p left [] e = refl
left_lone own form p left (l ∷ lists) e =
    ap (λ (m : List Patch). (l ++ places m) ∷ with_left own (p ∷ left) (form + 1) lists) (other_form own form p left (ap (is_form form) e))
    ∙ ap (λ (m : List (List ℕ)). (l ++ places (of_form own left form)) ∷ m) (left_lone own (form + 1) p left lists e)

pub lone_left : (own : ℕ) (p : Patch) (rest left : List Patch) (lists whole : List (List ℕ)) → super_form own p ≡ None → left ≡ p ∷ rest → with_left own left 0 lists ≡ whole → with_left own rest 0 lists ≡ whole
lone_left own p rest left lists whole e is all = sym (left_lone own 0 p rest lists e) ∙ ap (λ (l : List Patch). with_left own l 0 lists) (sym is) ∙ all

-- what the records of these spell
abbrev pub lone_text : ℕ → List Patch → List ℕ
lone_text own left = flat_map (spelling written_layout) (map (lone_record own) (patches_stored_alone own left))

alone_first : (own : ℕ) (p : Patch) (rest : List Patch) → super_form own p ≡ None → lone_text own (p ∷ rest) ≡ spelling written_layout (lone_record own p) ++ lone_text own rest
alone_first own p rest e =
    ap (λ (l : List Patch). flat_map (spelling written_layout) (map (lone_record own) l)) (kept e) ∙ flat_map-cons (spelling written_layout) (lone_record own p) (map (lone_record own) (patches_stored_alone own rest))
  where
    kept : super_form own p ≡ None → patches_stored_alone own (p ∷ rest) ≡ p ∷ patches_stored_alone own rest
    kept e = rw e refl

-- one more was put
pub lone_put : (own : ℕ) (p : Patch) (rest left : List Patch) (old new whole : List ℕ) → super_form own p ≡ None → left ≡ p ∷ rest → new ≡ old ++ spelling written_layout (lone_record own p)
    → old ++ lone_text own left ≡ whole → new ++ lone_text own rest ≡ whole
lone_put own p rest left old new whole e is put all =
    ap (λ (l : List ℕ). l ++ lone_text own rest) put
    ∙ append_assoc old (spelling written_layout (lone_record own p)) (lone_text own rest)
    ∙ ap (λ (l : List ℕ). old ++ l) (sym (alone_first own p rest e))
    ∙ ap (λ (l : List Patch). old ++ lone_text own l) (sym is)
    ∙ all

-- one that is in a SUPER gives none
pub lone_passed : (own form : ℕ) (p : Patch) (rest left : List Patch) (old whole : List ℕ) → super_form own p ≡ Some form → left ≡ p ∷ rest → old ++ lone_text own left ≡ whole → old ++ lone_text own rest ≡ whole
lone_passed own form p rest left old whole e is all =
    ap (λ (l : List Patch). old ++ flat_map (spelling written_layout) (map (lone_record own) l)) (sym (dropped e)) ∙ ap (λ (l : List Patch). old ++ lone_text own l) (sym is) ∙ all
  where
    dropped : super_form own p ≡ Some form → patches_stored_alone own (p ∷ rest) ≡ patches_stored_alone own rest
    dropped e = rw e refl

-- ---- the SUPER of a type

pub super_is : (form : ℕ) (ps : List Patch) → super_of form (places ps) ≡ super_records form ps
super_is form [] = refl
super_is form (p ∷ ps) = refl
