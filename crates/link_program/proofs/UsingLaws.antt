-- What a name finds by USING that one segment alone has for itself.
use Rattle.std.proofs.Common.{◌≡◌, ◌⊎◌, ℕ, suc, ◌+◌, ◌-◌, ◌<◌, Bool, true, false, List, [], ◌∷◌, map, Some, None, refl, sym, ap, ◌∙◌, inl, inr, arith}
use Rattle.std.specs.Prelude.{filter, slice_get, nat_eq, ◌&&◌, ◌||◌, if◌then◌else◌}
use Rattle.std.specs.List.{list_any}
use Rattle.std.specs.Str.{bytes_eq}
use Rattle.std.proofs.lemmas.Bool.{eq-eqb, eqb-true}
use Rattle.std.proofs.lemmas.List.Folds.{list_any-append}
use Rattle.std.proofs.lemmas.List.Concat.{flat_map-cons}
use Rattle.omf_format.specs.Header.{is_private}
use Rattle.omf_format.specs.File.{Segment}
use Rattle.link_meaning.specs.First.{IsIn}
use Rattle.link_meaning.specs.Member.{Member}
use Rattle.object_meaning.specs.Defines.{is_data, Definition, title_of, data_title_of, outer_scope}
use Rattle.link_meaning.specs.laws.MemberLists.{in_filter}
use Rattle.link_meaning.specs.laws.EquatePlaces.{passes_filter}
use Rattle.link_meaning.specs.laws.PlaceFits.{in-append, own_entry}
use Rattle.link_meaning.specs.declared.search.SearchStep.{SearchStep}
use Rattle.link_meaning.specs.declared.search.SearchStep.TheVariants.{Within}
use Rattle.link_meaning.specs.Search.{FoundDefinition, or_else, first_step_found, outer_steps, only_place, entries_from, data_titles, with_this_name, finds_data}
use Rattle.link_meaning.specs.laws.Steps.{is_seen_by_step}
use Rattle.link_meaning.specs.Uses.{usings_of}
use Rattle.link_tables.specs.declared.names.Matches.{Matches}
use Rattle.link_tables.specs.declared.names.Matches.TheVariants.{One}
use Rattle.link_program.specs.declared.linked.Linked.{Linked}
use Rattle.link_program.specs.Linked.{used_places, is_among, has_using, title_of_data, title_in, member_at, Holds, SeesPlace}
use Rattle.link_tables.proofs.NameTables.{bytes_same}
use Rattle.link_program.proofs.SearchLaws.{or_else-nil, one_place, no_place}
use Rattle.link_program.proofs.LinkedLaws.{each_is}

-- ---- places, of which one has the name

false_if : (b : Bool) → (b ≡ true → ⊥) → b ≡ false
false_if true no' = absurd (no' refl)
false_if false no' = refl

other_place : (d p : ℕ) → nat_eq d p ≡ false → d ≡ p → ⊥
other_place d p e same = let clash : true ≡ false = sym (eq-eqb d p same) ∙ e in cc

or_same : (xs : List FoundDefinition) → or_else xs xs ≡ xs
or_same [] = refl
or_same (f ∷ xs) = refl

abbrev OnlyAt : ℕ → List FoundDefinition → Type 0
OnlyAt d xs = (p : ℕ) → (d ≡ p → ⊥) → filter (is_seen_by_step (Within p)) xs ≡ []

-- without the one place that has the name nothing is found
pub none_at_places : (xs : List FoundDefinition) (d : ℕ) (places : List ℕ) → OnlyAt d xs → list_any (nat_eq d) places ≡ false → first_step_found (map Within places) xs ≡ []
none_at_places xs d [] only e = refl
none_at_places xs d (p ∷ places) only e = settle (nat_eq d p) refl e (none_at_places xs d places only)
  where
    settle : (b : Bool) → nat_eq d p ≡ b → (b || list_any (nat_eq d) places) ≡ false → (list_any (nat_eq d) places ≡ false → first_step_found (map Within places) xs ≡ []) → first_step_found (map Within (p ∷ places)) xs ≡ []
    settle true is e go = absurd cc
    settle false is e go = ap (λ (l : List FoundDefinition). or_else l (first_step_found (map Within places) xs)) (only p (other_place d p is)) ∙ go e

-- and with it what it has
pub one_at_places : (xs : List FoundDefinition) (d : ℕ) (places : List ℕ) → OnlyAt d xs → list_any (nat_eq d) places ≡ true → first_step_found (map Within places) xs ≡ filter (is_seen_by_step (Within d)) xs
one_at_places xs d [] only e = absurd cc
one_at_places xs d (p ∷ places) only e = settle (nat_eq d p) refl e (one_at_places xs d places only)
  where
    own : List FoundDefinition
    own = filter (is_seen_by_step (Within d)) xs

    back : (b : Bool) → list_any (nat_eq d) places ≡ b → (list_any (nat_eq d) places ≡ true → first_step_found (map Within places) xs ≡ own) → or_else own (first_step_found (map Within places) xs) ≡ own
    back true is go = ap (or_else own) (go is) ∙ or_same own
    back false is go = ap (or_else own) (none_at_places xs d places only is) ∙ or_else-nil own

    settle : (b : Bool) → nat_eq d p ≡ b → (b || list_any (nat_eq d) places) ≡ true → (list_any (nat_eq d) places ≡ true → first_step_found (map Within places) xs ≡ own) → first_step_found (map Within (p ∷ places)) xs ≡ own
    settle true is e go = ap (λ (q : ℕ). or_else (filter (is_seen_by_step (Within q)) xs) (first_step_found (map Within places) xs)) (sym (eqb-true d p is)) ∙ back (list_any (nat_eq d) places) refl go
    settle false is e go = ap (λ (l : List FoundDefinition). or_else l (first_step_found (map Within places) xs)) (only p (other_place d p is)) ∙ go e

-- ---- data segments have the names that find them

title_name : (s : Segment) (d : Definition) → IsIn (data_title_of s) d → title_of_data s ≡ Some d.name
unfolding data_title_of title_of
title_name s d is = by_data (is_data s) is
  where
    by_name : (n : List ℕ) → IsIn (elim n as (λ n. List Definition) [
      | [] ↦ []
      | b ∷ bs ↦ record { name = b ∷ bs; scope = outer_scope (is_private s.fields.kind); place = 0; at = s.start; expr = None; size = 0; form = 0x4E } ∷ []
    ]) d → d.name ≡ n
    by_name [] is = absurd is
    by_name (b ∷ bs) (inl e) = ap (λ (x : Definition). x.name) (sym e)
    by_name (b ∷ bs) (inr more) = absurd more

    by_data : (t : Bool) → IsIn (if t then title_of s else []) d → (if t then Some s.fields.name else None) ≡ Some d.name
    by_data true is = ap Some (sym (by_name s.fields.name is))
    by_data false is = absurd is

-- its place is that of a member, of which it has the name
abbrev IsTitled : ℕ → List Member → FoundDefinition → Type 0
IsTitled place ms f = (k : ℕ) × (f.place ≡ place + k) × (title_in (slice_get ms k) ≡ Some f.definition.name)

abbrev own_titles : ℕ → Member → List FoundDefinition
own_titles place m = map (λ (d : Definition). record { place = place; member = m; definition = d }) (data_title_of m.segment)

titled_from : (place : ℕ) (ms : List Member) (f : FoundDefinition) → IsIn (entries_from data_title_of place ms) f → IsTitled place ms f
titled_from place [] f is = absurd is
titled_from place (m ∷ ms) f is = settle (in-append (own_titles place m) (entries_from data_title_of (place + 1) ms) f is) (titled_from (place + 1) ms f)
  where
    settle : IsIn (own_titles place m) f ⊎ IsIn (entries_from data_title_of (place + 1) ms) f → (IsIn (entries_from data_title_of (place + 1) ms) f → IsTitled (place + 1) ms f) → IsTitled place (m ∷ ms) f
    settle (inl own) go =
        let here = own_entry place m (data_title_of m.segment) f own in
        (0, omega (arith, here.0), title_name m.segment f.definition here.2)
    settle (inr more) go =
        let there = go more in
        (suc there.0, omega (arith, there.1), there.2)

in_steps : (steps : List SearchStep) (all : List FoundDefinition) (f : FoundDefinition) → IsIn (first_step_found steps all) f → IsIn all f
in_steps [] all f is = absurd is
in_steps (s ∷ steps) all f is = settle (filter (is_seen_by_step s) all) is (in_filter (is_seen_by_step s) all f) (in_steps steps all f)
  where
    settle : (found : List FoundDefinition) → IsIn (or_else found (first_step_found steps all)) f → (IsIn found f → IsIn all f) → (IsIn (first_step_found steps all) f → IsIn all f) → IsIn all f
    settle [] is here go = go is
    settle (g ∷ found) is here go = here is

titled : (list : List Member) (m : Member) (n : List ℕ) (f : FoundDefinition) → IsIn (finds_data list m n) f → title_in (member_at list f.place) ≡ Some n
unfolding finds_data with_this_name data_titles
titled list m n f is =
    let among = in_steps (outer_steps m) (with_this_name n (data_titles list)) f is in
    let there = titled_from 1 list f (in_filter (λ (g : FoundDefinition). bytes_eq n g.definition.name) (data_titles list) f among) in
    let same = bytes_same n f.definition.name (passes_filter (λ (g : FoundDefinition). bytes_eq n g.definition.name) (data_titles list) f among) in
    let next : f.place ≡ suc there.0 = omega (arith, there.1) in
    ap (λ (p : ℕ). title_in (member_at list p)) next ∙ there.2 ∙ ap Some (sym same)

-- a place that a name of USING finds is that of a segment of the name
named_at : (list : List Member) (m : Member) (d : ℕ) (n : List ℕ) → list_any (nat_eq d) (only_place (finds_data list m n)) ≡ true → title_in (member_at list d) ≡ Some n
named_at list m d n e = settle (finds_data list m n) (titled list m n) e
  where
    first : (b : Bool) → (b || false) ≡ true → b ≡ true
    first true e = refl
    first false e = absurd cc

    settle : (found : List FoundDefinition) → ((f : FoundDefinition) → IsIn found f → title_in (member_at list f.place) ≡ Some n) → list_any (nat_eq d) (only_place found) ≡ true → title_in (member_at list d) ≡ Some n
    settle [] each e = absurd cc
    settle (f ∷ []) each e = ap (λ (p : ℕ). title_in (member_at list p)) (eqb-true d f.place (first (nat_eq d f.place) e)) ∙ each f (inl refl)
    settle (f ∷ g ∷ more) each e = absurd cc

-- ---- whether a place is found by names of USING

abbrev found_by : List Member → Member → ℕ → List ℕ → Bool
found_by list m d n = list_any (nat_eq d) (only_place (finds_data list m n))

use_numbered-cons : (list : List Member) (m : Member) (d : ℕ) (n : List ℕ) (names : List (List ℕ)) → list_any (nat_eq d) (used_places list m (n ∷ names)) ≡ (found_by list m d n || list_any (nat_eq d) (used_places list m names))
use_numbered-cons list m d n names =
    ap (list_any (nat_eq d)) (flat_map-cons (λ (x : List ℕ). only_place (finds_data list m x)) n names)
    ∙ list_any-append (nat_eq d) (only_place (finds_data list m n)) (used_places list m names)

-- one that is no member's isn't
pub nowhere_used : (list : List Member) (m : Member) (d : ℕ) (names : List (List ℕ)) → title_in (member_at list d) ≡ None → list_any (nat_eq d) (used_places list m names) ≡ false
nowhere_used list m d [] none = refl
nowhere_used list m d (n ∷ names) none =
    let head : found_by list m d n ≡ false = false_if (found_by list m d n) (λ e. let clash : None ≡ Some n = sym none ∙ named_at list m d n e in cc) in
    use_numbered-cons list m d n names ∙ ap (λ (b : Bool). b || list_any (nat_eq d) (used_places list m names)) head ∙ nowhere_used list m d names none

bytes_self : (t : List ℕ) → bytes_eq t t ≡ true
bytes_self [] = refl
bytes_self (x ∷ t) = ap (λ (b : Bool). b && bytes_eq t t) (eq-eqb x x refl) ∙ bytes_self t

-- one of a segment is, if the segment's name is one of them and finds it
pub used_by_name : (list : List Member) (m : Member) (d : ℕ) (t : List ℕ) (names : List (List ℕ)) → title_in (member_at list d) ≡ Some t
    → list_any (nat_eq d) (used_places list m names) ≡ (is_among t names && list_any (nat_eq d) (only_place (finds_data list m t)))
used_by_name list m d t [] at = refl
used_by_name list m d t (n ∷ names) at = use_numbered-cons list m d n names ∙ ap (λ (b : Bool). found_by list m d n || b) (used_by_name list m d t names at) ∙ settle (bytes_eq n t) refl
  where
    same_name : (a b : List ℕ) → Some a ≡ Some b → a ≡ b
    same_name a b e = cc

    both : (f a : Bool) → (f || (a && f)) ≡ f
    both true a = refl
    both false true = refl
    both false false = refl

    clash : bytes_eq n t ≡ false → n ≡ t → ⊥
    clash e same = let two : true ≡ false = sym (ap (λ (x : List ℕ). bytes_eq x t) same ∙ bytes_self t) ∙ e in cc

    settle : (b : Bool) → bytes_eq n t ≡ b → (found_by list m d n || (is_among t names && found_by list m d t)) ≡ ((b || is_among t names) && found_by list m d t)
    settle true e = ap (λ (x : List ℕ). found_by list m d x || (is_among t names && found_by list m d t)) (bytes_same n t e) ∙ both (found_by list m d t) (is_among t names)
    settle false e =
        let head : found_by list m d n ≡ false = false_if (found_by list m d n) (λ f. clash e (same_name n t (sym (named_at list m d n f) ∙ at))) in
        ap (λ (b : Bool). b || (is_among t names && found_by list m d t)) head

-- whether a segment is among those that a member uses, as the tables report it
pub used_so : (list : List Member) (kept : Linked) (place other : ℕ) (m : Member) (t : List ℕ) (has : Bool) → Holds list kept → 0 < place → slice_get list (place - 1) ≡ Some m → title_in (member_at list other) ≡ Some t
    → has ≡ has_using kept.usings place t → list_any (nat_eq other) (used_places list m (usings_of m.segment)) ≡ (has && list_any (nat_eq other) (only_place (finds_data list m t)))
used_so list kept place other m t has holds some at named_so is =
    used_by_name list m other t (usings_of m.segment) named_so
    ∙ ap (λ (b : Bool). b && list_any (nat_eq other) (only_place (finds_data list m t))) (sym (is ∙ each_is list kept place m t holds some at))

pub found_one : (found : List FoundDefinition) (other n : ℕ) → SeesPlace found (One n) → nat_eq other n ≡ list_any (nat_eq other) (only_place found)
found_one found other n seen = or_none (nat_eq other n) ∙ sym (ap (list_any (nat_eq other)) (one_place found n seen))
  where
    or_none : (b : Bool) → b ≡ (b || false)
    or_none true = refl
    or_none false = refl

pub found_others : (found : List FoundDefinition) (other : ℕ) (o : Matches) → SeesPlace found o → ((n : ℕ) → o ≡ One n → ⊥) → false ≡ list_any (nat_eq other) (only_place found)
found_others found other o seen none = sym (ap (list_any (nat_eq other)) (no_place found o seen none))
