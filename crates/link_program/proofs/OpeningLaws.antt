-- One more member opens no use again, unless it is a data segment whose name one other has beside it, or hidden by it.
use Rattle.std.proofs.Common.{◌≡◌, ◌⊎◌, inl, inr, ℕ, ◌+◌, ◌≤◌, Bool, true, false, List, [], ◌∷◌, ◌++◌, length, map, take, Option, Some, None, refl, sym, ap, subst, ◌∙◌, append-nil, arith}
use Rattle.std.specs.Prelude.{filter, if◌then◌else◌, ◌==◌}
use Rattle.std.specs.List.{flat_map}
use Rattle.std.specs.Option.{option_or}
use Rattle.std.specs.Str.{bytes_eq}
use Rattle.std.proofs.lemmas.Bool.{and_parts, eqb-true}
use Rattle.std.proofs.lemmas.List.{take-append-le, length-append}
use Rattle.std.proofs.lemmas.List.Elements.{filter-append}
use Rattle.std.proofs.lemmas.List.Concat.{flat_map-cons}
use Rattle.link_meaning.specs.First.{first_some, IsIn}
use Rattle.link_meaning.specs.Member.{Member, Offer, setting_in}
use Rattle.object_meaning.specs.Defines.{Definition, Scope, ForSegment, ForUnit, ForAll, outer_scope, data_title_of, defined_in}
use Rattle.link_meaning.specs.declared.search.SearchStep.{SearchStep}
use Rattle.link_meaning.specs.declared.search.SearchStep.TheVariants.{Within, OfUnit, Everyone}
use Rattle.link_meaning.specs.declared.search.SearchKind.{SearchKind}
use Rattle.link_meaning.specs.declared.search.SearchKind.TheVariants as wants
use Rattle.link_meaning.specs.Uses.{Use, uses_of, usings_of}
use Rattle.link_meaning.specs.Search.{FoundDefinition, step_for, is_step, or_else, first_step_found, outer_steps, used_data, entries, data_titles, with_this_name, outside, finds, finds_data, only_place}
use Rattle.link_meaning.specs.LinkedList.{PlacedUse, asked_from, all_uses, row_for, found_for}
use Rattle.link_meaning.specs.laws.Steps.{unless_found, steps_of, is_seen_by_step, finds_inside}
use Rattle.link_meaning.specs.laws.ProgressLaws.{AllNone, none_decided}
use Rattle.link_tables.specs.declared.names.Matches.{Matches}
use Rattle.link_tables.specs.declared.names.Matches.TheVariants.{One}
use Rattle.link_program.specs.Linked.{SeesPlace}
use Rattle.link_program.specs.Opening.{OpensNothing}
use Rattle.link_program.specs.Wanted.{wanted_at, WantsNothing}
use Rattle.link_tables.specs.Definitions.{founds_in}
use Rattle.link_tables.proofs.NameTables.{bytes_same}
use Rattle.link_program.proofs.SearchLaws.{no_place}
use Rattle.link_program.proofs.LinkedLaws.{entries_from-snoc, asked_from-snoc, uses_at}

-- ---- steps

none_at : (steps : List SearchStep) (all : List FoundDefinition) (s : SearchStep) → AllNone steps all → IsIn steps s → filter (is_seen_by_step s) all ≡ []
none_at [] all s none is = absurd is
none_at (x ∷ steps) all s none (inl e) = subst (λ (y : SearchStep). filter (is_seen_by_step y) all ≡ []) e none.0
none_at (x ∷ steps) all s none (inr is) = none_at steps all s none.1 is

none_from : (steps : List SearchStep) (all : List FoundDefinition) → ((s : SearchStep) → IsIn steps s → filter (is_seen_by_step s) all ≡ []) → first_step_found steps all ≡ []
none_from [] all each = refl
none_from (x ∷ steps) all each = ap (λ (l : List FoundDefinition). or_else l (first_step_found steps all)) (each x (inl refl)) ∙ none_from steps all (λ s is. each s (inr is))

front_empty : {A : Type 0} → (xs ys : List A) → xs ++ ys ≡ [] → xs ≡ []
front_empty [] ys e = refl
front_empty (x ∷ xs) ys e = absurd cc

-- what more steps don't find among more, fewer don't find among fewer
none_before : (steps steps' : List SearchStep) (xs ys : List FoundDefinition) → ((s : SearchStep) → IsIn steps s → IsIn steps' s) → first_step_found steps' (xs ++ ys) ≡ [] → first_step_found steps xs ≡ []
none_before steps steps' xs ys more e =
    let none = none_decided steps' (xs ++ ys) e in
    none_from steps xs (λ s is. front_empty (filter (is_seen_by_step s) xs) (filter (is_seen_by_step s) ys) (sym (filter-append (is_seen_by_step s) xs ys) ∙ none_at steps' (xs ++ ys) s none (more s is)))

named-append : (name : List ℕ) (xs ys : List FoundDefinition) → with_this_name name (xs ++ ys) ≡ with_this_name name xs ++ with_this_name name ys
unfolding with_this_name
named-append name xs ys = filter-append (λ (f : FoundDefinition). bytes_eq name f.definition.name) xs ys

-- ---- data segments by their names

titles_more : (list : List Member) (m : Member) → data_titles (list ++ m ∷ []) ≡ data_titles list ++ founds_in (1 + length list) m (data_title_of m.segment)
unfolding data_titles
titles_more list m = entries_from-snoc data_title_of 1 list m

entries_more : (list : List Member) (m : Member) → entries (list ++ m ∷ []) ≡ entries list ++ founds_in (1 + length list) m (defined_in m.segment)
unfolding entries
entries_more list m = entries_from-snoc defined_in 1 list m

data_before : (list : List Member) (m u : Member) (name : List ℕ) → finds_data (list ++ m ∷ []) u name ≡ [] → finds_data list u name ≡ []
unfolding finds_data
data_before list m u name e =
    let more = founds_in (1 + length list) m (data_title_of m.segment) in
    none_before (outer_steps u) (outer_steps u) (with_this_name name (data_titles list)) (with_this_name name more) (λ s is. is)
    (sym (ap (λ (l : List FoundDefinition). first_step_found (outer_steps u) l) (ap (with_this_name name) (titles_more list m) ∙ named-append name (data_titles list) more)) ∙ e)

-- a unit's step sees what is private of the unit
unit_step : (u m : Member) (p : ℕ) (scope : Scope) → is_step (OfUnit u.file u.from) (step_for p m.file m.from scope) ≡ true → (u.file ≡ m.file) × (u.from ≡ m.from)
unit_step u m p ForSegment e = absurd cc
unit_step u m p ForUnit e =
    let parts = and_parts (u.file == m.file) (u.from == m.from) e in
    (eqb-true u.file m.file parts.0, eqb-true u.from m.from parts.1)
unit_step u m p ForAll e = absurd cc

or_nothing : (b : List FoundDefinition) → or_else b [] ≡ b
or_nothing [] = refl
or_nothing (f ∷ b) = refl

never_one : (found : List FoundDefinition) (n : ℕ) → only_place found ≡ [] → IsIn (only_place found) n → ⊥
never_one found n none is = subst (λ (l : List ℕ). IsIn l n) none is

-- what the unit has stays, and what all see wasn't one
public_stays : (a a' b b' : List FoundDefinition) (n : ℕ) → a' ≡ a → only_place b ≡ [] → IsIn (only_place (or_else a (or_else b []))) n → IsIn (only_place (or_else a' (or_else b' []))) n
public_stays [] a' b b' n same none is = absurd (never_one b n none (subst (λ (l : List FoundDefinition). IsIn (only_place l) n) (or_nothing b) is))
public_stays (f ∷ a) a' b b' n same none is = subst (λ (l : List FoundDefinition). IsIn (only_place (or_else l (or_else b' []))) n) (sym same) is

-- one more that a step doesn't see
unseen : (s : SearchStep) (f : FoundDefinition) (xs : List FoundDefinition) → is_seen_by_step s f ≡ false → filter (is_seen_by_step s) (xs ++ f ∷ []) ≡ filter (is_seen_by_step s) xs
unseen s f xs hidden =
    filter-append (is_seen_by_step s) xs (f ∷ []) ∙ ap (λ (t : Bool). filter (is_seen_by_step s) xs ++ (if t then f ∷ [] else [])) hidden ∙ append-nil (filter (is_seen_by_step s) xs)

-- one more public title of a name, of which all saw none or several
all_stays : (u : Member) (f : FoundDefinition) (xs : List FoundDefinition) (n : ℕ) → f.definition.scope ≡ ForAll → only_place (filter (is_seen_by_step Everyone) xs) ≡ []
    → IsIn (only_place (first_step_found (outer_steps u) xs)) n → IsIn (only_place (first_step_found (outer_steps u) (xs ++ f ∷ []))) n
all_stays u f xs n scope none is =
    let unit = OfUnit u.file u.from in
    let hidden : is_seen_by_step unit f ≡ false = ap (λ (c : Scope). is_step unit (step_for f.place f.member.file f.member.from c)) scope in
    public_stays (filter (is_seen_by_step unit) xs) (filter (is_seen_by_step unit) (xs ++ f ∷ [])) (filter (is_seen_by_step Everyone) xs) (filter (is_seen_by_step Everyone) (xs ++ f ∷ [])) n (unseen unit f xs hidden) none is

-- one more private title of a name, of which its unit found none or several
unit_stays : (u m : Member) (f : FoundDefinition) (xs : List FoundDefinition) (n : ℕ) → f.member ≡ m → f.definition.scope ≡ ForUnit → only_place (first_step_found (outer_steps m) xs) ≡ []
    → IsIn (only_place (first_step_found (outer_steps u) xs)) n → IsIn (only_place (first_step_found (outer_steps u) (xs ++ f ∷ []))) n
unit_stays u m f xs n of scope none is = settle (is_seen_by_step (OfUnit u.file u.from) f) refl
  where
    settle : (t : Bool) → is_seen_by_step (OfUnit u.file u.from) f ≡ t → IsIn (only_place (first_step_found (outer_steps u) (xs ++ f ∷ []))) n
    settle true e =
        let same = unit_step u f.member f.place f.definition.scope e in
        let file : u.file ≡ m.file = same.0 ∙ ap (λ (y : Member). y.file) of in
        let from : u.from ≡ m.from = same.1 ∙ ap (λ (y : Member). y.from) of in
        let steps : outer_steps u ≡ outer_steps m =
        ap (λ (x : ℕ). OfUnit x u.from ∷ Everyone ∷ []) file ∙ ap (λ (x : ℕ). OfUnit m.file x ∷ Everyone ∷ []) from in
        absurd (never_one (first_step_found (outer_steps m) xs) n none (subst (λ (l : List SearchStep). IsIn (only_place (first_step_found l xs)) n) steps is))
    settle false e =
        let every : is_seen_by_step Everyone f ≡ false = ap (λ (c : Scope). is_step Everyone (step_for f.place f.member.file f.member.from c)) scope in
        let same : first_step_found (outer_steps u) (xs ++ f ∷ []) ≡ first_step_found (outer_steps u) xs =
        ap (λ (l : List FoundDefinition). or_else l (or_else (filter (is_seen_by_step Everyone) (xs ++ f ∷ [])) [])) (unseen (OfUnit u.file u.from) f xs e)
        ∙ ap (λ (l : List FoundDefinition). or_else (filter (is_seen_by_step (OfUnit u.file u.from)) xs) (or_else l [])) (unseen Everyone f xs every) in
        subst (λ (l : List FoundDefinition). IsIn (only_place l) n) (sym same) is

one_named : (name : List ℕ) (f : FoundDefinition) (t : Bool) → bytes_eq name f.definition.name ≡ t → with_this_name name (f ∷ []) ≡ (if t then f ∷ [] else [])
unfolding with_this_name
one_named name f t e = ap (λ (b : Bool). if b then f ∷ [] else []) e

-- a member without a title
pub none_titled_opens : (list : List Member) (m : Member) → data_title_of m.segment ≡ [] → OpensNothing list m
unfolding finds_data
none_titled_opens list m none u name n is =
    let same : data_titles (list ++ m ∷ []) ≡ data_titles list =
    titles_more list m ∙ ap (λ (ds : List Definition). data_titles list ++ founds_in (1 + length list) m ds) none ∙ append-nil (data_titles list) in
    subst (λ (l : List FoundDefinition). IsIn (only_place (first_step_found (outer_steps u) (with_this_name name l))) n) (sym same) is

-- what the search for a title's name finds is still found with the title after the others
abbrev Stays : List Member → Member → Definition → Type 0
Stays list m d = (u : Member) (n : ℕ) → IsIn (only_place (first_step_found (outer_steps u) (with_this_name d.name (data_titles list)))) n
    → IsIn (only_place (first_step_found (outer_steps u) (with_this_name d.name (data_titles list) ++ record { place = 1 + length list; member = m; definition = d } ∷ []))) n

title_stays : (list : List Member) (m : Member) (d : Definition) → data_title_of m.segment ≡ d ∷ [] → Stays list m d → OpensNothing list m
unfolding finds_data
title_stays list m d title stays u name n is = by_name (bytes_eq name d.name) refl
  where
    f : FoundDefinition
    f = record { place = 1 + length list; member = m; definition = d }

    whole : with_this_name name (data_titles (list ++ m ∷ [])) ≡ with_this_name name (data_titles list) ++ with_this_name name (f ∷ [])
    whole = ap (with_this_name name) (titles_more list m ∙ ap (λ (ds : List Definition). data_titles list ++ founds_in (1 + length list) m ds) title) ∙ named-append name (data_titles list) (f ∷ [])

    by_name : (t : Bool) → bytes_eq name d.name ≡ t → IsIn (only_place (first_step_found (outer_steps u) (with_this_name name (data_titles (list ++ m ∷ []))))) n
    by_name true e =
        let same : d.name ≡ name = sym (bytes_same name d.name e) in
        let more : IsIn (only_place (first_step_found (outer_steps u) (with_this_name name (data_titles list) ++ f ∷ []))) n =
        subst (λ (x : List ℕ). IsIn (only_place (first_step_found (outer_steps u) (with_this_name x (data_titles list) ++ f ∷ []))) n) same
        (stays u n (subst (λ (x : List ℕ). IsIn (only_place (first_step_found (outer_steps u) (with_this_name x (data_titles list)))) n) (sym same) is)) in
        subst (λ (l : List FoundDefinition). IsIn (only_place (first_step_found (outer_steps u) l)) n) (sym (whole ∙ ap (λ (l : List FoundDefinition). with_this_name name (data_titles list) ++ l) (one_named name f true e))) more
    by_name false e =
        subst (λ (l : List FoundDefinition). IsIn (only_place (first_step_found (outer_steps u) l)) n) (sym (whole ∙ ap (λ (l : List FoundDefinition). with_this_name name (data_titles list) ++ l) (one_named name f false e) ∙ append-nil (with_this_name name (data_titles list)))) is

-- a member whose title is beside none or several, or hides none or several
pub titled_opens : (list : List Member) (m : Member) (d : Definition) (private : Bool) (o : Matches) → data_title_of m.segment ≡ d ∷ [] → d.scope ≡ outer_scope private
    → (private ≡ true → SeesPlace (finds_data list m d.name) o) → (private ≡ false → SeesPlace (filter (is_seen_by_step Everyone) (with_this_name d.name (data_titles list))) o)
    → ((n : ℕ) → o ≡ One n → ⊥) → OpensNothing list m
unfolding finds_data
titled_opens list m d true o title scope own every other =
    title_stays list m d title (λ u n is. unit_stays u m (record { place = 1 + length list; member = m; definition = d }) (with_this_name d.name (data_titles list)) n refl scope
    (no_place (first_step_found (outer_steps m) (with_this_name d.name (data_titles list))) o (own refl) other) is)
titled_opens list m d false o title scope own every other =
    title_stays list m d title (λ u n is. all_stays u (record { place = 1 + length list; member = m; definition = d }) (with_this_name d.name (data_titles list)) n scope
    (no_place (filter (is_seen_by_step Everyone) (with_this_name d.name (data_titles list))) o (every refl) other) is)

-- ---- names

in_both : {A : Type 0} → (xs ys : List A) (x : A) → IsIn (xs ++ ys) x → IsIn xs x ⊎ IsIn ys x
in_both [] ys x is = inr is
in_both (y ∷ xs) ys x (inl e) = inl (inl e)
in_both {A} (y ∷ xs) ys x (inr is) = settle (in_both xs ys x is)
  where
    settle : IsIn xs x ⊎ IsIn ys x → IsIn (y ∷ xs) x ⊎ IsIn ys x
    settle (inl a) = inl (inr a)
    settle (inr b) = inr b

pub in_front : {A : Type 0} → (xs ys : List A) (x : A) → IsIn xs x → IsIn (xs ++ ys) x
in_front [] ys x is = absurd is
in_front (y ∷ xs) ys x (inl e) = inl e
in_front (y ∷ xs) ys x (inr is) = inr (in_front xs ys x is)

pub in_back : {A : Type 0} → (xs ys : List A) (x : A) → IsIn ys x → IsIn (xs ++ ys) x
in_back [] ys x is = is
in_back (y ∷ xs) ys x is = inr (in_back xs ys x is)

pub in_either : {A : Type 0} → (xs ys : List A) (x : A) → IsIn (xs ++ ys) x → IsIn xs x ⊎ IsIn ys x
in_either xs ys x is = in_both xs ys x is

places_stay : (f g : List ℕ → List ℕ) (names : List (List ℕ)) (n : ℕ) → ((name : List ℕ) → IsIn (f name) n → IsIn (g name) n) → IsIn (flat_map f names) n → IsIn (flat_map g names) n
places_stay f g [] n each is = is
places_stay f g (x ∷ names) n each is =
    subst (λ (l : List ℕ). IsIn l n) (sym (flat_map-cons g x names)) (settle (in_both (f x) (flat_map f names) n (subst (λ (l : List ℕ). IsIn l n) (flat_map-cons f x names) is)) (λ more. places_stay f g names n each more))
  where
    settle : IsIn (f x) n ⊎ IsIn (flat_map f names) n → (IsIn (flat_map f names) n → IsIn (flat_map g names) n) → IsIn (g x ++ flat_map g names) n
    settle (inl a) go = in_front (g x) (flat_map g names) n (each x a)
    settle (inr b) go = in_back (g x) (flat_map g names) n (go b)

used_stays : (list : List Member) (m u : Member) (n : ℕ) → OpensNothing list m → IsIn (used_data list u) n → IsIn (used_data (list ++ m ∷ []) u) n
unfolding used_data
used_stays list m u n opens is =
    places_stay (λ name. only_place (finds_data list u name)) (λ name. only_place (finds_data (list ++ m ∷ []) u name)) (usings_of u.segment) n (λ name. opens u name n) is

within_stays : (xs ys : List ℕ) (s : SearchStep) → ((n : ℕ) → IsIn xs n → IsIn ys n) → IsIn (map Within xs) s → IsIn (map Within ys) s
within_stays [] ys s each is = absurd is
within_stays (x ∷ xs) ys s each (inl e) = subst (IsIn (map Within ys)) e (in_map ys x (each x (inl refl)))
  where
    in_map : (ys : List ℕ) (n : ℕ) → IsIn ys n → IsIn (map Within ys) (Within n)
    in_map [] n is = absurd is
    in_map (y ∷ ys) n (inl p) = inl (ap Within p)
    in_map (y ∷ ys) n (inr more) = inr (in_map ys n more)
within_stays (x ∷ xs) ys s each (inr is) = within_stays xs ys s (λ n i. each n (inr i)) is

steps_stay : (list : List Member) (m u : Member) (place : ℕ) (s : SearchStep) → OpensNothing list m → IsIn (steps_of list place u) s → IsIn (steps_of (list ++ m ∷ []) place u) s
steps_stay list m u place s opens (inl e) = inl e
steps_stay list m u place s opens (inr is) = inr (settle (in_both (map Within (used_data list u)) (outer_steps u) s is))
  where
    settle : IsIn (map Within (used_data list u)) s ⊎ IsIn (outer_steps u) s → IsIn (map Within (used_data (list ++ m ∷ []) u) ++ outer_steps u) s
    settle (inl a) = in_front (map Within (used_data (list ++ m ∷ []) u)) (outer_steps u) s (within_stays (used_data list u) (used_data (list ++ m ∷ []) u) s (λ n. used_stays list m u n opens) a)
    settle (inr b) = in_back (map Within (used_data (list ++ m ∷ []) u)) (outer_steps u) s b

inside_before : (list : List Member) (m u : Member) (place : ℕ) (name : List ℕ) → OpensNothing list m → finds_inside (list ++ m ∷ []) place u name ≡ [] → finds_inside list place u name ≡ []
inside_before list m u place name opens e =
    let more = founds_in (1 + length list) m (defined_in m.segment) in
    none_before (steps_of list place u) (steps_of (list ++ m ∷ []) place u) (with_this_name name (entries list)) (with_this_name name more) (λ s is. steps_stay list m u place s opens is)
    (sym (ap (λ (l : List FoundDefinition). first_step_found (steps_of (list ++ m ∷ []) place u) l) (ap (with_this_name name) (entries_more list m) ∙ named-append name (entries list) more)) ∙ e)

both_nothing : (xs ys : List FoundDefinition) → or_else xs ys ≡ [] → (xs ≡ []) × (ys ≡ [])
both_nothing [] ys e = (refl, e)
both_nothing (x ∷ xs) ys e = absurd cc

-- no member after the others changes the setting, and without members there is no run-time library file
outside_before : (list : List Member) (m : Member) (name : List ℕ) → with_this_name name (outside (setting_in (list ++ m ∷ []))) ≡ [] → with_this_name name (outside (setting_in list)) ≡ []
unfolding with_this_name outside
outside_before [] m name e = refl
outside_before (x ∷ list) m name e = e

finds_before : (list : List Member) (m u : Member) (place : ℕ) (name : List ℕ) → OpensNothing list m → finds (list ++ m ∷ []) place u name ≡ [] → finds list place u name ≡ []
unfolding finds
finds_before list m u place name opens e =
    let both = both_nothing (finds_inside (list ++ m ∷ []) place u name) (with_this_name name (outside (setting_in (list ++ m ∷ [])))) e in
    ap (λ (l : List FoundDefinition). or_else l (with_this_name name (outside (setting_in list)))) (inside_before list m u place name opens both.0) ∙ outside_before list m name both.1

-- ---- uses

abbrev use_as : SearchKind → List ℕ → ℕ → Use
use_as want name at = record { want = want; name = name; at = at }

found_before : (list : List Member) (m u : Member) (place : ℕ) (want : SearchKind) (name : List ℕ) (at : ℕ) → OpensNothing list m → found_for (list ++ m ∷ []) place u (use_as want name at) ≡ [] → found_for list place u (use_as want name at) ≡ []
found_before list m u place wants.Data name at opens e = data_before list m u name e
found_before list m u place wants.One name at opens e = finds_before list m u place name opens e
found_before list m u place wants.Any name at opens e = finds_before list m u place name opens e

unless_stays : (found found' : List FoundDefinition) (row : Option Member) → (found' ≡ [] → found ≡ []) → unless_found found row ≡ None → unless_found found' row ≡ None
unless_stays found [] row before e = sym (ap (λ (f : List FoundDefinition). unless_found f row) (before refl)) ∙ e
unless_stays found (f ∷ found') row before e = refl

wants_nothing : (os : List Offer) (list : List Member) (m : Member) (a : PlacedUse) → OpensNothing list m → wanted_at os list a ≡ None → wanted_at os (list ++ m ∷ []) a ≡ None
wants_nothing os list m a opens e =
    unless_stays (found_for list a.place a.member a.use') (found_for (list ++ m ∷ []) a.place a.member a.use') (row_for os a.member a.use')
    (found_before list m a.member a.place a.use'.want a.use'.name a.use'.at opens) e

first_stays : {A B : Type 0} → (f g : A → Option B) (xs : List A) → ((x : A) → f x ≡ None → g x ≡ None) → first_some f xs ≡ None → first_some g xs ≡ None
first_stays f g [] each e = refl
first_stays {A} {B} f g (x ∷ xs) each e = settle (f x) refl e (λ rest. first_stays f g xs each rest)
  where
    settle : (o : Option B) → f x ≡ o → option_or o (first_some f xs) ≡ None → (first_some f xs ≡ None → first_some g xs ≡ None) → option_or (g x) (first_some g xs) ≡ None
    settle None is rest go = ap (λ (z : Option B). option_or z (first_some g xs)) (each x is) ∙ go rest
    settle (Some b) is rest go = absurd cc

-- uses that want nothing want nothing still
pub nothing_more : (os : List Offer) (list : List Member) (m : Member) (k : ℕ) → OpensNothing list m → k ≤ length (all_uses list) → WantsNothing os list k → WantsNothing os (list ++ m ∷ []) k
unfolding all_uses
nothing_more os list m k opens within none =
    let front : take k (asked_from 1 (list ++ m ∷ [])) ≡ take k (asked_from 1 list) =
    ap (take k) (asked_from-snoc 1 list m) ∙ take-append-le k (asked_from 1 list) (uses_at (1 + length list) m (uses_of m.segment)) within in
    ap (first_some (wanted_at os (list ++ m ∷ []))) front ∙ first_stays (wanted_at os list) (wanted_at os (list ++ m ∷ [])) (take k (asked_from 1 list)) (λ a. wants_nothing os list m a opens) none

pub asked_grows : (list : List Member) (m : Member) → length (all_uses list) ≤ length (all_uses (list ++ m ∷ []))
unfolding all_uses
asked_grows list m = omega (arith, ap length (asked_from-snoc 1 list m), length-append (asked_from 1 list) (uses_at (1 + length list) m (uses_of m.segment)))
