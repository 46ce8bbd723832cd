-- A member that is wanted isn't in the list yet, where each row's segment defines the row's name.
use Rattle.std.proofs.Common.{◌≡◌, ◌⊎◌, inl, inr, ℕ, ◌+◌, Bool, true, false, List, [], ◌∷◌, ◌++◌, Option, Some, None, refl, sym, ap, subst, ◌∙◌}
use Rattle.std.specs.Prelude.{◌&&◌, ◌||◌, not, filter, map, ◌==◌, if◌then◌else◌}
use Rattle.std.specs.Option.{option_or}
use Rattle.std.specs.List.{list_any}
use Rattle.std.specs.Str.{bytes_eq}
use Rattle.link_meaning.specs.Member.{Member, Offer, setting_in}
use Rattle.object_meaning.specs.Defines.{is_data, Scope, Definition, outer_scope, title_of, data_title_of, defined_in}
use Rattle.omf_format.specs.Header.{is_private}
use Rattle.omf_format.specs.File.{Segment}
use Rattle.link_meaning.specs.First.{IsIn}
use Rattle.std.proofs.lemmas.Bool.{eq-eqb, eqb-true}
use Rattle.link_meaning.specs.laws.MemberLists.{filter_in}
use Rattle.link_meaning.specs.declared.search.SearchStep.{SearchStep}
use Rattle.link_meaning.specs.declared.search.SearchStep.TheVariants.{Within, OfUnit, Everyone}
use Rattle.link_meaning.specs.Search.{FoundDefinition, step_for, is_step, or_else, first_step_found, outer_steps, used_data, entries_from, entries, with_this_name, finds, finds_data, data_titles, outside}
use Rattle.link_meaning.specs.declared.search.SearchKind.TheVariants.{Data, One}
use Rattle.link_meaning.specs.Uses.{Use}
use Rattle.link_meaning.specs.LinkedList.{has_title, counts_for, first_offer, row_for}
use Rattle.link_meaning.specs.laws.Steps.{is_of_member, steps_of, is_seen_by_step, finds_inside}

-- nothing decided: no step has anything
abbrev pub AllNone : List SearchStep → List FoundDefinition → Type 0
AllNone [] all = Unit {0}
AllNone (s ∷ steps) all = (filter (is_seen_by_step s) all ≡ []) × AllNone steps all

pub none_decided : (steps : List SearchStep) (all : List FoundDefinition) → first_step_found steps all ≡ [] → AllNone steps all
none_decided [] all e = tt
none_decided (s ∷ steps) all e = settle (filter (is_seen_by_step s) all) refl e (λ rest. none_decided steps all rest)
  where
    settle : (found : List FoundDefinition) → filter (is_seen_by_step s) all ≡ found → or_else found (first_step_found steps all) ≡ [] → (first_step_found steps all ≡ [] → AllNone steps all)
        → (filter (is_seen_by_step s) all ≡ []) × AllNone steps all
    settle [] is e go = (is, go e)
    settle (f ∷ found) is e go = absurd cc

pub none_after : (front back : List SearchStep) (all : List FoundDefinition) → AllNone (front ++ back) all → AllNone back all
none_after [] back all none = none
none_after (s ∷ front) back all none = none_after front back all none.1

abbrev pub found_at : ℕ → Member → Definition → FoundDefinition
found_at place m d = record { place = place; member = m; definition = d }

-- what a member defines is among the entries
pub entry_in : (defines : Segment → List Definition) (place : ℕ) (list : List Member) (m : Member) (d : Definition) → IsIn list m → IsIn (defines m.segment) d
    → (p : ℕ) × IsIn (entries_from defines place list) (found_at p m d)
entry_in defines place [] m d there is = absurd there
entry_in defines place (x ∷ list) m d (inl same) is = (
  place,
  in_front (map (λ e. found_at place x e) (defines x.segment)) (entries_from defines (place + 1) list) (found_at place m d)
      (subst (λ (y : Member). IsIn (map (λ e. found_at place x e) (defines x.segment)) (found_at place y d)) same
      (in_map (defines x.segment) (subst (λ (y : Member). IsIn (defines y.segment) d) (sym same) is))),
)
  where
    in_map : (ds : List Definition) → IsIn ds d → IsIn (map (λ e. found_at place x e) ds) (found_at place x d)
    in_map [] is = absurd is
    in_map (e ∷ ds) (inl p) = inl (ap (λ (y : Definition). found_at place x y) p)
    in_map (e ∷ ds) (inr more) = inr (in_map ds more)

    in_front : (xs ys : List FoundDefinition) (f : FoundDefinition) → IsIn xs f → IsIn (xs ++ ys) f
    in_front [] ys f is = absurd is
    in_front (y ∷ xs) ys f (inl p) = inl p
    in_front (y ∷ xs) ys f (inr more) = inr (in_front xs ys f more)
entry_in defines place (x ∷ list) m d (inr more) is =
    let rest = entry_in defines (place + 1) list m d more is in
    (rest.0, following (map (λ e. found_at place x e) (defines x.segment)) (entries_from defines (place + 1) list) (found_at rest.0 m d) rest.1)
  where
    following : (xs ys : List FoundDefinition) (f : FoundDefinition) → IsIn ys f → IsIn (xs ++ ys) f
    following [] ys f is = is
    following (y ∷ xs) ys f is = inr (following xs ys f is)

-- ---- what is defined for a member's unit or for all is found

not_empty : (xs : List FoundDefinition) (f : FoundDefinition) → IsIn xs f → xs ≡ [] → ⊥
not_empty [] f is e = is
not_empty (x ∷ xs) f is e = absurd cc

pub seen_is_found : (s : SearchStep) (all : List FoundDefinition) (f : FoundDefinition) → IsIn all f → is_seen_by_step s f ≡ true → filter (is_seen_by_step s) all ≡ [] → ⊥
seen_is_found s all f is sees' none = not_empty (filter (is_seen_by_step s) all) f (filter_in (is_seen_by_step s) all f is sees') none

-- a definition with a row's privacy, in the row's member, where neither the unit's nor the public step finds anything: there is none
pub not_there : (m u : Member) (private : Bool) (d : Definition) (all : List FoundDefinition) (p : ℕ) → IsIn all (found_at p m d) → d.scope ≡ outer_scope private
    → ((m.file ≡ u.file) × (m.from ≡ u.from)) ⊎ (private ≡ false) → AllNone (outer_steps u) all → ⊥
not_there m u false d all p is scope way none =
    seen_is_found Everyone all (found_at p m d) is (ap (λ (x : Scope). is_step Everyone (step_for p m.file m.from x)) scope) none.1.0
not_there m u true d all p is scope (inr e) none = let clash : true ≡ false = e in cc
not_there m u true d all p is scope (inl same) none =
    seen_is_found (OfUnit u.file u.from) all (found_at p m d) is pass none.0
  where
    pass : is_seen_by_step (OfUnit u.file u.from) (found_at p m d) ≡ true
    pass = rw (scope, eq-eqb u.file m.file (sym same.0), eq-eqb u.from m.from (sym same.1)) refl

-- ---- rows

both_true : (a b : Bool) → (a && b) ≡ true → (a ≡ true) × (b ≡ true)
both_true true b e = (refl, e)
both_true false b e = let clash : false ≡ true = e in absurd cc

-- a row that was chosen: it passes the test, and it has the member
pub record IsChosen (offers : List Offer) (test : Offer → Bool) (m : Member) : Type 0 where
  pub offer : Offer
  pub among : IsIn offers offer
  pub passes : test offer ≡ true
  pub member : offer.member ≡ m

abbrev some : Member → Option Member
some m = Some m

one_member : (a b : Member) → some a ≡ some b → a ≡ b
one_member a b e = cc

chosen : (test : Offer → Bool) (offers : List Offer) (m : Member) → first_offer test offers ≡ Some m → IsChosen offers test m
chosen test [] m e = absurd cc
chosen test (o ∷ offers) m e = by_test (test o) refl e (λ rest. chosen test offers m rest)
  where
    by_test : (t : Bool) → test o ≡ t → (if t then Some o.member else first_offer test offers) ≡ Some m
        → (first_offer test offers ≡ Some m → IsChosen offers test m) → IsChosen (o ∷ offers) test m
    by_test true is e go = record { offer = o; among = inl refl; passes = is; member = one_member o.member m e }
    by_test false is e go = let rest = go e in record { offer = rest.offer; among = inr rest.among; passes = rest.passes; member = rest.member }

-- each row's segment defines the row's name with the row's privacy
abbrev pub AreSound : List Offer → Type 0
AreSound offers = (o : Offer) → IsIn offers o → (d : Definition) × IsIn (defined_in o.member.segment) d × (d.name ≡ o.name) × (d.scope ≡ outer_scope o.private)

-- the row counts for the use, and is private in the user's unit or not private
pub record IsRowFor (offers : List Offer) (u : Member) (use' : Use) (m : Member) : Type 0 where
  pub offer : Offer
  pub among : IsIn offers offer
  pub counts : counts_for use' offer ≡ true
  pub member : offer.member ≡ m
  pub way : ((m.file ≡ u.file) × (m.from ≡ u.from)) ⊎ (offer.private ≡ false)

row_is : (offers : List Offer) (u : Member) (use' : Use) (m : Member) → row_for offers u use' ≡ Some m → IsRowFor offers u use' m
unfolding row_for
row_is offers u use' m e = settle (first_offer (λ o. counts_for use' o && is_of_member u o) offers) refl e
  where
    private : (o : Offer) → is_of_member u o ≡ true → (o.member.file ≡ u.file) × (o.member.from ≡ u.from)
    private o is =
        let a = both_true (o.private && u.file == o.member.file) (u.from == o.member.from) is in
        let b = both_true o.private (u.file == o.member.file) a.0 in
        (sym (eqb-true u.file o.member.file b.1), sym (eqb-true u.from o.member.from a.1))

    negated : (b : Bool) → not b ≡ true → b ≡ false
    negated true e = let clash : false ≡ true = e in absurd cc
    negated false e = refl

    settle : (x : Option Member) → first_offer (λ o. counts_for use' o && is_of_member u o) offers ≡ x
        → option_or x (first_offer (λ o. counts_for use' o && not o.private) offers) ≡ Some m → IsRowFor offers u use' m
    settle (Some n) is e =
        let c = chosen (λ o. counts_for use' o && is_of_member u o) offers m (is ∙ e) in
        let tests = both_true (counts_for use' c.offer) (is_of_member u c.offer) c.passes in
        let same = private c.offer tests.1 in
        record {
          offer = c.offer;
          among = c.among;
          counts = tests.0;
          member = c.member;
          way = inl (ap (λ (x : Member). x.file) (sym c.member) ∙ same.0, ap (λ (x : Member). x.from) (sym c.member) ∙ same.1);
        }
    settle None is e =
        let c = chosen (λ o. counts_for use' o && not o.private) offers m e in
        let tests = both_true (counts_for use' c.offer) (not c.offer.private) c.passes in
        record { offer = c.offer; among = c.among; counts = tests.0; member = c.member; way = inr (negated c.offer.private tests.1) }

none_first : (xs ys : List FoundDefinition) → or_else xs ys ≡ [] → xs ≡ []
none_first [] ys e = refl
none_first (x ∷ xs) ys e = let clash : x ∷ xs ≡ [] = e in absurd cc

-- an ordinary use that finds nothing has no row whose member is in the list
pub fresh_name : (offers : List Offer) (list : List Member) (place : ℕ) (u m : Member) (name : List ℕ) (at : ℕ) → AreSound offers
    → finds list place u name ≡ [] → row_for offers u (record { want = One; name = name; at = at }) ≡ Some m → IsIn list m → ⊥
unfolding finds with_this_name entries
fresh_name offers list place u m name at sound none row there =
    let r = row_is offers u (record { want = One; name = name; at = at }) m row in
    let d = sound r.offer r.among in
    let named' = both_true (bytes_eq name r.offer.name) true r.counts in
    let inside : IsIn (defined_in m.segment) d.0 = subst (λ (x : Member). IsIn (defined_in x.segment) d.0) r.member d.1 in
    let entry = entry_in defined_in 1 list m d.0 there inside in
    let passes : bytes_eq name d.0.name ≡ true = ap (λ (n : List ℕ). bytes_eq name n) d.2 ∙ named'.0 in
    let among = filter_in (λ (f : FoundDefinition). bytes_eq name f.definition.name) (entries list) (found_at entry.0 m d.0) entry.1 passes in
    let steps = none_decided (steps_of list place u) (with_this_name name (entries list)) (none_first (finds_inside list place u name) (with_this_name name (outside (setting_in list))) none) in
    not_there m u r.offer.private d.0 (with_this_name name (entries list)) entry.0 among d.3 r.way
    (none_after (map Within (used_data list u)) (outer_steps u) (with_this_name name (entries list)) steps.1)

any_is : (p : Definition → Bool) (ds : List Definition) → list_any p ds ≡ true → (d : Definition) × IsIn ds d × (p d ≡ true)
any_is p [] e = let clash : false ≡ true = e in absurd cc
any_is p (d ∷ ds) e = by_test (p d) refl e (λ more. any_is p ds more)
  where
    by_test : (t : Bool) → p d ≡ t → (t || list_any p ds) ≡ true → (list_any p ds ≡ true → (d' : Definition) × IsIn ds d' × (p d' ≡ true))
        → (d' : Definition) × IsIn (d ∷ ds) d' × (p d' ≡ true)
    by_test true is e go = (d, inl refl, is)
    by_test false is e go = let rest = go e in (rest.0, inr rest.1, rest.2)

-- a data segment's title has the segment's privacy
title_scope : (s : Segment) (d : Definition) → IsIn (data_title_of s) d → d.scope ≡ outer_scope (is_private s.fields.kind)
unfolding data_title_of title_of
title_scope s d is = by_data (is_data s) is
  where
    by_name : (name : List ℕ) → IsIn (elim name as (λ n. List Definition) [
      | [] ↦ []
      | b ∷ bs ↦ record { name = b ∷ bs; scope = outer_scope (is_private s.fields.kind); place = 0; at = s.start; expr = None; size = 0; form = 0x4E } ∷ []
    ]) d → d.scope ≡ outer_scope (is_private s.fields.kind)
    by_name [] is = absurd is
    by_name (b ∷ bs) (inl e) = ap (λ (x : Definition). x.scope) (sym e)
    by_name (b ∷ bs) (inr more) = absurd more

    by_data : (t : Bool) → IsIn (if t then title_of s else []) d → d.scope ≡ outer_scope (is_private s.fields.kind)
    by_data true is = by_name s.fields.name is
    by_data false is = absurd is

same_privacy : (private is : Bool) → (if private then is else not is) ≡ true → is ≡ private
same_privacy true is e = e
same_privacy false true e = let clash : false ≡ true = e in absurd cc
same_privacy false false e = refl

-- a USING that finds nothing has no row whose member is in the list
pub fresh_data : (offers : List Offer) (list : List Member) (u m : Member) (name : List ℕ) (at : ℕ)
    → finds_data list u name ≡ [] → row_for offers u (record { want = Data; name = name; at = at }) ≡ Some m → IsIn list m → ⊥
unfolding finds_data with_this_name data_titles
fresh_data offers list u m name at none row there =
    let r = row_is offers u (record { want = Data; name = name; at = at }) m row in
    let tests = both_true (bytes_eq name r.offer.name) (has_title r.offer.member.segment name r.offer.private) r.counts in
    let title : has_title m.segment name r.offer.private ≡ true = subst (λ (x : Member). has_title x.segment name r.offer.private ≡ true) r.member tests.1 in
    let parts = both_true (list_any (λ (d : Definition). bytes_eq name d.name) (data_title_of m.segment))
    (if r.offer.private then is_private m.segment.fields.kind else not (is_private m.segment.fields.kind)) title in
    let d = any_is (λ (x : Definition). bytes_eq name x.name) (data_title_of m.segment) parts.0 in
    let privacy = same_privacy r.offer.private (is_private m.segment.fields.kind) parts.1 in
    let scope : d.0.scope ≡ outer_scope r.offer.private = title_scope m.segment d.0 d.1 ∙ ap outer_scope privacy in
    let entry = entry_in data_title_of 1 list m d.0 there d.1 in
    let among = filter_in (λ (f : FoundDefinition). bytes_eq name f.definition.name) (data_titles list) (found_at entry.0 m d.0) entry.1 d.2 in
    not_there m u r.offer.private d.0 (with_this_name name (data_titles list)) entry.0 among scope r.way
    (none_decided (outer_steps u) (with_this_name name (data_titles list)) none)
