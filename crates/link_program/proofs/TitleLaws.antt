-- Tables of titles, and one more title.
use Rattle.std.proofs.Common.{◌≡◌, ℕ, Bool, true, false, List, [], ◌∷◌, ◌++◌, None, refl, sym, ap, subst, ◌∙◌, append-nil}
use Rattle.std.specs.Prelude.{filter, if◌then◌else◌}
use Rattle.std.proofs.lemmas.Bool.{eq-eqb, ne_eqb}
use Rattle.std.proofs.lemmas.List.{map-append}
use Rattle.omf_format.specs.Header.{form_of, is_private}
use Rattle.omf_format.specs.File.{Segment}
use Rattle.link_meaning.specs.declared.search.SearchStep.{SearchStep}
use Rattle.object_meaning.specs.Defines.{Definition, outer_scope, title_of, data_title_of}
use Rattle.link_meaning.specs.Member.{Member}
use Rattle.link_meaning.specs.declared.search.SearchStep.TheVariants.{Everyone}
use Rattle.link_meaning.specs.Search.{FoundDefinition, step_for, with_this_name, data_titles, finds_data}
use Rattle.link_meaning.specs.laws.Steps.{is_seen_by_step}
use Rattle.link_tables.specs.declared.names.Matches.{Matches}
use Rattle.link_tables.specs.declared.names.Matches.TheVariants.{One}
use Rattle.link_program.specs.Opening.{OpensNothing}
use Rattle.link_tables.specs.declared.names.NameTable.{NameTable}
use Rattle.link_tables.specs.declared.definitions.Origin.{Origin}
use Rattle.link_tables.specs.Names.{Named, Row, Indexes}
use Rattle.link_tables.specs.Definitions.{key_of_found, founds_in}
use Rattle.link_program.specs.Linked.{place_rows, GainsTitle, SeesPlace}
use Rattle.link_program.proofs.OpeningLaws.{none_titled_opens, titled_opens}

none_gained : (titles : NameTable) (origin : Origin) (place : ℕ) (ds : List Definition) → ds ≡ [] → GainsTitle titles titles origin place ds
none_gained titles origin place ds none fs m of ix =
    let whole : fs ≡ fs ++ founds_in place m ds = sym (append-nil fs) ∙ ap (λ (l : List Definition). fs ++ founds_in place m l) (sym none) in
    subst (λ (l : List FoundDefinition). Indexes (place_rows l) titles) whole ix

-- a segment that isn't one of data has none
pub no_data : (titles : NameTable) (origin : Origin) (place : ℕ) (s : Segment) (form : ℕ) → form ≡ form_of s.fields.kind → (form ≡ 0x01 → ⊥) → GainsTitle titles titles origin place (data_title_of s)
unfolding data_title_of
no_data titles origin place s form is other =
    none_gained titles origin place (data_title_of s) (ap (λ (b : Bool). if b then title_of s else []) (ne_eqb (form_of s.fields.kind) 0x01 (λ e. other (is ∙ e))))

of_data : (s : Segment) (form : ℕ) → form ≡ form_of s.fields.kind → form ≡ 0x01 → data_title_of s ≡ title_of s
unfolding data_title_of
of_data s form is data' = ap (λ (b : Bool). if b then title_of s else []) (eq-eqb (form_of s.fields.kind) 0x01 (sym is ∙ data'))

-- nor has one without a name
pub no_name : (titles : NameTable) (origin : Origin) (place : ℕ) (s : Segment) (form : ℕ) (name : List ℕ) → form ≡ form_of s.fields.kind → form ≡ 0x01 → name ≡ s.fields.name → name ≡ [] → GainsTitle titles titles origin place (data_title_of s)
unfolding title_of
no_name titles origin place s form name is data' with_this_name none = none_gained titles origin place (data_title_of s) (of_data s form is data' ∙ by_name s.fields.name (sym with_this_name ∙ none))
  where
    by_name : (n : List ℕ) → n ≡ [] → (elim n as (λ n. List Definition) [
      | [] ↦ []
      | b ∷ bs ↦ record { name = b ∷ bs; scope = outer_scope (is_private s.fields.kind); place = 0; at = s.start; expr = None; size = 0; form = 0x4E } ∷ []
    ]) ≡ []
    by_name [] e = refl
    by_name (b ∷ bs) e = absurd cc

abbrev key_as : SearchStep → List ℕ → Named
key_as t n = record { step = t; name = n }

pub gained : (old new : NameTable) (origin : Origin) (place : ℕ) (s : Segment) (form : ℕ) (name : List ℕ) (private : Bool) (step : SearchStep) → form ≡ form_of s.fields.kind → form ≡ 0x01 → name ≡ s.fields.name → (name ≡ [] → ⊥)
    → private ≡ is_private s.fields.kind → ((p : ℕ) → step ≡ step_for p origin.file origin.from (outer_scope private))
    → ((rows : List Row) → Indexes rows old → Indexes (rows ++ (record { step = step; name = name }, place) ∷ []) new) → GainsTitle old new origin place (data_title_of s)
unfolding title_of
gained old new origin place s form name private step is data' with_this_name some hidden step_is more =
    subst (GainsTitle old new origin place) (sym (of_data s form is data')) (by_name s.fields.name (sym with_this_name) (λ e. some (with_this_name ∙ e)))
  where
    by_name : (n : List ℕ) → n ≡ name → (n ≡ [] → ⊥) → GainsTitle old new origin place (elim n as (λ n. List Definition) [
      | [] ↦ []
      | b ∷ bs ↦ record { name = b ∷ bs; scope = outer_scope (is_private s.fields.kind); place = 0; at = s.start; expr = None; size = 0; form = 0x4E } ∷ []
    ])
    by_name [] e full = absurd (full refl)
    by_name (b ∷ bs) e full = λ fs m of ix.
        let f : FoundDefinition = record { place = place; member = m; definition = record { name = b ∷ bs; scope = outer_scope (is_private s.fields.kind); place = 0; at = s.start; expr = None; size = 0; form = 0x4E } } in
        let key : key_as step name ≡ key_of_found f =
        ap (λ (n : List ℕ). key_as step n) (sym e)
        ∙ ap (λ (t : SearchStep). key_as t (b ∷ bs)) (step_is place
        ∙ ap (λ (h : Bool). step_for place origin.file origin.from (outer_scope h)) hidden
        ∙ ap (λ (n : ℕ). step_for place n origin.from (outer_scope (is_private s.fields.kind))) (sym of.0)
        ∙ ap (λ (n : ℕ). step_for place m.file n (outer_scope (is_private s.fields.kind))) (sym of.2)) in
        let rows : place_rows fs ++ (key_as step name, place) ∷ [] ≡ place_rows (fs ++ f ∷ []) =
        ap (λ (k : Named). place_rows fs ++ (k, place) ∷ []) key ∙ sym (map-append (λ (x : FoundDefinition). (key_of_found x, x.place)) fs (f ∷ [])) in
        subst (λ (l : List Row). Indexes l new) rows (more (place_rows fs) ix)

-- ---- whether a member may open a use again

title_is : (s : Segment) (form : ℕ) (name : List ℕ) → form ≡ form_of s.fields.kind → form ≡ 0x01 → name ≡ s.fields.name → (name ≡ [] → ⊥) → (d : Definition) × (data_title_of s ≡ d ∷ []) × (d.name ≡ name) × (d.scope ≡ outer_scope (is_private s.fields.kind))
unfolding title_of
title_is s form name is data' with_this_name some = by_name s.fields.name (sym with_this_name) (of_data s form is data')
  where
    by_name : (n : List ℕ) → n ≡ name → data_title_of s ≡ (elim n as (λ n. List Definition) [
      | [] ↦ []
      | b ∷ bs ↦ record { name = b ∷ bs; scope = outer_scope (is_private s.fields.kind); place = 0; at = s.start; expr = None; size = 0; form = 0x4E } ∷ []
    ]) → (d : Definition) × (data_title_of s ≡ d ∷ []) × (d.name ≡ name) × (d.scope ≡ outer_scope (is_private s.fields.kind))
    by_name [] e titles = absurd (some (sym e))
    by_name (b ∷ bs) e titles = (record { name = b ∷ bs; scope = outer_scope (is_private s.fields.kind); place = 0; at = s.start; expr = None; size = 0; form = 0x4E }, titles, e, refl)

none_titled : (s : Segment) (form : ℕ) (name : List ℕ) → form ≡ form_of s.fields.kind → form ≡ 0x01 → name ≡ s.fields.name → name ≡ [] → data_title_of s ≡ []
unfolding title_of
none_titled s form name is data' with_this_name none = of_data s form is data' ∙ by_name s.fields.name (sym with_this_name ∙ none)
  where
    by_name : (n : List ℕ) → n ≡ [] → (elim n as (λ n. List Definition) [
      | [] ↦ []
      | b ∷ bs ↦ record { name = b ∷ bs; scope = outer_scope (is_private s.fields.kind); place = 0; at = s.start; expr = None; size = 0; form = 0x4E } ∷ []
    ]) ≡ []
    by_name [] e = refl
    by_name (b ∷ bs) e = absurd cc

pub code_opens_nothing : (list : List Member) (m : Member) (s : Segment) (form : ℕ) → m.segment ≡ s → form ≡ form_of s.fields.kind → (form ≡ 0x01 → ⊥) → OpensNothing list m
unfolding data_title_of
code_opens_nothing list m s form same is other =
    none_titled_opens list m (ap data_title_of same ∙ ap (λ (b : Bool). if b then title_of s else []) (ne_eqb (form_of s.fields.kind) 0x01 (λ e. other (is ∙ e))))

pub unnamed_opens_nothing : (list : List Member) (m : Member) (s : Segment) (form : ℕ) (name : List ℕ) → m.segment ≡ s → form ≡ form_of s.fields.kind → form ≡ 0x01 → name ≡ s.fields.name → name ≡ [] → OpensNothing list m
unnamed_opens_nothing list m s form name same is data' with_this_name none = none_titled_opens list m (ap data_title_of same ∙ none_titled s form name is data' with_this_name none)

pub title_opens_nothing : (list : List Member) (m : Member) (s : Segment) (form : ℕ) (name : List ℕ) (private : Bool) (answer : Matches) → m.segment ≡ s → form ≡ form_of s.fields.kind → form ≡ 0x01 → name ≡ s.fields.name
    → (name ≡ [] → ⊥) → private ≡ is_private s.fields.kind → (private ≡ true → SeesPlace (finds_data list m name) answer)
    → (private ≡ false → SeesPlace (filter (is_seen_by_step Everyone) (with_this_name name (data_titles list))) answer) → ((n : ℕ) → answer ≡ One n → ⊥) → OpensNothing list m
title_opens_nothing list m s form name private answer same is data' named_so some hidden own every other =
    let d = title_is s form name is data' named_so some in
    titled_opens list m d.0 private answer (ap data_title_of same ∙ d.1) (d.3 ∙ ap outer_scope (sym hidden))
    (λ e. subst (λ (n : List ℕ). SeesPlace (finds_data list m n) answer) (sym d.2) (own e))
    (λ e. subst (λ (n : List ℕ). SeesPlace (filter (is_seen_by_step Everyone) (with_this_name n (data_titles list))) answer) (sym d.2) (every e)) other
