-- Equates without cycles have their values.
use Rattle.std.proofs.Common.{◌⊎◌, inl, inr, ℕ, List, [], ◌∷◌, ◌++◌, Result, refl, sym, subst}
use Rattle.std.specs.Prelude.{filter}
use Rattle.std.specs.List.{flat_map}
use Rattle.std.proofs.lemmas.List.Concat.{flat_map-cons}
use Rattle.omf_format.specs.declared.value.Value.{Value}
use Rattle.omf_format.specs.declared.value.ValueFault.{ValueFault}
use Rattle.link_meaning.specs.First.{IsIn}
use Rattle.link_meaning.specs.laws.MemberLists.{in_filter, filter_in}
use Rattle.link_meaning.specs.Member.{Member}
use Rattle.link_meaning.specs.Search.{FoundDefinition, finds}
use Rattle.link_meaning.specs.Cycles.{is_equate, equates, LeadsTo, IsCircular}
use Rattle.link_meaning.specs.laws.Steps.{names_in}
use Rattle.link_meaning.specs.LinkValues.{EquateAnswer, equate_value, IsTable}
use Rattle.link_meaning.specs.laws.TableLaws.{in_equates, by_cycles}
use Rattle.link_meaning.specs.EquateValues.{HasValue, ByOthers, GiveValues, AreApart, TableWithoutCycles}
use Rattle.link_meaning.specs.laws.EquateValueLaws.{reports, are_table}
use Rattle.link_meaning.specs.laws.EquatePlaces.{passes_filter, apart}

-- an equate has some value
abbrev IsValued : List Member → FoundDefinition → Type 0
IsValued list e = (a : Result Value ValueFault) × HasValue list e a

-- rows for equates that have values
rows_for : (list : List Member) (es : List FoundDefinition) → ((e : FoundDefinition) → IsIn es e → IsValued list e) → (rows : List EquateAnswer) × GiveValues list es rows
rows_for list [] each = ([], tt)
rows_for list (e ∷ es) each =
    let own = each e (inl refl) in
    let rest = rows_for list es (λ f is. each f (inr is)) in
    (record { place = e.place; at = e.definition.at; answer = own.0 } ∷ rest.0, (refl, refl, own.1, rest.1))

-- ---- the equates to which one leads

in_front : {A : Type 0} (xs ys : List A) (x : A) → IsIn xs x → IsIn (xs ++ ys) x
in_front [] ys x is = absurd is
in_front (y ∷ xs) ys x (inl e) = inl e
in_front (y ∷ xs) ys x (inr more) = inr (in_front xs ys x more)

in_back : {A : Type 0} (xs ys : List A) (x : A) → IsIn ys x → IsIn (xs ++ ys) x
in_back [] ys x is = is
in_back (y ∷ xs) ys x is = inr (in_back xs ys x is)

in_flat : (f : List ℕ → List FoundDefinition) (names : List (List ℕ)) (name : List ℕ) (x : FoundDefinition) → IsIn names name → IsIn (f name) x → IsIn (flat_map f names) x
in_flat f [] name x is found = absurd is
in_flat f (n ∷ names) name x (inl e) found =
    subst (λ (l : List FoundDefinition). IsIn l x) (sym (flat_map-cons f n names)) (in_front (f n) (flat_map f names) x (subst (λ (m : List ℕ). IsIn (f m) x) (sym e) found))
in_flat f (n ∷ names) name x (inr more) found =
    subst (λ (l : List FoundDefinition). IsIn l x) (sym (flat_map-cons f n names)) (in_back (f n) (flat_map f names) x (in_flat f names name x more found))

split : {A : Type 0} (xs ys : List A) (x : A) → IsIn (xs ++ ys) x → IsIn xs x ⊎ IsIn ys x
split [] ys x is = inr is
split (y ∷ xs) ys x (inl e) = inl (inl e)
split (y ∷ xs) ys x (inr more) = elim (split xs ys x more) [
  | inl h ↦ inl (inr h)
  | inr h ↦ inr h
]

of_flat : (f : List ℕ → List FoundDefinition) (names : List (List ℕ)) (x : FoundDefinition) → IsIn (flat_map f names) x → (name : List ℕ) × IsIn names name × IsIn (f name) x
of_flat f [] x is = absurd is
of_flat f (n ∷ names) x is = elim (split (f n) (flat_map f names) x (subst (λ (l : List FoundDefinition). IsIn l x) (flat_map-cons f n names) is)) [
  | inl h ↦ (n, inl refl, h)
  | inr h ↦ let rest = of_flat f names x h in (rest.0, inr rest.1, rest.2)
]

abbrev names_of : FoundDefinition → List (List ℕ)
names_of e = names_in e.member.segment.fields.lab_len e.definition.expr

led : List Member → FoundDefinition → List FoundDefinition
led list e = filter is_equate (flat_map (λ name. finds list e.place e.member name) (names_of e))

led_to : (list : List Member) (e f : FoundDefinition) → LeadsTo list e f → IsIn (led list e) f
unfolding led
led_to list e f leads =
    filter_in is_equate (flat_map (λ name. finds list e.place e.member name) (names_of e)) f (in_flat (λ name. finds list e.place e.member name) (names_of e) leads.name f leads.asked leads.found) leads.equate

led_leads : (list : List Member) (e f : FoundDefinition) → IsIn (led list e) f → LeadsTo list e f
unfolding led
led_leads list e f is =
    let all = flat_map (λ name. finds list e.place e.member name) (names_of e) in
    let found = of_flat (λ name. finds list e.place e.member name) (names_of e) f (in_filter is_equate all f is) in
    record { name = found.0; asked = found.1; found = found.2; equate = passes_filter is_equate all f is }

-- ---- the values

module _ (list : List Member) (are_apart : AreApart (equates list)) (straight : (e : FoundDefinition) → IsIn (equates list) e → IsCircular list e → ⊥) where
  by_led : (e : FoundDefinition) → IsIn (equates list) e → ((f : FoundDefinition) → LeadsTo list e f → IsValued list f) → IsValued list e
  by_led e is go =
      let rows = rows_for list (led list e) (λ f there. go f (led_leads list e f there)) in (
        equate_value list rows.0 e,
        ByOthers e rows.0 (equate_value list rows.0 e) refl
            (λ f leads. reports list (led list e) rows.0 f rows.1 (led_to list e f leads)
            (λ g there place at. are_apart g f (in_equates list e g (led_leads list e g there)) (in_equates list e f leads) place at)),
      )

  table : (rows : List EquateAnswer) × IsTable list rows
  table =
      let rows = rows_for list (equates list) (by_cycles list (IsValued list) straight by_led) in
      (rows.0, are_table list rows.0 rows.1 are_apart)

-- Equates that don't lead back to themselves have their values.
pub table_without_cycles : TableWithoutCycles
table_without_cycles files list bytes resolved straight = table list (apart files list bytes resolved) straight
