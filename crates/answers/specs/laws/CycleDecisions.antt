-- Whether an equate leads back to itself.
use Rattle.std.proofs.Common.{◌≡◌, ◌⊎◌, inl, inr, ℕ, Bool, true, false, eqb, List, [], ◌∷◌, refl, sym, ap, subst, ◌∙◌}
use Rattle.std.proofs.lemmas.Bool.{eqb-true, eq-eqb}
use Rattle.link_meaning.specs.First.{IsIn}
use Rattle.link_meaning.specs.Member.{Member}
use Rattle.link_meaning.specs.Search.{FoundDefinition, finds}
use Rattle.link_meaning.specs.Cycles.{is_equate, equates, LeadsTo, Path, Last, Through, IsCircular}
use Rattle.link_meaning.specs.EquateValues.{AreApart}
use Rattle.link_meaning.specs.laws.Steps.{names_in}
use Rattle.link_meaning.specs.laws.TableLaws.{in_equates}
use Rattle.answers.specs.laws.Decisions.{Decided, is_it, search}

true_false : true ≡ false → ⊥
true_false e = cc

module _ (list : List Member) (are_apart : AreApart (equates list)) where
  -- by place and displacement
  same_equate : (e f : FoundDefinition) → IsIn (equates list) e → IsIn (equates list) f → Decided (e ≡ f)
  same_equate e f is other = by_place (eqb e.place f.place) (eqb e.definition.at f.definition.at) refl refl
    where
      by_place : (b c : Bool) → eqb e.place f.place ≡ b → eqb e.definition.at f.definition.at ≡ c → Decided (e ≡ f)
      by_place true true p q = inl (are_apart e f is other (eqb-true e.place f.place p) (eqb-true e.definition.at f.definition.at q))
      by_place true false p q = inr (λ same. true_false (sym (eq-eqb e.definition.at f.definition.at (ap (λ (x : FoundDefinition). x.definition.at) same)) ∙ q))
      by_place false c p q = inr (λ same. true_false (sym (eq-eqb e.place f.place (ap (λ (x : FoundDefinition). x.place) same)) ∙ p))

  abbrev names_of : FoundDefinition → List (List ℕ)
  names_of e = names_in e.member.segment.fields.lab_len e.definition.expr

  -- what a name finds is the other equate
  record Reaches (from to other : FoundDefinition) : Type 0 where
    equate : is_equate other ≡ true
    same : other ≡ to

  abbrev FindsIt : FoundDefinition → FoundDefinition → List ℕ → Type 0
  FindsIt from to name = (other : FoundDefinition) × IsIn (finds list from.place from.member name) other × Reaches from to other

  leads_or_not : (from to : FoundDefinition) → IsIn (equates list) to → Decided (LeadsTo list from to)
  leads_or_not from to there = settle (search (FindsIt from to) (names_of from) by_name)
    where
      by_equate : (name : List ℕ) (other : FoundDefinition) → IsIn (names_of from) name → IsIn (finds list from.place from.member name) other → Decided (is_equate other ≡ true)
          → Decided (Reaches from to other)
      by_equate name other asked found (inr refuted) = inr (λ r. refuted r.equate)
      by_equate name other asked found (inl equate) =
          elim (same_equate other to (in_equates list from other (record { name = name; asked = asked; found = found; equate = equate })) there) [
            | inl same ↦ inl (record { equate = equate; same = same })
            | inr refuted ↦ inr (λ r. refuted r.same)
          ]

      by_name : (name : List ℕ) → IsIn (names_of from) name → Decided (FindsIt from to name)
      by_name name asked = elim (search (Reaches from to) (finds list from.place from.member name) (λ other found. by_equate name other asked found (is_it (is_equate other)))) [
        | inl found ↦ inl found
        | inr none ↦ inr (λ (f : FindsIt from to name). none f.0 f.1 f.2)
      ]

      settle : ((name : List ℕ) × IsIn (names_of from) name × FindsIt from to name) ⊎ ((name : List ℕ) → IsIn (names_of from) name → FindsIt from to name → ⊥) → Decided (LeadsTo list from to)
      settle (inl f) = inl (record {
        name = f.0;
        asked = f.1;
        found = subst (λ (x : FoundDefinition). IsIn (finds list from.place from.member f.0) x) f.2.2.same f.2.1;
        equate = ap is_equate (sym f.2.2.same) ∙ f.2.2.equate;
      })
      settle (inr none) = inr (λ leads. none leads.name leads.asked (to, leads.found, record { equate = leads.equate; same = refl }))

  -- a path whose equates between the ends are among these
  data PathBy (between : List FoundDefinition) : FoundDefinition → FoundDefinition → Type 0 where
    Direct : (from to : FoundDefinition) → LeadsTo list from to → PathBy between from to
    By : (from next to : FoundDefinition) → IsIn between next → LeadsTo list from next → PathBy between next to → PathBy between from to

  -- one that goes over one more goes over it, or doesn't
  parted : (v : FoundDefinition) (between : List FoundDefinition) (from to : FoundDefinition) → PathBy (v ∷ between) from to → PathBy between from to ⊎ (PathBy between from v × PathBy between v to)
  parted v between from to (Direct a b leads) = inl (Direct a b leads)
  parted v between from to (By a next b is leads rest) = by_next is (parted v between next to rest)
    where
      by_next : IsIn (v ∷ between) next → PathBy between next to ⊎ (PathBy between next v × PathBy between v to) → PathBy between a to ⊎ (PathBy between a v × PathBy between v to)
      by_next (inl same) (inl q) = inr (Direct a v (subst (λ (x : FoundDefinition). LeadsTo list a x) (sym same) leads), subst (λ (x : FoundDefinition). PathBy between x to) (sym same) q)
      by_next (inl same) (inr q) = inr (Direct a v (subst (λ (x : FoundDefinition). LeadsTo list a x) (sym same) leads), q.1)
      by_next (inr more) (inl q) = inl (By a next to more leads q)
      by_next (inr more) (inr q) = inr (By a next v more leads q.0, q.1)

  wider : (v : FoundDefinition) (between : List FoundDefinition) (from to : FoundDefinition) → PathBy between from to → PathBy (v ∷ between) from to
  wider v between from to (Direct a b leads) = Direct a b leads
  wider v between from to (By a next b is leads rest) = By a next b (inr is) leads (wider v between next b rest)

  joined : (between : List FoundDefinition) (v : FoundDefinition) (from to : FoundDefinition) → PathBy between from v → PathBy (v ∷ between) v to → PathBy (v ∷ between) from to
  joined between v from to (Direct a b leads) rest = By a b to (inl refl) leads rest
  joined between v from to (By a next b is leads more) rest = By a next to (inr is) leads (joined between v next to more rest)

  path_or_not : (between : List FoundDefinition) → ((x : FoundDefinition) → IsIn between x → IsIn (equates list) x) → (from to : FoundDefinition) → IsIn (equates list) to → Decided (PathBy between from to)
  path_or_not [] all from to there = elim (leads_or_not from to there) [
    | inl leads ↦ inl (Direct from to leads)
    | inr refuted ↦ inr (λ p. only_direct from to p refuted)
  ]
    where
      only_direct : (a b : FoundDefinition) → PathBy [] a b → (LeadsTo list a b → ⊥) → ⊥
      only_direct a b (Direct c d leads) refuted = refuted leads
      only_direct a b (By c next d is leads rest) refuted = is
  path_or_not (v ∷ between) all from to there =
      settle (path_or_not between rest from to there) (path_or_not between rest from v (all v (inl refl))) (path_or_not between rest v to there)
    where
      rest : (x : FoundDefinition) → IsIn between x → IsIn (equates list) x
      rest x is = all x (inr is)

      settle : Decided (PathBy between from to) → Decided (PathBy between from v) → Decided (PathBy between v to) → Decided (PathBy (v ∷ between) from to)
      settle (inl p) first second = inl (wider v between from to p)
      settle (inr refuted) (inl p) (inl q) = inl (joined between v from to p (wider v between v to q))
      settle (inr refuted) (inl p) (inr none) = inr (λ path. elim (parted v between from to path) [ inl q ↦ refuted q | inr q ↦ none q.1 ])
      settle (inr refuted) (inr none) second = inr (λ path. elim (parted v between from to path) [ inl q ↦ refuted q | inr q ↦ none q.0 ])

  as_path : (between : List FoundDefinition) (from to : FoundDefinition) → PathBy between from to → Path list from to
  as_path between from to (Direct a b leads) = Last a b leads
  as_path between from to (By a next b is leads rest) = Through a next b leads (as_path between next b rest)

  by_all : (from to : FoundDefinition) → Path list from to → PathBy (equates list) from to
  by_all from to (Last a b leads) = Direct a b leads
  by_all from to (Through a next b leads rest) = By a next b (in_equates list a next leads) leads (by_all next b rest)

  -- an equate leads back to itself or doesn't
  pub circular_or_not : (e : FoundDefinition) → IsIn (equates list) e → Decided (IsCircular list e)
  circular_or_not e is = elim (path_or_not (equates list) (λ x there. there) e e is) [
    | inl path ↦ inl (as_path (equates list) e e path)
    | inr refuted ↦ inr (λ path. refuted (by_all e e path))
  ]
