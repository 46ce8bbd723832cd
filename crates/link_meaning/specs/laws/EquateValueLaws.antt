-- An equate has one value at most, none on a cycle; and the values of all equates are the table.
use Rattle.std.proofs.Common.{◌≡◌, inl, inr, Bool, true, false, eqb, cond, List, [], ◌∷◌, Result, refl, sym, ap, subst, ◌∙◌}
use Rattle.std.specs.Prelude.{◌&&◌}
use Rattle.std.proofs.lemmas.Bool.{and_parts, and_from, eqb-true, eq-eqb}
use Rattle.omf_format.specs.declared.value.Value.{Value}
use Rattle.omf_format.specs.declared.value.ValueFault.{ValueFault}
use Rattle.link_meaning.specs.First.{IsIn}
use Rattle.link_meaning.specs.Member.{Member}
use Rattle.link_meaning.specs.Search.{FoundDefinition}
use Rattle.link_meaning.specs.Cycles.{equates, LeadsTo, Path, Last, Through}
use Rattle.link_meaning.specs.LinkValues.{EquateAnswer, value_of_definition, equate_value, AreReported, IsTable}
use Rattle.link_meaning.specs.laws.TableLaws.{equate_same, alike_from, path_on, in_equates, reports_of, by_cycles}
use Rattle.link_meaning.specs.EquateValues.{HasValue, ByOthers, GiveValues, AreApart, OneValue, NoneOnCycle}

-- ---- one value

pub one_value : OneValue
one_value list e a b (ByOthers x t c p go) (ByOthers y u d q other) =
    p ∙ equate_same list t u e (alike_from list t u e (λ g leads. one_value list g (value_of_definition t g.place g.definition.at) (value_of_definition u g.place g.definition.at) (go g leads) (other g leads))) ∙ sym q

-- ---- none on a cycle

no_way : (list : List Member) (x y : FoundDefinition) (a : Result Value ValueFault) → HasValue list x a → Path list x y → x ≡ y → ⊥
no_way list x y a (ByOthers e t c p go) (Last from to leads) same =
    no_way list y y (value_of_definition t y.place y.definition.at) (go y leads) (subst (λ (z : FoundDefinition). Path list z y) same (Last x y leads)) refl
no_way list x y a (ByOthers e t c p go) (Through from next to leads path) same =
    no_way list next next (value_of_definition t next.place next.definition.at) (go next leads)
    (path_on list next y next path (subst (λ (z : FoundDefinition). LeadsTo list z next) same leads)) refl

pub none_on_cycle : NoneOnCycle
none_on_cycle list e a has cycle = no_way list e e a has cycle refl

-- ---- ranks

-- ---- from values to the table

pub reports : (list : List Member) (es : List FoundDefinition) (rows : List EquateAnswer) (e : FoundDefinition) → GiveValues list es rows → IsIn es e
    → ((f : FoundDefinition) → IsIn es f → f.place ≡ e.place → f.definition.at ≡ e.definition.at → f ≡ e) → HasValue list e (value_of_definition rows e.place e.definition.at)
reports list [] rows e reveal is apart = absurd is
reports list (x ∷ es) [] e reveal is apart = absurd reveal
reports list (x ∷ es) (t ∷ rows) e reveal is apart =
    by_test (eqb t.place e.place && eqb t.at e.definition.at) refl (λ more. reports list es rows e reveal.3 more (λ f there. apart f (inr there)))
  where
    same_key : x ≡ e → (eqb t.place e.place && eqb t.at e.definition.at) ≡ true
    same_key e' = and_from _ _ (eq-eqb t.place e.place (reveal.0 ∙ ap (λ (f : FoundDefinition). f.place) e')) (eq-eqb t.at e.definition.at (reveal.1 ∙ ap (λ (f : FoundDefinition). f.definition.at) e'))

    true_false : true ≡ false → ⊥
    true_false e' = cc

    later : IsIn (x ∷ es) e → (eqb t.place e.place && eqb t.at e.definition.at) ≡ false → IsIn es e
    later (inl e') other = absurd (true_false (sym (same_key e') ∙ other))
    later (inr more) other = more

    by_test : (b : Bool) → (eqb t.place e.place && eqb t.at e.definition.at) ≡ b → (IsIn es e → HasValue list e (value_of_definition rows e.place e.definition.at))
        → HasValue list e (cond b t.answer (value_of_definition rows e.place e.definition.at))
    by_test true key go =
        let both = and_parts (eqb t.place e.place) (eqb t.at e.definition.at) key in
        let same : x ≡ e = apart x (inl refl) (sym reveal.0 ∙ eqb-true t.place e.place both.0) (sym reveal.1 ∙ eqb-true t.at e.definition.at both.1) in
        subst (λ (f : FoundDefinition). HasValue list f t.answer) same reveal.2
    by_test false key go = go (later is key)

module _ (list : List Member) (table : List EquateAnswer) (reveal : GiveValues list (equates list) table) (apart : AreApart (equates list)) where
  reported_value : (e : FoundDefinition) → IsIn (equates list) e → HasValue list e (value_of_definition table e.place e.definition.at)
  reported_value e is = reports list (equates list) table e reveal is (λ f there place at. apart f e there is place at)

  -- what the table says of an equate is what its expression means there
  reports_own : (e : FoundDefinition) → IsIn (equates list) e → (a : Result Value ValueFault) → HasValue list e a → a ≡ equate_value list table e
  reports_own e is a (ByOthers x u c p go) =
      p ∙ equate_same list u table e (alike_from list u table e (λ g leads. one_value list g (value_of_definition u g.place g.definition.at) (value_of_definition table g.place g.definition.at) (go g leads) (reported_value g (in_equates list e g leads))))

  rows_reported : (es : List FoundDefinition) (rows : List EquateAnswer) → ((e : FoundDefinition) → IsIn es e → IsIn (equates list) e) → GiveValues list es rows → AreReported list table es rows
  rows_reported [] [] among all = tt
  rows_reported [] (t ∷ rows) among all = absurd all
  rows_reported (e ∷ es) [] among all = absurd all
  rows_reported (e ∷ es) (t ∷ rows) among all =
      let is = among e (inl refl) in
      let own = reported_value e is in (
        all.0,
        all.1,
        one_value list e t.answer (value_of_definition table e.place e.definition.at) all.2 own,
        reports_own e is (value_of_definition table e.place e.definition.at) own,
        rows_reported es rows (λ f there. among f (inr there)) all.3,
      )

  pub are_table : IsTable list table
  are_table = record {
    straight = λ e is cycle. none_on_cycle list e (value_of_definition table e.place e.definition.at) (reported_value e is) cycle;
    rows = rows_reported (equates list) table (λ e is. is) reveal;
  }

-- ---- and back

module _ (list : List Member) (table : List EquateAnswer) (is : IsTable list table) where
  has_value : (e : FoundDefinition) → IsIn (equates list) e → HasValue list e (value_of_definition table e.place e.definition.at)
  has_value = by_cycles list (λ e. HasValue list e (value_of_definition table e.place e.definition.at)) is.straight
      (λ e there go. ByOthers e table (value_of_definition table e.place e.definition.at) (reports_of list table (equates list) table is.rows e there) go)

  values_of : (es : List FoundDefinition) (rows : List EquateAnswer) → ((e : FoundDefinition) → IsIn es e → IsIn (equates list) e) → AreReported list table es rows → GiveValues list es rows
  values_of [] [] among all = tt
  values_of [] (t ∷ rows) among all = absurd all
  values_of (e ∷ es) [] among all = absurd all
  values_of (e ∷ es) (t ∷ rows) among all =
      (all.0, all.1, subst (HasValue list e) (sym all.2) (has_value e (among e (inl refl))), values_of es rows (λ f there. among f (inr there)) all.4)

  pub report_values : GiveValues list (equates list) table
  report_values = values_of (equates list) table (λ e there. there) is.rows
