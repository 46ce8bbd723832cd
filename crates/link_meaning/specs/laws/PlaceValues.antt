-- Values of expressions: places whose segments are among those of the places that they name.
use Rattle.std.proofs.Common.{◌≡◌, ℕ, pos, ◌+◌, ◌-◌, ◌^◌, ◌<◌, Bool, true, false, not, eqb, leb, List, [], ◌∷◌, ◌++◌, Option, Some, None, Result, Ok, Err, refl, sym, ap, subst, ◌∙◌, arith, inl, inr, ◌≤◌}
use Rattle.std.specs.Prelude.{◌&&◌, cond}
use Rattle.std.specs.List.{AllByRecursion}
use Rattle.std.proofs.lemmas.Bool.{and_parts, eqb-true}
use Rattle.omf_format.specs.declared.value.Value.{Value}
use Rattle.omf_format.specs.declared.value.Value.TheVariants.{Fixed, At}
use Rattle.omf_format.specs.declared.value.ValueFault.{ValueFault}
use Rattle.omf_format.specs.declared.value.ValueFault.TheVariants.{DivideByZero, NotRelocatable, Unknown}
use Rattle.omf_format.specs.Field.{◌>>=◌, is_shift}
use Rattle.omf_format.specs.laws.FieldLaws.{bind_ok}
use Rattle.omf_format.specs.Expression.{Term, Operator, Location, Constant, Named, Offset, Tree, Leaf, Unary, Binary}
use Rattle.omf_format.specs.Value.{wrapped_to_32_bits, signed, is_unshifted, divides, number_of_two, operand_value, apply_one, apply_two, size_of, value}
use Rattle.omf_format.specs.laws.Steps.{known_or_fault}
use Rattle.link_meaning.specs.First.{IsIn}
use Rattle.link_meaning.specs.laws.MemberLists.{in_filter, filter_in}
use Rattle.link_meaning.specs.Member.{Member, setting_in}
use Rattle.object_meaning.specs.Terms.{asks_value, asked_by, tree_in}
use Rattle.object_meaning.specs.laws.Steps.{asked_in}
use Rattle.link_meaning.specs.Search.{FoundDefinition, entries, finds, outside}
use Rattle.link_meaning.specs.Cycles.{is_equate, equates, LeadsTo}
use Rattle.link_meaning.specs.LinkValues.{EquateAnswer, value_of_definition, place_value, found_value, label_value, member_environment, value_or_equate_fault, value_in, IsTable, outside_value}
use Rattle.link_meaning.specs.laws.Steps.{if_ok, tree_value, has_expr, names_in}
use Rattle.link_meaning.specs.laws.TableLaws.{in_entries, reports_of, by_cycles, in_found, is_outside}
use Rattle.link_meaning.specs.laws.MadeLaws.{FitsPlace}
use Rattle.link_meaning.specs.laws.PlaceFits.{IsPlaceIn, entry_there}

-- ---- operators

abbrev fine : Value → Result Value ValueFault
fine v = Ok v

abbrev bad : ValueFault → Result Value ValueFault
bad fault = Err fault

one_value : (a b : Value) → fine a ≡ fine b → a ≡ b
one_value a b e = cc

not_bad : (fault : ValueFault) (v : Value) → bad fault ≡ fine v → ⊥
not_bad fault v e = cc

all_in : {A : Type 0} → (Q : A → Type 0) (xs : List A) → ((x : A) → IsIn xs x → Q x) → AllByRecursion Q xs
all_in Q [] f = tt
all_in Q (x ∷ xs) f = (f x (inl refl), all_in Q xs (λ y is. f y (inr is)))

module _ (P : ℕ → ℕ → Type 0) where
  fine_fits : (a : Value) → FitsPlace P a → (v : Value) → fine a ≡ Ok v → FitsPlace P v
  fine_fits a is v e = subst (FitsPlace P) (one_value a v e) is

  bad_fits : (fault : ValueFault) (v : Value) → bad fault ≡ Ok v → FitsPlace P v
  bad_fits fault v e = absurd (not_bad fault v e)

  cond_fits : (b : Bool) (x y : Result Value ValueFault) → (b ≡ true → (v : Value) → x ≡ Ok v → FitsPlace P v) → (b ≡ false → (v : Value) → y ≡ Ok v → FitsPlace P v) → (v : Value) → cond b x y ≡ Ok v → FitsPlace P v
  cond_fits true x y p q = p refl
  cond_fits false x y p q = q refl

  wrapped-lt : (n : ℕ) → wrapped_to_32_bits n < 2 ^ 32
  wrapped-lt n = omega arith

  one_fits : (code : ℕ) (a : Value) → (v : Value) → apply_one code a ≡ Ok v → FitsPlace P v
  one_fits code (Fixed a) = fine_fits _ tt
  one_fits code (At file segment offset shift) = bad_fits NotRelocatable

  two_fits : (code : ℕ) (a b : Value) → FitsPlace P a → FitsPlace P b → (v : Value) → apply_two code a b ≡ Ok v → FitsPlace P v
  unfolding apply_two
  two_fits code (Fixed a) (Fixed b) p q = cond_fits (divides code && eqb b 0) (bad DivideByZero) (fine (Fixed (number_of_two code a b))) (λ e. bad_fits DivideByZero) (λ e. fine_fits (Fixed (number_of_two code a b)) tt)
  two_fits code (Fixed a) (At file segment offset shift) p q =
      cond_fits (eqb code 0x01 && is_unshifted shift) (fine (At file segment (wrapped_to_32_bits (offset + a)) (pos 0))) (bad NotRelocatable)
      (λ e. fine_fits (At file segment (wrapped_to_32_bits (offset + a)) (pos 0)) (refl, q.1, (λ one. wrapped-lt (offset + a)))) (λ e. bad_fits NotRelocatable)
  two_fits code (At file segment offset shift) (Fixed b) p q =
      let less = wrapped_to_32_bits (offset + (2 ^ 32 - b)) in
      cond_fits (not (is_unshifted shift)) (bad NotRelocatable) _ (λ e. bad_fits NotRelocatable) (λ e.
      cond_fits (eqb code 0x01) (fine (At file segment (wrapped_to_32_bits (offset + b)) (pos 0))) _ (λ e. fine_fits (At file segment (wrapped_to_32_bits (offset + b)) (pos 0)) (refl, p.1, (λ one. wrapped-lt (offset + b)))) (λ e.
      cond_fits (eqb code 0x02) (fine (At file segment less (pos 0))) _ (λ e. fine_fits (At file segment less (pos 0)) (refl, p.1, (λ one. wrapped-lt (offset + (2 ^ 32 - b))))) (λ e.
      cond_fits (eqb code 0x07 && is_shift (signed b)) (fine (At file segment offset (signed b))) (bad NotRelocatable)
      (λ e. fine_fits (At file segment offset (signed b)) ((and_parts (eqb code 0x07) (is_shift (signed b)) e).1, p.1, p.2)) (λ e. bad_fits NotRelocatable))))
  two_fits code (At file segment offset shift) (At file' segment' offset' shift') p q =
      let less = wrapped_to_32_bits (offset + (2 ^ 32 - offset')) in
      cond_fits (eqb code 0x02 && is_unshifted shift && is_unshifted shift' && eqb file file' && eqb segment segment') (fine (Fixed less)) (bad NotRelocatable)
      (λ e. fine_fits (Fixed less) tt) (λ e. bad_fits NotRelocatable)

  -- ---- trees

  -- the value of a name in that member fits
  abbrev LabelFits : List Member → List EquateAnswer → ℕ → Member → List ℕ → Type 0
  LabelFits list table place m name = (weak : Bool) (v : Value) → label_value list table weak (finds list place m name) ≡ Some v → FitsPlace P v

  all_front : {A : Type 0} → (P : A → Type 0) (xs ys : List A) → AllByRecursion P (xs ++ ys) → AllByRecursion P xs
  all_front P [] ys all = tt
  all_front P (x ∷ xs) ys all = (all.0, all_front P xs ys all.1)

  all_following : {A : Type 0} → (P : A → Type 0) (xs ys : List A) → AllByRecursion P (xs ++ ys) → AllByRecursion P ys
  all_following P [] ys all = all
  all_following P (x ∷ xs) ys all = all_following P xs ys all.1

  known_ok : (at : ℕ) (o : Option Value) (v : Value) → known_or_fault at o ≡ Ok v → o ≡ Some v
  known_ok at None v e = absurd (not_bad (Unknown at) v e)
  known_ok at (Some w) v e = ap (λ (u : Value). some u) (one_value w v e)
    where
      some : Value → Option Value
      some u = Some u

  -- the two places that expressions of the member may name by themselves
  record HasPlaces (list : List Member) (place : ℕ) (m : Member) (location : ℕ) : Type 0 where
    here : FitsPlace P (place_value list place m location)
    first : FitsPlace P (place_value list place m 0)

  operand_fits : (list : List Member) (table : List EquateAnswer) (place : ℕ) (m : Member) (location at : ℕ) (term : Term) → HasPlaces list place m location → AllByRecursion (LabelFits list table place m) (asks_value term)
      → (v : Value) → operand_value (member_environment list table place m location) at term ≡ Ok v → FitsPlace P v
  unfolding operand_value member_environment
  operand_fits list table place m location at (Operator code) has all = bad_fits NotRelocatable
  operand_fits list table place m location at Location has all = fine_fits (place_value list place m location) has.here
  operand_fits list table place m location at (Constant n) has all = fine_fits (Fixed n) tt
  operand_fits list table place m location at (Offset n) has all = two_fits 0x01 (place_value list place m 0) (Fixed n) has.first tt
  operand_fits list table place m location at (Named code name) has all = by_code (leb code 0x83) all
    where
      by_code : (b : Bool) → AllByRecursion (LabelFits list table place m) (cond b (name ∷ []) [])
          → (v : Value) → cond b (known_or_fault at (label_value list table (eqb code 0x82) (finds list place m name)))
          (known_or_fault at ((member_environment list table place m location).attribute code name) >>= λ n. Ok (Fixed n)) ≡ Ok v → FitsPlace P v
      by_code true all v e = all.0 (eqb code 0x82) v (known_ok at (label_value list table (eqb code 0x82) (finds list place m name)) v e)
      by_code false all v e = let n = bind_ok (known_or_fault at ((member_environment list table place m location).attribute code name)) (λ k. Ok (Fixed k)) v e in fine_fits (Fixed n.0) tt v n.2

  value_fits : (list : List Member) (table : List EquateAnswer) (place : ℕ) (m : Member) (location l at : ℕ) (tree : Tree) → HasPlaces list place m location → AllByRecursion (LabelFits list table place m) (asked_by tree)
      → (v : Value) → value (member_environment list table place m location) l at tree ≡ Ok v → FitsPlace P v
  value_fits list table place m location l at (Leaf term) has all v e = operand_fits list table place m location at term has all v e
  value_fits list table place m location l at (Unary code x) has all v e =
      let a = bind_ok (value (member_environment list table place m location) l at x) (λ w. apply_one code w) v e in
      one_fits code a.0 v a.2
  value_fits list table place m location l at (Binary code x y) has all v e =
      let env = member_environment list table place m location in
      let a = bind_ok (value env l at x) (λ w. value env l (at + size_of l x) y >>= λ u. apply_two code w u) v e in
      let b = bind_ok (value env l (at + size_of l x) y) (λ u. apply_two code a.0 u) v a.2 in
      two_fits code a.0 b.0
      (value_fits list table place m location l at x has (all_front (LabelFits list table place m) (asked_by x) (asked_by y) all) a.0 a.1)
      (value_fits list table place m location l (at + size_of l x) y has (all_following (LabelFits list table place m) (asked_by x) (asked_by y) all) b.0 b.1) v b.2

  settled_ok : (list : List Member) (table : List EquateAnswer) (place : ℕ) (m : Member) (tree : Tree) (r : Result Value ValueFault) (v : Value) → value_or_equate_fault list table place m tree r ≡ Ok v → r ≡ Ok v
  settled_ok list table place m tree (Ok w) v e = e
  settled_ok list table place m tree (Err DivideByZero) v e = absurd (not_bad DivideByZero v e)
  settled_ok list table place m tree (Err NotRelocatable) v e = absurd (not_bad NotRelocatable v e)
  settled_ok list table place m tree (Err (Unknown at)) v e = absurd (not_bad _ v e)

  tree_fits : (list : List Member) (table : List EquateAnswer) (place : ℕ) (m : Member) (location : ℕ) (tree : Option Tree) → HasPlaces list place m location → AllByRecursion (LabelFits list table place m) (asked_in tree)
      → (v : Value) → tree_value list table place m location tree ≡ Ok v → FitsPlace P v
  tree_fits list table place m location None has all v e = bad_fits NotRelocatable v e
  tree_fits list table place m location (Some tree) has all v e =
      value_fits list table place m location m.segment.fields.lab_len 0 tree has all v
      (settled_ok list table place m tree (value (member_environment list table place m location) m.segment.fields.lab_len 0 tree) v e)

  -- ---- names

  if_ok_is : (r : Result Value ValueFault) (v : Value) → if_ok r ≡ Some v → r ≡ Ok v
  if_ok_is (Ok w) v e = ap (λ (u : Value). fine u) (same w v e)
    where
      same : (a b : Value) → Some a ≡ Some b → a ≡ b
      same a b e = cc
  if_ok_is (Err fault) v e = absurd cc

  label_fits : (list : List Member) (table : List EquateAnswer) (found : List FoundDefinition) → ((f : FoundDefinition) → IsIn found f → (v : Value) → found_value list table f ≡ Ok v → FitsPlace P v)
      → (weak : Bool) (v : Value) → label_value list table weak found ≡ Some v → FitsPlace P v
  label_fits list table [] each true v e = subst (FitsPlace P) (same (Fixed 0) v e) tt
    where
      same : (a b : Value) → Some a ≡ Some b → a ≡ b
      same a b e = cc
  label_fits list table [] each false v e = absurd cc
  label_fits list table (f ∷ found) each weak v e = each f (inl refl) v (if_ok_is (found_value list table f) v e)

  -- the table's value of an equate fits
  abbrev ReportedFits : List EquateAnswer → FoundDefinition → Type 0
  ReportedFits table e = (v : Value) → value_of_definition table e.place e.definition.at ≡ Ok v → FitsPlace P v

  -- where the place of what a name found fits, and so does its value in the table if it is an equate, the value of the name fits
  found_fits : (list : List Member) (table : List EquateAnswer) (f : FoundDefinition) → FitsPlace P (cond (eqb f.place 0) (outside_value f) (place_value list f.place f.member f.definition.place)) → (is_equate f ≡ true → ReportedFits table f)
      → (v : Value) → found_value list table f ≡ Ok v → FitsPlace P v
  found_fits list table f here equate v e = by_expr f.definition.expr refl e
    where
      by_expr : (x : Option (List ℕ)) → f.definition.expr ≡ x → elim x as (λ y. Result Value ValueFault) [
        | None ↦ Ok (cond (eqb f.place 0) (outside_value f) (place_value list f.place f.member f.definition.place))
        | Some text ↦ value_of_definition table f.place f.definition.at
      ] ≡ Ok v → FitsPlace P v
      by_expr None is e = fine_fits (cond (eqb f.place 0) (outside_value f) (place_value list f.place f.member f.definition.place)) here v e
      by_expr (Some text) is e = equate (ap has_expr is) v e

-- ---- all expressions of a list

module _ (P : ℕ → ℕ → Type 0) (list : List Member) (table : List EquateAnswer) (is_table : IsTable list table)
    (there : (place : ℕ) (m : Member) (at : ℕ) → IsPlaceIn list place m at → FitsPlace P (place_value list place m at))
    (beyond : (f : FoundDefinition) → IsIn (outside (setting_in list)) f → FitsPlace P (outside_value f)) where
  from_start : (place : ℕ) (m : Member) (at : ℕ) → IsPlaceIn list place m at → IsPlaceIn list place m 0
  from_start place m at is = record { front = is.front; back = is.back; parts = is.parts; number = is.number; inside = omega arith }

  places : (place : ℕ) (m : Member) (at : ℕ) → IsPlaceIn list place m at → HasPlaces P list place m at
  places place m at is = record { here = there place m at is; first = there place m 0 (from_start place m at is) }

  -- the place of what is found fits, in a member or beyond
  stands : (place : ℕ) (m : Member) (name : List ℕ) (f : FoundDefinition) → IsIn (finds list place m name) f → FitsPlace P (cond (eqb f.place 0) (outside_value f) (place_value list f.place f.member f.definition.place))
  stands place m name f found = elim (in_found list place m name f found) [
    | inl h ↦
        let at = entry_there list f h in
        subst (λ (b : Bool). FitsPlace P (cond b (outside_value f) (place_value list f.place f.member f.definition.place))) (sym (somewhere f.place (omega (arith, at.number)))) (there f.place f.member f.definition.place at)
    | inr h ↦ subst (λ (b : Bool). FitsPlace P (cond b (outside_value f) (place_value list f.place f.member f.definition.place))) (sym (ap (λ (n : ℕ). eqb n 0) (is_outside (setting_in list) f h).nowhere)) (beyond f h)
  ]
    where
      somewhere : (n : ℕ) → 1 ≤ n → eqb n 0 ≡ false
      somewhere n le = by_test (eqb n 0) refl
        where
          by_test : (b : Bool) → eqb n 0 ≡ b → b ≡ false
          by_test true e = absurd (omega (arith, le, eqb-true n 0 e))
          by_test false e = refl

  names : (place : ℕ) (m : Member) (asked : List (List ℕ)) → ((name : List ℕ) → IsIn asked name → (f : FoundDefinition) → IsIn (finds list place m name) f → is_equate f ≡ true → ReportedFits P table f)
      → AllByRecursion (LabelFits P list table place m) asked
  names place m asked equate =
      all_in (LabelFits P list table place m) asked (λ name is. label_fits P list table (finds list place m name) (λ f found. found_fits P list table f (stands place m name f found) (equate name is f found)))

  -- the table's value of an equate fits, where those of the equates to which it leads fit
  reported_step : (e : FoundDefinition) → IsIn (equates list) e → ((f : FoundDefinition) → LeadsTo list e f → ReportedFits P table f) → ReportedFits P table e
  unfolding value_in equates
  reported_step e is go v t = by_expr e.definition.expr refl (sym (reports_of list table (equates list) table is_table.rows e is) ∙ t)
    where
      entry : IsPlaceIn list e.place e.member e.definition.place
      entry = entry_there list e (in_filter is_equate (entries list) e is)

      by_expr : (x : Option (List ℕ)) → e.definition.expr ≡ x → elim x as (λ y. Result Value ValueFault) [
        | None ↦ Err NotRelocatable
        | Some text ↦ value_in list table e.place e.member e.definition.place text
      ] ≡ Ok v → FitsPlace P v
      by_expr None same w = bad_fits P NotRelocatable v w
      by_expr (Some text) same w =
          let tree = tree_in e.member.segment.fields.lab_len text in
          tree_fits P list table e.place e.member e.definition.place tree (places e.place e.member e.definition.place entry)
          (names e.place e.member (asked_in tree) (λ name asked f found equate. go f (record { name = name; asked = subst (λ (y : Option (List ℕ)). IsIn (names_in e.member.segment.fields.lab_len y) name) (sym same) asked; found = found; equate = equate })))
          v w

  reported_fits : (e : FoundDefinition) → IsIn (equates list) e → ReportedFits P table e
  reported_fits = by_cycles list (ReportedFits P table) is_table.straight reported_step

  equate_in : (place : ℕ) (m : Member) (name : List ℕ) (f : FoundDefinition) → IsIn (finds list place m name) f → is_equate f ≡ true → IsIn (equates list) f
  unfolding equates
  equate_in place m name f found is = filter_in is_equate (entries list) f (in_entries list place m name f is found) is

  -- the value of an expression in a member fits
  pub expression_fits : (place : ℕ) (m : Member) (location : ℕ) (text : List ℕ) → IsPlaceIn list place m location → (v : Value) → value_in list table place m location text ≡ Ok v → FitsPlace P v
  unfolding value_in
  expression_fits place m location text is =
      let tree = tree_in m.segment.fields.lab_len text in
      tree_fits P list table place m location tree (places place m location is) (names place m (asked_in tree) (λ name asked f found equate. reported_fits f (equate_in place m name f found equate)))

  -- the value of an entry fits
  pub entry_fits : (f : FoundDefinition) → IsIn (entries list) f → (v : Value) → found_value list table f ≡ Ok v → FitsPlace P v
  unfolding equates
  entry_fits f is = found_fits P list table f (in_member f is) (λ equate. reported_fits f (filter_in is_equate (entries list) f is equate))
    where
      in_member : (f : FoundDefinition) → IsIn (entries list) f → FitsPlace P (cond (eqb f.place 0) (outside_value f) (place_value list f.place f.member f.definition.place))
      in_member f is =
          let at = entry_there list f is in
          subst (λ (b : Bool). FitsPlace P (cond b (outside_value f) (place_value list f.place f.member f.definition.place))) (sym (somewhere f.place (omega (arith, at.number)))) (there f.place f.member f.definition.place at)
        where
          somewhere : (n : ℕ) → 1 ≤ n → eqb n 0 ≡ false
          somewhere n le = by_test (eqb n 0) refl
            where
              by_test : (b : Bool) → eqb n 0 ≡ b → b ≡ false
              by_test true e = absurd (omega (arith, le, eqb-true n 0 e))
              by_test false e = refl
