-- How many marks of a slot are in a list.
use Rattle.std.proofs.Common.{◌≡◌, ◌≢◌, inl, inr, ℕ, Bool, true, false, cond, not, zero, suc, ◌==◌, ◌+◌, ◌<◌, ◌≤◌, List, [], ◌∷◌, ◌++◌, All, length, get_or, Contains, count_by, arith, refl, sym, ap, ◌∙◌}
use Rattle.std.specs.List.{filter}
use Rattle.std.specs.List.Sorted.{IsPermutation}
use Rattle.std.proofs.lemmas.Bool.{cases_eq, cases_lt}
use Rattle.std.proofs.lemmas.Bool.Decides.{nat_tests}
use Rattle.std.proofs.lemmas.List.Elements.{All-head, All-tail}
use Rattle.std.proofs.lemmas.List.{get_or_default}
use Rattle.std.proofs.lemmas.List.Sums.{sum_by-cons, sum_by-append, length-filter, count_by-le-length}
use Rattle.std.proofs.lemmas.List.Sorted.{sum_by-IsPermutation}
use Rattle.iigs_places.specs.declared.marks.BlockMark.{BlockMark}
use Rattle.iigs_places.specs.Marks.{AreOnce}

module _ {X : Type 0} (p : X → Bool) where
  pub count-cons : (x : X) (xs : List X) → count_by p (x ∷ xs) ≡ cond (p x) 1 0 + count_by p xs
  count-cons x xs = sum_by-cons (λ y. cond (p y) 1 0) x xs

  pub count_none : (xs : List X) → All (λ x. p x ≡ false) xs → count_by p xs ≡ 0
  count_none [] all = refl
  count_none (x ∷ xs) all =
      let first : cond {A = ℕ} (p x) 1 0 ≡ 0 = rw (All-head (λ y. p y ≡ false) x xs all) refl in
      omega (arith, count-cons x xs, first, count_none xs (All-tail (λ y. p y ≡ false) x xs all))

  filtered : (q : X → Bool) (x : X) (xs : List X) (b : Bool) → count_by p (filter q xs) ≤ count_by p xs → count_by p (cond b (x ∷ filter q xs) (filter q xs)) ≤ cond (p x) 1 0 + count_by p xs
  filtered q x xs true less = omega (arith, count-cons x (filter q xs), less)
  filtered q x xs false less = omega (arith, less)

  count-filter : (q : X → Bool) (xs : List X) → count_by p (filter q xs) ≤ count_by p xs
  count-filter q [] = omega arith
  count-filter q (x ∷ xs) = let rest = filtered q x xs (q x) (count-filter q xs) in omega (arith, rest, count-cons x xs)

  pub count_one : (xs : List X) (i : ℕ) (d : X) → i < length xs → p (get_or xs i d) ≡ true → 1 ≤ count_by p xs
  count_one [] i d inside passes = absurd (omega (arith, inside))
  count_one (x ∷ xs) zero d inside passes =
      let first : cond {A = ℕ} (p x) 1 0 ≡ 1 = rw passes refl in
      omega (arith, count-cons x xs, first)
  count_one (x ∷ xs) (suc i) d inside passes = omega (arith, count-cons x xs, count_one xs i d (omega (arith, inside)) passes)

  pub count_two : (xs : List X) (i j : ℕ) (d : X) → i < j → j < length xs → p (get_or xs i d) ≡ true → p (get_or xs j d) ≡ true → 2 ≤ count_by p xs
  count_two [] i j d less inside one two = absurd (omega (arith, inside))
  count_two (x ∷ xs) i zero d less inside one two = absurd (omega (arith, less))
  count_two (x ∷ xs) zero (suc j) d less inside one two =
      let first : cond {A = ℕ} (p x) 1 0 ≡ 1 = rw one refl in
      omega (arith, count-cons x xs, first, count_one xs j d (omega (arith, inside)) two)
  count_two (x ∷ xs) (suc i) (suc j) d less inside one two = omega (arith, count-cons x xs, count_two xs i j d (omega (arith, less)) (omega (arith, inside)) one two)

  -- one that doesn't pass is dropped
  pub filter_less : (xs : List X) (i : ℕ) (d : X) → i < length xs → p (get_or xs i d) ≡ false → length (filter p xs) < length xs
  filter_less [] i d inside fails = absurd (omega (arith, inside))
  filter_less (x ∷ xs) zero d inside fails = rw fails (omega (arith, length-filter p xs, count_by-le-length p xs))
  filter_less (x ∷ xs) (suc i) d inside fails = one_less (p x) (filter_less xs i d (omega (arith, inside)) fails)
    where
      one_less : (b : Bool) → length (filter p xs) < length xs → length (cond b (x ∷ filter p xs) (filter p xs)) < suc (length xs)
      one_less true less = omega (arith, less)
      one_less false less = omega (arith, less)

pub once_none : AreOnce []
once_none slot = omega arith

pub once_filter : (q : BlockMark → Bool) (marks : List BlockMark) → AreOnce marks → AreOnce (filter q marks)
once_filter q marks once slot = omega (arith, count-filter (λ (m : BlockMark). m.slot == slot) q marks, once slot)

pub once_moved : (marks moved : List BlockMark) → IsPermutation marks moved → AreOnce marks → AreOnce moved
once_moved marks moved same once slot = omega (arith, sum_by-IsPermutation (λ (m : BlockMark). cond (m.slot == slot) 1 0) marks moved same, once slot)

-- a mark of a slot that has none is added to them
pub once_more : (marks : List BlockMark) (mark : BlockMark) → All (λ (m : BlockMark). m.slot ≢ mark.slot) marks → AreOnce marks → AreOnce (mark ∷ marks)
once_more marks mark none once slot = elim (cases_eq mark.slot slot) [
  | inl same ↦
      let no : count_by (λ (m : BlockMark). m.slot == slot) marks ≡ 0 = count_none (λ (m : BlockMark). m.slot == slot) marks
      (λ k d inside. let ne : (get_or marks k d).slot ≢ slot = λ eq. none k d inside (eq ∙ sym same) in grind (arith, nat_tests)) in
      omega (arith, count-cons (λ (m : BlockMark). m.slot == slot) mark marks, no, at_most (mark.slot == slot))
  | inr ne ↦
      let test : (mark.slot == slot) ≡ false = grind (arith, nat_tests) in
      let first : cond {A = ℕ} (mark.slot == slot) 1 0 ≡ 0 = rw test refl in
      omega (arith, count-cons (λ (m : BlockMark). m.slot == slot) mark marks, first, once slot)
]
  where
    at_most : (b : Bool) → cond {A = ℕ} b 1 0 ≤ 1
    at_most true = omega arith
    at_most false = omega arith

pub once_push : (marks : List BlockMark) (mark : BlockMark) → All (λ (m : BlockMark). m.slot ≢ mark.slot) marks → AreOnce marks → AreOnce (marks ++ mark ∷ [])
once_push marks mark none once slot =
    let front = once_more marks mark none once slot in
    omega (arith, front, sum_by-append (λ (m : BlockMark). cond (m.slot == slot) 1 0) marks (mark ∷ []), count-cons (λ (m : BlockMark). m.slot == slot) mark marks, count-cons (λ (m : BlockMark). m.slot == slot) mark [])

module _ (marks : List BlockMark) (once : AreOnce marks) where
  -- two marks of one slot are at one place
  once_place : (i j : ℕ) (d : BlockMark) → i < j → j < length marks → (get_or marks i d).slot ≡ (get_or marks j d).slot → ⊥
  once_place i j d less inside same =
      let slot : ℕ = (get_or marks j d).slot in
      let one : ((get_or marks i d).slot == slot) ≡ true = grind (arith, nat_tests) in
      let two : ((get_or marks j d).slot == slot) ≡ true = grind (arith, nat_tests) in
      omega (arith, once slot, count_two (λ (m : BlockMark). m.slot == slot) marks i j d less inside one two)

  pub once_apart : (i j : ℕ) (d : BlockMark) → i ≢ j → i < length marks → j < length marks → (get_or marks i d).slot ≢ (get_or marks j d).slot
  once_apart i j d ne inside inside' same = elim (cases_lt i j) [
    | inl less ↦ once_place i j d less inside' same
    | inr ge ↦ once_place j i d (omega (arith, ge, ne)) inside (sym same)
  ]

  -- and are the same
  pub once_same : (m o : BlockMark) → Contains marks m → Contains marks o → m.slot ≡ o.slot → m ≡ o
  once_same m o has has' same = elim (cases_eq has.0 has'.0) [
    | inl eq ↦ sym has.2 ∙ ap (λ (n : ℕ). get_or marks n m) eq ∙ get_or_default marks has'.0 m o has'.1 ∙ has'.2
    | inr ne ↦
        let one : get_or marks has.0 m ≡ m = has.2 in
        let two : get_or marks has'.0 m ≡ o = get_or_default marks has'.0 m o has'.1 ∙ has'.2 in
        absurd (once_apart has.0 has'.0 m ne has.1 has'.1 (ap (λ (x : BlockMark). x.slot) one ∙ same ∙ ap (λ (x : BlockMark). x.slot) (sym two)))
  ]

-- where a mark of the slot is dropped there are fewer
pub dropped_less : (marks : List BlockMark) (slot : ℕ) → (m : BlockMark) × Contains marks m × (m.slot ≡ slot) → length (filter (λ (o : BlockMark). not (o.slot == slot)) marks) < length marks
dropped_less marks slot found =
    let m : BlockMark = found.0 in
    let test : ((get_or marks found.1.0 m).slot == slot) ≡ true = rw found.1.2 (same found.0.slot found.2) in
    filter_less (λ (o : BlockMark). not (o.slot == slot)) marks found.1.0 m found.1.1 (rw test refl)
  where
    same : (n : ℕ) → n ≡ slot → (n == slot) ≡ true
    same n e = grind (arith, nat_tests)
