-- A mark put in the place of the one of its slot.
use Rattle.std.proofs.Common.{◌≡◌, ◌≢◌, inl, inr, ℕ, zero, suc, true, false, not, ◌==◌, ◌+◌, ◌-◌, ◌<◌, ◌≤◌, List, [], ◌∷◌, All, length, get_or, arith, ap, ◌∙◌}
use Rattle.std.specs.Prelude.{slice_set}
use Rattle.std.specs.List.{filter}
use Rattle.std.specs.List.Sorted.{IsNonDecreasingBy, IsPermutation}
use Rattle.std.proofs.lemmas.Bool.{cases_eq, cases_lt}
use Rattle.std.proofs.lemmas.Bool.Decides.{nat_tests}
use Rattle.std.proofs.lemmas.List.{get_or_default, get_or-set_same, get_or-set_other, length-set}
use Rattle.std.proofs.lemmas.List.Sorted.{IsPermutation-refl, IsPermutation-cons, IsPermutation-trans, IsPermutation-middle}
use Rattle.iigs_places.specs.declared.marks.BlockMark.{BlockMark}
use Rattle.iigs_places.specs.Marks.{AreOnce}
use Rattle.iigs_places.proofs.Marked.{drop_none}
use Rattle.iigs_places.proofs.Once.{count_two}

-- the other marks are of other slots
others : (marks : List BlockMark) (slot place : ℕ) (d : BlockMark) → AreOnce marks → place < length marks → (get_or marks place d).slot ≡ slot → (k : ℕ) → k < length marks → k ≢ place → (get_or marks k d).slot ≢ slot
others marks slot place d once inside is k within ne same =
    let one : ((get_or marks place d).slot == slot) ≡ true = equal (get_or marks place d).slot slot is in
    let two : ((get_or marks k d).slot == slot) ≡ true = equal (get_or marks k d).slot slot same in
    elim (cases_lt k place) [
      | inl less ↦ omega (arith, once slot, count_two (λ (m : BlockMark). m.slot == slot) marks k place d less inside two one)
      | inr le ↦ elim (cases_lt place k) [
        | inl less ↦ omega (arith, once slot, count_two (λ (m : BlockMark). m.slot == slot) marks place k d less within one two)
        | inr ge ↦ ne (omega (arith, le, ge))
      ]
    ]
  where
    equal : (n m : ℕ) → n ≡ m → (n == m) ≡ true
    equal n m e = grind (arith, nat_tests)

moved_there : (m : BlockMark) (xs : List BlockMark) (place : ℕ) (d : BlockMark) → place < length xs → (get_or xs place d).slot ≡ m.slot → ((k : ℕ) → k < length xs → k ≢ place → (get_or xs k d).slot ≢ m.slot)
    → IsPermutation (m ∷ filter (λ o. not (o.slot == m.slot)) xs) (slice_set xs place m)
moved_there m [] place d inside is ne = absurd (omega (arith, inside))
moved_there m (x ∷ xs) zero d inside is ne =
    let test : (x.slot == m.slot) ≡ true = grind (arith, nat_tests) in
    let all : All (λ o. o.slot ≢ m.slot) xs = λ k e within same. ne (suc k) (omega (arith, within)) (omega arith) (ap (λ (o : BlockMark). o.slot) (get_or_default xs k d e within) ∙ same) in
    rw (test, drop_none m.slot xs all) (IsPermutation-refl (m ∷ xs))
moved_there m (x ∷ xs) (suc place) d inside is ne =
    let differ : x.slot ≢ m.slot = ne 0 (omega arith) (omega arith) in
    let test : (x.slot == m.slot) ≡ false = grind (arith, nat_tests) in
    let rest = moved_there m xs place d (omega (arith, inside)) is (λ k within other. ne (suc k) (omega (arith, within)) (λ same. other (omega (arith, same)))) in
    rw test (IsPermutation-trans (m ∷ x ∷ filter (λ o. not (o.slot == m.slot)) xs) (x ∷ m ∷ filter (λ o. not (o.slot == m.slot)) xs) (x ∷ slice_set xs place m)
    (IsPermutation-middle (m ∷ []) x (filter (λ o. not (o.slot == m.slot)) xs)) (IsPermutation-cons x (m ∷ filter (λ o. not (o.slot == m.slot)) xs) (slice_set xs place m) rest))

module _ (marks : List BlockMark) (place : ℕ) (m : BlockMark) (inside : place < length marks) where
  -- the marks are those without the slot's, and this one
  pub replaced_moved : AreOnce marks → ((d : BlockMark) → (get_or marks place d).slot ≡ m.slot) → IsPermutation (m ∷ filter (λ o. not (o.slot == m.slot)) marks) (slice_set marks place m)
  replaced_moved once is = moved_there m marks place m inside (is m) (others marks m.slot place m once inside (is m))

  -- and they are in order
  pub replaced_order : IsNonDecreasingBy (λ (o : BlockMark). o.at) marks → ((d : BlockMark) → 0 < place → (get_or marks (place - 1) d).at ≤ m.at)
      → ((d : BlockMark) → place + 1 < length marks → m.at ≤ (get_or marks (place + 1) d).at) → IsNonDecreasingBy (λ (o : BlockMark). o.at) (slice_set marks place m)
  replaced_order up below above i j d le lt =
      let lt' : j < length marks = omega (arith, lt, length-set marks place m) in
      elim (cases_eq i place) [
        | inl i_is ↦ elim (cases_eq j place) [
          | inl j_is ↦ rw (here i i_is, here j j_is) (omega arith)
          | inr j_ne ↦ rw (here i i_is, there j j_ne) (omega (arith, above d (omega (arith, i_is, j_ne, le, lt')), up (place + 1) j d (omega (arith, i_is, j_ne, le)) lt'))
        ]
        | inr i_ne ↦ elim (cases_eq j place) [
          | inl j_is ↦ rw (there i i_ne, here j j_is) (omega (arith, below d (omega (arith, j_is, i_ne, le)), up i (place - 1) d (omega (arith, j_is, i_ne, le)) (omega (arith, inside))))
          | inr j_ne ↦ rw (there i i_ne, there j j_ne) (up i j d le lt')
        ]
      ]
    where
      here : (k : ℕ) → k ≡ place → get_or (slice_set marks place m) k d ≡ m
      here k same = ap (λ (n : ℕ). get_or (slice_set marks place m) n d) same ∙ get_or-set_same marks place m d inside

      there : (k : ℕ) → k ≢ place → get_or (slice_set marks place m) k d ≡ get_or marks k d
      there k ne = get_or-set_other marks place k m d ne
