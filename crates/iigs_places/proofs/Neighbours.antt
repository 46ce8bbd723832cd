-- Marks beside an address.
use Rattle.std.proofs.Common.{◌≡◌, ◌≢◌, inl, inr, ℕ, ◌+◌, ◌-◌, ◌<◌, ◌≤◌, List, All, Contains, length, get_or, arith, sym, ap, ◌∙◌}
use Rattle.std.specs.List.Sorted.{IsNonDecreasingBy}
use Rattle.std.proofs.lemmas.Bool.{cases_lt, cases_eq}
use Rattle.std.proofs.lemmas.List.{get_or_default}
use Rattle.std.proofs.lemmas.List.Elements.{Contains-get_or}
use Rattle.iigs_places.specs.declared.marks.BlockMark.{BlockMark}
use Rattle.iigs_places.specs.Marks.{AreOnce, AreMarksApart, IsSized, CountsBefore, IsFirstFrom, IsLastOther, LiesBeside, SharesByte}
use Rattle.iigs_places.proofs.Once.{once_apart, once_same}

module _ (marks : List BlockMark) (address count : ℕ) (c : CountsBefore marks address count) (order : IsNonDecreasingBy (λ m. m.at) marks) where
  -- a mark before the address is one of the first ones
  among : (m : BlockMark) (d : BlockMark) → (has : Contains marks m) → m.at < address → has.0 < count
  among m d has below = elim (cases_lt has.0 count) [
    | inl less ↦ less
    | inr ge ↦ absurd (omega (arith, c.following has.0 m ge has.1, ap (λ (x : BlockMark). x.at) has.2, below))
  ]

  at_place : (m : BlockMark) (d : BlockMark) → (has : Contains marks m) → get_or marks has.0 d ≡ m
  at_place m d has = get_or_default marks has.0 d m has.1 ∙ has.2

  pub all_before : count ≡ length marks → (m : BlockMark) → Contains marks m → m.at < address
  all_before all m has = omega (arith, c.before has.0 m (omega (arith, all, has.1)), ap (λ (x : BlockMark). x.at) has.2)

  pub first_is : (d : BlockMark) → count < length marks → IsFirstFrom marks address (get_or marks count d)
  first_is d inside = record {
    is = Contains-get_or marks count d inside;
    from = c.following count d (omega arith) inside;
    least = λ m has from. elim (cases_lt has.0 count) [
      | inl less ↦ absurd (omega (arith, c.before has.0 m less, ap (λ (x : BlockMark). x.at) has.2, from))
      | inr ge ↦ omega (arith, order count has.0 d ge has.1, ap (λ (x : BlockMark). x.at) (at_place m d has))
    ];
  }

  -- ---- of other slots

  module _ (slot : ℕ) (once : AreOnce marks) where
    pub other_none : count ≡ 0 → (m : BlockMark) → Contains marks m → m.slot ≢ slot → address ≤ m.at
    other_none none m has ne = omega (arith, c.following has.0 m (omega (arith, none)) has.1, ap (λ (x : BlockMark). x.at) has.2)

    pub other_first : (d : BlockMark) → 0 < count → (get_or marks (count - 1) d).slot ≢ slot → IsLastOther marks address slot (get_or marks (count - 1) d)
    other_first d some ne = record {
      is = Contains-get_or marks (count - 1) d (omega (arith, some, c.within));
      other = ne;
      before = c.before (count - 1) d (omega (arith, some));
      most = λ m has ne' below.
          let less = among m d has below in
          omega (arith, order has.0 (count - 1) d (omega (arith, less)) (omega (arith, some, c.within)), ap (λ (x : BlockMark). x.at) (at_place m d has));
    }

    pub other_alone : (d : BlockMark) → count ≡ 1 → (get_or marks (count - 1) d).slot ≡ slot → (m : BlockMark) → Contains marks m → m.slot ≢ slot → address ≤ m.at
    other_alone d one same m has ne = elim (cases_lt m.at address) [
      | inl below ↦
          let less = among m d has below in
          let place : has.0 ≡ count - 1 = omega (arith, less, one) in
          absurd (ne (ap (λ (x : BlockMark). x.slot) (sym (at_place m d has)) ∙ ap (λ (n : ℕ). (get_or marks n d).slot) place ∙ same))
      | inr ge ↦ ge
    ]

    pub other_second : (d : BlockMark) → 1 < count → (get_or marks (count - 1) d).slot ≡ slot → IsLastOther marks address slot (get_or marks (count - 2) d)
    other_second d more same = record {
      is = Contains-get_or marks (count - 2) d (omega (arith, more, c.within));
      other = λ eq. once_apart marks once (count - 2) (count - 1) d (omega (arith, more)) (omega (arith, more, c.within)) (omega (arith, more, c.within)) (eq ∙ sym same);
      before = c.before (count - 2) d (omega (arith, more));
      most = λ m has ne below.
          let less = among m d has below in
          let place : has.0 ≢ count - 1 = λ eq. ne (ap (λ (x : BlockMark). x.slot) (sym (at_place m d has)) ∙ ap (λ (n : ℕ). (get_or marks n d).slot) eq ∙ same) in
          omega (arith, order has.0 (count - 2) d (omega (arith, less, place)) (omega (arith, more, c.within)), ap (λ (x : BlockMark). x.at) (at_place m d has));
    }

-- ---- the neighbours decide

module _ (marks : List BlockMark) (once : AreOnce marks) (sized : All IsSized marks) (apart : AreMarksApart marks) (slot address size : ℕ) where
  size_of : (m : BlockMark) → Contains marks m → m.at < m.end
  size_of m has = omega (arith, (sized has.0 m has.1).0, ap (λ (x : BlockMark). x.at) has.2, ap (λ (x : BlockMark). x.end) has.2)

  pub beside_none : ((m : BlockMark) → Contains marks m → m.slot ≢ slot → address + size ≤ m.at) → LiesBeside marks slot address size
  beside_none following m has ne = inl (following m has ne)

  pub beside_last : (last : BlockMark) → IsLastOther marks (address + size) slot last → last.end ≤ address → LiesBeside marks slot address size
  beside_last last is ends m has ne = elim (cases_lt m.at (address + size)) [
    | inr following ↦ inl following
    | inl before ↦
        let most = is.most m has ne before in
        elim (cases_eq m.slot last.slot) [
          | inl same ↦ inr (omega (arith, ap (λ (x : BlockMark). x.end) (once_same marks once m last has is.is same), ends))
          | inr other ↦ elim (apart m last has is.is other) [
            | inl lower ↦ absurd (omega (arith, lower, most))
            | inr following ↦ inr (omega (arith, following, size_of last is.is, ends))
          ]
        ]
  ]

  pub shares_last : (last : BlockMark) → IsLastOther marks (address + size) slot last → address < last.end → SharesByte marks slot address size
  shares_last last is ends = record { mark = last; is = is.is; other = is.other; before = is.before; following = ends }
