-- Where the cells and the bytes of a segment end.
use Rattle.std.proofs.Common.{◌≡◌, ℕ, zero, suc, ◌+◌, ◌-◌, ◌<◌, ◌≤◌, false, List, [], ◌∷◌, ◌++◌, length, take, get_or, Some, None, refl, sym, ap, subst, ◌∙◌, arith, inl, inr}
use Rattle.load_meaning.specs.laws.Steps.{is_zero}
use Rattle.std.specs.Prelude.{◌⊎◌, slice_get, max}
use Rattle.std.specs.Option.{option_or}
use Rattle.std.proofs.lemmas.Bool.{cases_lt}
use Rattle.std.proofs.lemmas.List.{take_more}
use Rattle.load_meaning.specs.Cells.{Cell}
use Rattle.load_content.specs.declared.pieces.BytePiece.{BytePiece}
use Rattle.load_content.specs.declared.spots.PatchSpot.{PatchSpot}
use Rattle.load_content.specs.Content.{ArePieces, IsAt, IsElsewhere, spread_spot, shown_spots, last_at}
use Rattle.load_writer.specs.WrittenParts.{IsKept}
use Rattle.omf_cells.specs.Ends.{IsEnd, EndsAt, HasReach, HaveReach}
use Rattle.load_content.proofs.Splits.{within}
use Rattle.load_content.proofs.SpotLists.{Covers, cell_in, shown-push, spot_here, spot_else, last_at-append}

-- ---- spots

pub spot_ends : (s : PatchSpot) (end : ℕ) → end ≡ s.at + (s.end - s.first) → 1 ≤ s.end - s.first → IsEnd (spread_spot s) end
spot_ends s end is some = record {
  past = λ k le. spot_else s k (λ (c : Covers k s). omega (arith, c, le, is));
  last = inr (cell_in s (end - 1), omega (arith, is, some), spot_here s (end - 1) (omega (arith, is, some), omega (arith, is, some)), refl);
}

both_past : (xs ys : List (ℕ × Cell)) (k : ℕ) → last_at xs k ≡ None → last_at ys k ≡ None → last_at (xs ++ ys) k ≡ None
both_past xs ys k a b = last_at-append xs ys k ∙ ap (λ o. option_or o (last_at xs k)) b ∙ a

-- the cells of both end where the later ones do
pub ends_more : (xs ys : List (ℕ × Cell)) (a b end : ℕ) → IsEnd xs a → IsEnd ys b → (a ≤ end) × (b ≤ end) × ((end ≡ a) ⊎ (end ≡ b)) → IsEnd (xs ++ ys) end
ends_more xs ys a b end first more most = record {
  past = λ k le. both_past xs ys k (first.past k (omega (arith, le, most.0))) (more.past k (omega (arith, le, most.1)));
  last = elim (cases_lt b a) [
    | inl less ↦
        let same : end ≡ a = elim most.2 [ inl e ↦ e | inr e ↦ absurd (omega (arith, e, less, most.0)) ] in
        subst Last (sym same) (elim first.last [
          | inl none ↦ absurd (omega (arith, none, less))
          | inr some ↦ inr (
            some.0,
            some.1,
            last_at-append xs ys (a - 1) ∙ ap (λ o. option_or o (last_at xs (a - 1))) (more.past (a - 1) (omega (arith, less))) ∙ some.2,
            some.3,
          )
        ])
    | inr from ↦
        let same : end ≡ b = elim most.2 [ inl e ↦ omega (arith, e, from, most.1) | inr e ↦ e ] in
        subst Last (sym same) (elim more.last [
          | inl none ↦ inl none
          | inr some ↦ inr (
            some.0,
            some.1,
            last_at-append xs ys (b - 1) ∙ ap (λ o. option_or o (last_at xs (b - 1))) some.2,
            some.3,
          )
        ])
  ];
}
  where
    Last : ℕ → Type 0
    Last n = (n ≡ 0) ⊎ ((c : Cell) × (1 ≤ n) × (last_at (xs ++ ys) (n - 1) ≡ Some c) × (is_zero c ≡ false))

-- ---- pieces

piece_is : (p q : BytePiece) → Some p ≡ Some q → p ≡ q
piece_is p q e = cc

pub have_more : (pieces : List BytePiece) (n low a r end : ℕ) (p : BytePiece) → HaveReach pieces n low a → IsAt pieces n p → HasReach p low r → (a ≤ end) × (r ≤ end) × ((end ≡ a) ⊎ (end ≡ r))
    → HaveReach pieces (n + 1) low end
have_more pieces n low a r end p have here has most = record {
  low' = omega (arith, have.low', most.0);
  zeros = λ i m q lt at inside le. elim (cases_lt i n) [
    | inl before ↦ have.zeros i m q before at inside (omega (arith, le, most.0))
    | inr last ↦
        let place : i ≡ n = omega (arith, lt, last) in
        let one : p ≡ q = piece_is p q (sym here ∙ ap (slice_get pieces) (sym place) ∙ at) in
        subst (λ (x : BytePiece). slice_get x.bytes.now m ≡ Some 0) one
        (has.zeros m (subst (λ (x : BytePiece). m < length x.bytes.now) (sym one) inside)
        (subst (λ (x : BytePiece). low ≤ x.start + m) (sym one) (omega (arith, le, most.0, have.low')))
        (subst (λ (x : BytePiece). r ≤ x.start + m) (sym one) (omega (arith, le, most.1))))
  ];
  last = elim most.2 [
    | inl same ↦ elim have.last [
      | inl none ↦ inl (same ∙ none)
      | inr some ↦ inr (some.0, some.1, omega (arith, some.2), some.3, subst (EndsAt some.1) (sym same) some.4)
    ]
    | inr same ↦ elim has.last [
      | inl none ↦ inl (omega (arith, same, none, most.0, have.low'))
      | inr some ↦ inr (n, p, omega arith, here, subst (EndsAt p) (sym same) some)
    ]
  ];
}

-- a piece has a byte at the offset, or none has
look_for : (pieces : List BytePiece) (k : ℕ) → ((i : ℕ) × (p : BytePiece) × IsAt pieces i p × (p.start ≤ k) × (k < p.start + length p.bytes.now)) ⊎ ((i : ℕ) (p : BytePiece) → IsAt pieces i p → IsElsewhere p k)
look_for [] k = inr (λ i p at. absurd cc)
look_for (q ∷ pieces) k = elim (cases_lt k q.start) [
  | inl before ↦ elim (look_for pieces k) [
    | inl found ↦ inl (suc found.0, found.1, found.2, found.3, found.4)
    | inr none ↦ inr (elsewhere (inl before) none)
  ]
  | inr from ↦ elim (cases_lt k (q.start + length q.bytes.now)) [
    | inl inside ↦ inl (0, q, refl, from, inside)
    | inr past ↦ elim (look_for pieces k) [
      | inl found ↦ inl (suc found.0, found.1, found.2, found.3, found.4)
      | inr none ↦ inr (elsewhere (inr past) none)
    ]
  ]
]
  where
    elsewhere : IsElsewhere q k → ((i : ℕ) (p : BytePiece) → IsAt pieces i p → IsElsewhere p k) → (i : ℕ) (p : BytePiece) → IsAt (q ∷ pieces) i p → IsElsewhere p k
    elsewhere here none zero p at = subst (λ (x : BytePiece). IsElsewhere x k) (piece_is q p at) here
    elsewhere here none (suc i) p at = none i p at

-- where all pieces were gone over
pub all_kept : (pieces : List BytePiece) (n low end : ℕ) (bytes : List ℕ) → HaveReach pieces n low end → length pieces ≤ n → ArePieces pieces bytes → low ≤ length bytes → IsKept bytes low end
all_kept pieces n low end bytes have all are fits = record {
  reaches = have.low';
  within = elim have.last [
    | inl same ↦ omega (arith, same, fits)
    | inr some ↦ let inside = are.fits some.0 some.1 some.3 in omega (arith, inside, some.4.end', some.4.inside)
  ];
  zeros = λ k le lt. elim (look_for pieces k) [
    | inl found ↦
        let p = found.1 in
        let place : p.start + (k - p.start) ≡ k = omega (arith, found.3) in
        let inside : k - p.start < length p.bytes.now = omega (arith, found.3, found.4) in
        ap (slice_get bytes) (sym place) ∙ are.inside found.0 (k - p.start) p found.2 inside
        ∙ have.zeros found.0 (k - p.start) p (omega (arith, within pieces found.0 p found.2, all)) found.2 inside (omega (arith, place, le))
    | inr none ↦ are.zeros k lt none
  ];
  last = elim have.last [
    | inl same ↦ inl same
    | inr some ↦
        let p = some.1 in
        let place : end - 1 ≡ p.start + some.4.place = omega (arith, some.4.end') in
        inr (
          (λ zero_is. some.4.byte (sym (are.inside some.0 some.4.place p some.3 some.4.inside) ∙ ap (slice_get bytes) (sym place) ∙ zero_is)),
          omega (arith, some.4.end'),
        )
  ];
}

-- ---- the later of two ends

pub is_max : (a b end : ℕ) → end ≡ max a b → (a ≤ end) × (b ≤ end) × ((end ≡ a) ⊎ (end ≡ b))
is_max a b end is = (
  omega (arith, is),
  omega (arith, is),
  elim (cases_lt b a) [
    | inl less ↦ inl (omega (arith, is, less))
    | inr from ↦ inr (omega (arith, is, from))
  ],
)

pub last_more : (spots : List PatchSpot) (i : ℕ) (d : PatchSpot) (a b end : ℕ) → i < length spots → IsEnd (shown_spots (take i spots)) a → IsEnd (spread_spot (get_or spots i d)) b → end ≡ max a b
    → IsEnd (shown_spots (take (i + 1) spots)) end
last_more spots i d a b end lt first more is =
    subst (λ (l : List (ℕ × Cell)). IsEnd l end) (sym (ap shown_spots (take_more spots i d lt) ∙ shown-push (take i spots) (get_or spots i d)))
    (ends_more (shown_spots (take i spots)) (spread_spot (get_or spots i d)) a b end first more (is_max a b end is))
