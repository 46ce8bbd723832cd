-- Patches that lie apart in order.
use Rattle.std.proofs.Common.{ℕ, ◌+◌, ◌≤◌, List, [], ◌∷◌, sym, subst, ◌∙◌, arith, inl, inr}
use Rattle.load_meaning.specs.Cells.{Patch}
use Rattle.load_meaning.specs.laws.LayingLaws.{Covers, Has, Apart}
use Rattle.omf_cells.specs.Whole.{AreSpaced}

pub spaced_is : (size low : ℕ) (patches : List Patch) (p : Patch) → AreSpaced size low patches → Has patches p → (low ≤ p.location) × (1 ≤ p.count) × (p.location + p.count ≤ size)
spaced_is size low [] p are has = absurd has
spaced_is size low (q ∷ patches) p are has = elim has [
  | inl same ↦ subst (λ (r : Patch). (low ≤ r.location) × (1 ≤ r.count) × (r.location + r.count ≤ size)) (sym same) (are.0, are.1, are.2)
  | inr more ↦ let there = spaced_is size (q.location + q.count) patches p are.3 more in (omega (arith, there.0, are.0), there.1, there.2)
]

pub spaced_apart : (size low : ℕ) (patches : List Patch) → AreSpaced size low patches → Apart patches
spaced_apart size low [] are p q k hp hq cp cq = absurd hp
spaced_apart size low (r ∷ patches) are p q k hp hq cp cq = elim hp [
  | inl p_is ↦ elim hq [
    | inl q_is ↦ p_is ∙ sym q_is
    | inr more ↦ absurd (clash q more cq (subst (λ (x : Patch). Covers x k) p_is cp))
  ]
  | inr more ↦ elim hq [
    | inl q_is ↦ absurd (clash p more cp (subst (λ (x : Patch). Covers x k) q_is cq))
    | inr more' ↦ spaced_apart size (r.location + r.count) patches are.3 p q k more more' cp cq
  ]
]
  where
    clash : (x : Patch) → Has patches x → Covers x k → Covers r k → ⊥
    clash x has cx cr = let there = spaced_is size (r.location + r.count) patches x are.3 has in omega (arith, there.0, cx, cr)
