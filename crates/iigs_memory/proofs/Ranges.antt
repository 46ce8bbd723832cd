-- Blocks lie one after another in the buffer, as they do in memory.
use Rattle.std.proofs.Common.{◌≡◌, inl, inr, ℕ, true, cond, zero, suc, ◌+◌, ◌-◌, ◌^◌, ◌<◌, ◌≤◌, List, Contains, arith, refl, ◌∙◌}
use Rattle.std.proofs.lemmas.Bool.{cases_lt, cases_eq}
use Rattle.iigs_meaning.specs.Free.{bank_of}
use Rattle.iigs_places.specs.Offsets.{is_named, bytes_below, offset_of}
use Rattle.iigs_places.proofs.Counts.{bytes_below-suc, named-Contains}

module _ (banks : List ℕ) where
  -- a configured bank has its bytes before the next
  below_next : (bank : ℕ) → Contains banks bank → bytes_below banks (bank + 1) ≡ bytes_below banks bank + 0x10000
  below_next bank has =
      let named : is_named banks bank ≡ true = (named-Contains banks bank).1 has in
      bytes_below-suc banks bank ∙ rw named refl

  below_rises : (low more : ℕ) → bytes_below banks low ≤ bytes_below banks (low + more)
  below_rises low zero = let same : low + 0 ≡ low = omega arith in rw same (omega arith)
  below_rises low (suc more) =
      let step : bytes_below banks (low + more + 1) ≡ bytes_below banks (low + more) + cond (is_named banks (low + more)) 0x10000 0 = bytes_below-suc banks (low + more) in
      let shift : low + suc more ≡ low + more + 1 = omega arith in
      rw shift (omega (arith, below_rises low more))

  below_le : (low high : ℕ) → low ≤ high → bytes_below banks low ≤ bytes_below banks high
  below_le low high le =
      let shift : high ≡ low + (high - low) = omega arith in
      rw shift (below_rises low (high - low))

  -- what lies later in memory lies later in the buffer
  offset_less : (a b : ℕ) → a < b → Contains banks (bank_of a) → offset_of banks a < offset_of banks b
  offset_less a b less has = elim (cases_lt (bank_of a) (bank_of b)) [
    | inl lt ↦
        let next : bytes_below banks (bank_of a + 1) ≡ bytes_below banks (bank_of a) + 0x10000 = below_next (bank_of a) has in
        let up : bytes_below banks (bank_of a + 1) ≤ bytes_below banks (bank_of b) = below_le (bank_of a + 1) (bank_of b) (omega arith) in
        omega arith
    | inr ge ↦
        let same : bank_of b ≡ bank_of a = omega arith in
        rw same (omega arith)
  ]

  offset_next : (a : ℕ) → Contains banks (bank_of a) → offset_of banks (a + 1) ≡ offset_of banks a + 1
  offset_next a has = elim (cases_eq (bank_of (a + 1)) (bank_of a)) [
    | inl same ↦ rw same (omega arith)
    | inr differ ↦
        let next : bank_of (a + 1) ≡ bank_of a + 1 = omega arith in
        let below : bytes_below banks (bank_of a + 1) ≡ bytes_below banks (bank_of a) + 0x10000 = below_next (bank_of a) has in
        rw next (omega arith)
  ]

  -- neighbouring bytes of configured banks are neighbours in the buffer
  offset_run : (a n k : ℕ) → ((i : ℕ) → a ≤ i → i < a + n → Contains banks (bank_of i)) → k < n → offset_of banks (a + k) ≡ offset_of banks a + k
  offset_run a n zero has less = let same : a + 0 ≡ a = omega arith in rw same (omega arith)
  offset_run a n (suc k) has less =
      let shift : a + suc k ≡ a + k + 1 = omega arith in
      let before : offset_of banks (a + k) ≡ offset_of banks a + k = offset_run a n k has (omega arith) in
      let next : offset_of banks (a + k + 1) ≡ offset_of banks (a + k) + 1 = offset_next (a + k) (has (a + k) (omega arith) (omega arith)) in
      rw shift (omega arith)

  offset_last : (a n : ℕ) → 0 < n → ((i : ℕ) → a ≤ i → i < a + n → Contains banks (bank_of i)) → offset_of banks (a + n - 1) + 1 ≡ offset_of banks a + n
  offset_last a n some has =
      let shift : a + n - 1 ≡ a + (n - 1) = omega arith in
      let run : offset_of banks (a + (n - 1)) ≡ offset_of banks a + (n - 1) = offset_run a n (n - 1) has (omega arith) in
      rw shift (omega arith)

  -- the bytes of a block lie in the buffer
  pub range_inside : (a n : ℕ) → 0 < n → ((i : ℕ) → a ≤ i → i < a + n → Contains banks (bank_of i)) → a + n ≤ 2 ^ 24
      → offset_of banks a + n ≤ bytes_below banks 256
  range_inside a n some has limit =
      let last = offset_last a n some has in
      let next : bytes_below banks (bank_of (a + n - 1) + 1) ≡ bytes_below banks (bank_of (a + n - 1)) + 0x10000 = below_next (bank_of (a + n - 1)) (has (a + n - 1) (omega arith) (omega arith)) in
      let up : bytes_below banks (bank_of (a + n - 1) + 1) ≤ bytes_below banks 256 = below_le (bank_of (a + n - 1) + 1) 256 (omega arith) in
      omega arith

  -- blocks that lie one before the other do so in the buffer
  pub range_before : (a n b : ℕ) → 0 < n → ((i : ℕ) → a ≤ i → i < a + n → Contains banks (bank_of i)) → a + n ≤ b
      → offset_of banks a + n ≤ offset_of banks b
  range_before a n b some has le =
      let last = offset_last a n some has in
      let less : offset_of banks (a + n - 1) < offset_of banks b = offset_less (a + n - 1) b (omega arith) (has (a + n - 1) (omega arith) (omega arith)) in
      omega arith
