-- What bars a block in one bank.
use Rattle.std.proofs.Common.{◌≡◌, ℕ, ◌+◌, ◌*◌, ◌/◌, ◌%◌, ◌^◌, ◌<◌, ◌≤◌, max, min, List, arith, All, Contains, subst, ◌-◌, inl, inr}
use Rattle.std.proofs.lemmas.Bool.{cases_lt}
use Rattle.iigs_meaning.specs.declared.wants.Want.{Want}
use Rattle.iigs_meaning.specs.Free.{first_free, free_end, IsFree}
use Rattle.iigs_places.specs.declared.open.AddressSpan.{AddressSpan}
use Rattle.iigs_places.specs.Open.{Permits, Allows, AllowsNone, IsSpan, IsClear, ClearIn, BarredUpTo, IsNextStand, IsOpen}

-- the numbers at a call: the bank's number, the address, and the end of the block
pub record Reaches (bank at end size : ℕ) : Type 0 where
  pub small : bank < 256
  pub ends : end ≡ at + size
  pub first : at / 0x10000 ≤ bank
  pub last : bank * 0x10000 < end
  pub some : 0 < size

module _ (banks : List ℕ) (want : Want) (bank at end : ℕ) (reach : Reaches bank at end want.size) where
  -- a byte of the bank that may not belong to the block bars each address up to a later one
  barred_by : (later : ℕ) → at < later → later ≤ bank * 0x10000 + 0x10000
      → ((other : ℕ) → at ≤ other → other < later → (i : ℕ) × (other ≤ i) × (i < other + want.size) × ¬ Allows banks want i)
      → BarredUpTo banks want at later
  barred_by later after limit byte = record {
    after = after;
    limit = let b : bank < 256 = reach.small in omega arith;
    barred = λ other from to clear. let found = byte other from to in found.3 (clear.allowed found.0 found.1 found.2);
  }

  pub barred_none : AllowsNone banks want bank → BarredUpTo banks want at (bank * 0x10000 + 0x10000)
  barred_none none = barred_by (bank * 0x10000 + 0x10000) (omega (arith, reach.first)) (omega arith)
      (λ other from to. (
        max other (bank * 0x10000),
        omega arith,
        omega (arith, reach.ends, reach.last, reach.some),
        none (max other (bank * 0x10000)) (omega (arith, reach.first)),
      ))

  pub barred_from : (span : AddressSpan) → IsSpan banks want bank span → max at (bank * 0x10000) < bank * 0x10000 + span.from
      → BarredUpTo banks want at (bank * 0x10000 + span.from)
  barred_from span is less = barred_by (bank * 0x10000 + span.from) (omega arith) (omega (arith, is.begins))
      (λ other from to. (
        max other (bank * 0x10000),
        omega arith,
        omega (arith, reach.ends, reach.last, reach.some),
        λ allows. let low : span.from ≤ max other (bank * 0x10000) % 0x10000 = is.from (max other (bank * 0x10000)) (omega (arith, is.begins)) allows in omega (arith, is.begins),
      ))

  pub barred_to : (span : AddressSpan) → IsSpan banks want bank span → bank * 0x10000 + span.to < min end (bank * 0x10000 + 0x10000)
      → BarredUpTo banks want at (bank * 0x10000 + 0x10000)
  barred_to span is less = barred_by (bank * 0x10000 + 0x10000) (omega (arith, reach.first)) (omega arith)
      (λ other from to. (
        max other (bank * 0x10000 + span.to),
        omega arith,
        omega (arith, reach.ends, reach.last, reach.some),
        λ allows. let low : max other (bank * 0x10000 + span.to) % 0x10000 < span.to = is.to (max other (bank * 0x10000 + span.to)) (omega arith) allows in omega arith,
      ))

  pub clear_in : (span : AddressSpan) → IsSpan banks want bank span → bank * 0x10000 + span.from ≤ max at (bank * 0x10000)
      → min end (bank * 0x10000 + 0x10000) ≤ bank * 0x10000 + span.to → ClearIn banks want bank at
  clear_in span is from to i above below in_bank = is.all i in_bank (omega arith) (omega (arith, reach.ends))

-- a bank that is configured and permitted has the span of its free memory
pub span_is : (banks : List ℕ) (want : Want) (bank from to : ℕ) → Contains banks bank → Permits want bank
    → from ≡ first_free bank → to ≡ free_end bank → from ≤ 0x10000 → to ≤ 0x10000 → IsSpan banks want bank (record { from = from; to = to })
span_is banks want bank from to named permits f t fs ts = record {
  begins = fs;
  within = ts;
  all = λ i in_bank above below. record {
    free = record { configured = rw in_bank named; above = rw (in_bank, ← f) above; below = rw (in_bank, ← t) below };
    permitted = rw in_bank permits;
  };
  from = λ i in_bank allows. rw (f, ← in_bank) allows.free.above;
  to = λ i in_bank allows. rw (t, ← in_bank) allows.free.below;
}

-- a block that is clear ends within the addresses of banks
pub clear_limit : (banks : List ℕ) (want : Want) (address : ℕ) → All (λ bank. bank < 256) banks → 0 < want.size
    → IsClear banks want address → address + want.size ≤ 2 ^ 24
clear_limit banks want address small some clear =
    let last : ℕ = address + want.size - 1 in
    let free : IsFree banks last = (clear.allowed last (omega arith) (omega arith)).free in
    let bank : last / 0x10000 < 256 = subst (λ (b : ℕ). b < 256) free.configured.2 (small free.configured.0 (last / 0x10000) free.configured.1) in
    omega arith

-- nothing is open below an address, nor from there up to the next place at which a block may begin, nor from there up to where the bar ends
pub none_open_to : (banks : List ℕ) (want : Want) (from at place later : ℕ)
    → ((other : ℕ) → from ≤ other → other < at → ¬ IsOpen banks want other)
    → IsNextStand want at place → BarredUpTo banks want place later
    → (other : ℕ) → from ≤ other → other < later → ¬ IsOpen banks want other
none_open_to banks want from at place later before next bar other above below open_ = elim (cases_lt other at) [
  | inl lt ↦ before other above lt open_
  | inr ge ↦ elim (cases_lt other place) [
    | inl lt ↦ next.first other ge lt open_.stands
    | inr ge' ↦ bar.barred other ge' below open_.clear
  ]
]

pub none_open_past : (banks : List ℕ) (want : Want) (from at place : ℕ)
    → ((other : ℕ) → from ≤ other → other < at → ¬ IsOpen banks want other)
    → IsNextStand want at place → All (λ bank. bank < 256) banks → 0 < want.size → 2 ^ 24 < place + want.size
    → (other : ℕ) → from ≤ other → ¬ IsOpen banks want other
none_open_past banks want from at place before next small some past other above open_ = elim (cases_lt other at) [
  | inl lt ↦ before other above lt open_
  | inr ge ↦ elim (cases_lt other place) [
    | inl lt ↦ next.first other ge lt open_.stands
    | inr ge' ↦ let limit : other + want.size ≤ 2 ^ 24 = clear_limit banks want other small some open_.clear in absurd (omega arith)
  ]
]
