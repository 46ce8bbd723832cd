-- The room is what is left of the free bytes without those of blocks.
use Rattle.std.proofs.Common.{◌≡◌, ◌⊎◌, inl, inr, ℕ, Bool, true, false, cond, zero, suc, ◌+◌, ◌-◌, ◌*◌, ◌^◌, ◌<◌, ◌≤◌, ◌↔◌, ◌==◌, ◌||◌, List, [], ◌∷◌, All, Contains, sum_by, Option, Some, None, IsSomeAnd, IfSome, arith, refl, sym, ap, ◌∙◌}
use Rattle.std.specs.Option.{option_map_or}
use Rattle.std.proofs.lemmas.List.Sums.{sum_by-cons}
use Rattle.std.proofs.lemmas.List.Elements.{All-head, All-tail}
use Rattle.iigs_meaning.specs.declared.slots.Slot.{Slot}
use Rattle.iigs_meaning.specs.declared.wants.Block.{Block}
use Rattle.iigs_meaning.specs.Slots.{slot_at}
use Rattle.iigs_meaning.specs.Free.{bank_of, low_of, first_free, free_end, is_special, IsFree}
use Rattle.iigs_meaning.specs.Fits.{block_in, HoldsByte}
use Rattle.iigs_meaning.specs.Blocks.{AreApart}
use Rattle.iigs_places.specs.Arranged.{Arrangement}
use Rattle.iigs_meaning.specs.Room.{CountsBelow, IsRoom}
use Rattle.iigs_meaning.specs.Room.CountsBelow.{none}
use Rattle.iigs_places.specs.Offsets.{is_named}
use Rattle.iigs_places.specs.Sizes.{free_below, size_in}
use Rattle.iigs_places.specs.Spots.{IsBounded, IsBoundedSlot}
use Rattle.iigs_places.proofs.Counts.{free_below-suc, free_below-zero, named-Contains}
use Rattle.iigs_places.proofs.Counted.{counts_at, counts_same, counts_none, counts_window, counts_either, counts_without}

-- the free range of a bank
range_of : (a b c d : Bool) → (cond (a || b) 0x0800 (cond (c || d) 0x2000 0) ≤ cond (a || b || c || d) 0xC000 0x10000) × (cond (a || b || c || d) 0xC000 0x10000 ≤ 0x10000)
range_of true b c d = (omega arith, omega arith)
range_of false true c d = (omega arith, omega arith)
range_of false false true d = (omega arith, omega arith)
range_of false false false true = (omega arith, omega arith)
range_of false false false false = (omega arith, omega arith)

free_range : (bank : ℕ) → (first_free bank ≤ free_end bank) × (free_end bank ≤ 0x10000)
unfolding first_free free_end is_special
free_range bank = range_of (bank == 0x00) (bank == 0x01) (bank == 0xE0) (bank == 0xE1)

none_below : (P : ℕ → Type 0) (limit : ℕ) → ((i : ℕ) → ¬ P i) → CountsBelow P limit 0
none_below P limit lacks = counts_at P (0 + limit) limit 0 0 (omega arith) refl (counts_none P 0 0 limit none (λ i from to. lacks i))

-- the free bytes of the banks
module _ (banks : List ℕ) where
  bank_is : (bank i : ℕ) → 0x10000 * bank ≤ i → i < 0x10000 * bank + 0x10000 → bank_of i ≡ bank
  bank_is bank i from to = omega arith

  one_bank : (named : Bool) (bank count : ℕ) → is_named banks bank ≡ named → CountsBelow (IsFree banks) (0x10000 * bank) count
      → CountsBelow (IsFree banks) (0x10000 * bank + 0x10000) (count + cond named (free_end bank - first_free bank) 0)
  one_bank true bank count is before = counts_window (IsFree banks) (0x10000 * bank) 0x10000 (first_free bank) (free_end bank) count
      (free_range bank).0 (free_range bank).1 before
      (λ i from to free.
      let same : bank_of i ≡ bank = bank_is bank i from to in
      let above : first_free bank ≤ low_of i = rw same at free.above in
      let below : low_of i < free_end bank = rw same at free.below in
      (omega arith, omega arith))
      (λ i from to.
      let range = free_range bank in
      let same : bank_of i ≡ bank = bank_is bank i (omega arith) (omega arith) in
      record {
        configured = rw same ((named-Contains banks bank).0 is);
        above = rw same (omega arith);
        below = rw same (omega arith);
      })
  one_bank false bank count is before = counts_at (IsFree banks) (0x10000 * bank + 0x10000) (0x10000 * bank + 0x10000) count (count + 0) refl (omega arith)
      (counts_none (IsFree banks) (0x10000 * bank) count 0x10000 before (λ i from to free.
      let same : bank_of i ≡ bank = bank_is bank i from to in
      let has : Contains banks bank = rw same at free.configured in
      let named : is_named banks bank ≡ true = (named-Contains banks bank).1 has in
      absurd (cc)))

  pub free_counts : (bank : ℕ) → CountsBelow (IsFree banks) (0x10000 * bank) (free_below banks bank)
  free_counts zero = counts_at (IsFree banks) 0 (0x10000 * 0) 0 (free_below banks 0) (omega arith) (sym (free_below-zero banks)) none
  free_counts (suc bank) =
      let next : free_below banks (suc bank) ≡ free_below banks bank + cond (is_named banks bank) (free_end bank - first_free bank) 0 = ap (free_below banks) (omega arith) ∙ free_below-suc banks bank in
      counts_at (IsFree banks) (0x10000 * bank + 0x10000) (0x10000 * suc bank) (free_below banks bank + cond (is_named banks bank) (free_end bank - first_free bank) 0) (free_below banks (suc bank))
      (omega arith) (sym next) (one_bank (is_named banks bank) bank (free_below banks bank) refl (free_counts bank))

-- the bytes of one block
block_counts : (limit size : ℕ) (o : Option ℕ) → IfSome o (λ at. at + size ≤ limit)
    → CountsBelow (λ i. IsSomeAnd o (λ first. (first ≤ i) × (i < first + size))) limit (option_map_or (λ at. size) o 0)
block_counts limit size None ends = none_below _ limit (λ i holds. holds)
block_counts limit size (Some at) ends = counts_at _ (0 + limit) limit (0 + (at + size - at)) size (omega arith) (omega arith)
    (counts_window (λ i. (at ≤ i) × (i < at + size)) 0 limit at (at + size) 0 (omega arith) ends none
    (λ i from to has. (omega (arith, has.0), omega (arith, has.1)))
    (λ i from to. (omega arith, omega (arith, to))))

slot_counts : (slot : Slot Block) → IsBoundedSlot slot → CountsBelow (λ i. HoldsByte i slot) (2 ^ 24) (size_in slot)
slot_counts slot bounded = go (block_in slot) bounded
  where
    go : (o : Option Block) → IfSome o IsBounded → CountsBelow (λ i. IsSomeAnd o (λ block. IsSomeAnd block.at (λ first. (first ≤ i) × (i < first + block.want.size)))) (2 ^ 24)
        (option_map_or (λ block. option_map_or (λ at. block.want.size) block.at 0) o 0)
    go None bounded = none_below _ (2 ^ 24) (λ i holds. holds)
    go (Some block) bounded = block_counts (2 ^ 24) block.want.size block.at bounded.ends

-- the byte lies in some slot's block
abbrev pub IsHeld : List (Slot Block) → ℕ → Type 0
IsHeld slots i = (place : ℕ) × HoldsByte i (slot_at slots place)

held_cons : (slot : Slot Block) (slots : List (Slot Block)) (i : ℕ) → (HoldsByte i slot ⊎ IsHeld slots i) ↔ IsHeld (slot ∷ slots) i
held_cons slot slots i = (to, λ held. from held.0 held.1)
  where
    to : HoldsByte i slot ⊎ IsHeld slots i → IsHeld (slot ∷ slots) i
    to (inl here) = (zero, here)
    to (inr there) = (suc there.0, there.1)

    from : (place : ℕ) → HoldsByte i (slot_at (slot ∷ slots) place) → HoldsByte i slot ⊎ IsHeld slots i
    from zero here = inl here
    from (suc place) there = inr (place, there)

-- the bytes of blocks that share none
pub held_counts : (slots : List (Slot Block)) → All IsBoundedSlot slots
    → ((place other i : ℕ) → HoldsByte i (slot_at slots place) → HoldsByte i (slot_at slots other) → place ≡ other)
    → CountsBelow (IsHeld slots) (2 ^ 24) (sum_by size_in slots)
held_counts [] bounded apart = none_below (IsHeld []) (2 ^ 24) (λ i held. held.1)
held_counts (slot ∷ slots) bounded apart =
    let first : CountsBelow (λ i. HoldsByte i slot) (2 ^ 24) (size_in slot) = slot_counts slot (All-head IsBoundedSlot slot slots bounded) in
    let rest : CountsBelow (IsHeld slots) (2 ^ 24) (sum_by size_in slots) = held_counts slots (All-tail IsBoundedSlot slot slots bounded)
    (λ place other i one two. omega (arith, apart (suc place) (suc other) i one two)) in
    let both : CountsBelow (λ i. HoldsByte i slot ⊎ IsHeld slots i) (2 ^ 24) (size_in slot + sum_by size_in slots) =
    counts_either (λ i. HoldsByte i slot) (IsHeld slots) (2 ^ 24) (size_in slot) (sum_by size_in slots) first rest
    (λ i here there. absurd (omega (arith, apart zero (suc there.0) i here there.1))) in
    rw (sum_by-cons size_in slot slots) (counts_same (λ i. HoldsByte i slot ⊎ IsHeld slots i) (IsHeld (slot ∷ slots)) (2 ^ 24) (size_in slot + sum_by size_in slots) both
    (λ i less. held_cons slot slots i))

-- the room and the bytes of the blocks are the free bytes
pub room_counts : (places : Arrangement) → All IsBoundedSlot places.slots → AreApart places.banks places.slots
    → (room : ℕ) × (room + sum_by size_in places.slots ≡ free_below places.banks 256) × CountsBelow (IsRoom places.banks places.slots) (2 ^ 24) room
room_counts places bounded apart =
    let free : CountsBelow (IsFree places.banks) (2 ^ 24) (free_below places.banks 256) = free_counts places.banks 256 in
    let held : CountsBelow (IsHeld places.slots) (2 ^ 24) (sum_by size_in places.slots) = held_counts places.slots bounded apart.apart in
    let left = counts_without (IsFree places.banks) (IsHeld places.slots) (2 ^ 24) (free_below places.banks 256) (sum_by size_in places.slots) free held
    (λ i held. apart.inside held.0 i held.1) in (
      left.0,
      left.1,
      counts_same (λ i. IsFree places.banks i × ¬ IsHeld places.slots i) (IsRoom places.banks places.slots) (2 ^ 24) left.0 left.2
          (λ i less. (λ both. record { free = both.0; no_block = λ place holds. both.1 (place, holds) }, λ room. (room.free, λ held. room.no_block held.0 held.1))),
    )
