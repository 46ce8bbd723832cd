-- Where blocks begin, and how many bytes they have.
use Rattle.std.proofs.Common.{◌≡◌, inl, inr, ℕ, ◌+◌, ◌<◌, ◌≤◌, ◌^◌, List, All, length, Option, Some, None, IsSomeAnd, IfSome, is_some, unwrap_or, arith, refl}
use Rattle.std.specs.Option.{option_and_then}
use Rattle.std.proofs.Math.ListN.{get_or-eq_default}
use Rattle.std.proofs.lemmas.List.{get_or_default}
use Rattle.std.proofs.lemmas.Bool.{cases_lt}
use Rattle.iigs_meaning.specs.declared.slots.Slot.{Slot}
use Rattle.iigs_meaning.specs.declared.wants.Block.{Block}
use Rattle.iigs_meaning.specs.Slots.{slot_at, new_slot}
use Rattle.iigs_meaning.specs.Fits.{HoldsByte, block_in}
use Rattle.iigs_meaning.specs.Blocks.{address_in}
use Rattle.iigs_places.specs.Spots.{IsBounded, IsBoundedSlot}
use Rattle.iigs_places.specs.Extent.{extent_of_size, extent_of, extent, Spans}

module _ (i : ℕ) where
  holds_block : (o : Option ℕ) (size : ℕ) → IsSomeAnd o (λ first. (first ≤ i) × (i < first + size)) → IsSomeAnd (extent_of_size size o) (Spans i)
  holds_block None size holds = holds
  holds_block (Some at) size holds = holds

  block_holds : (o : Option ℕ) (size : ℕ) → IsSomeAnd (extent_of_size size o) (Spans i) → IsSomeAnd o (λ first. (first ≤ i) × (i < first + size))
  block_holds None size holds = holds
  block_holds (Some at) size holds = holds

  holds_in : (o : Option Block) → IsSomeAnd o (λ block. IsSomeAnd block.at (λ first. (first ≤ i) × (i < first + block.want.size))) → IsSomeAnd (option_and_then extent_of o) (Spans i)
  holds_in None holds = holds
  holds_in (Some block) holds = holds_block block.at block.want.size holds

  in_holds : (o : Option Block) → IsSomeAnd (option_and_then extent_of o) (Spans i) → IsSomeAnd o (λ block. IsSomeAnd block.at (λ first. (first ≤ i) × (i < first + block.want.size)))
  in_holds None holds = holds
  in_holds (Some block) holds = block_holds block.at block.want.size holds

  pub holds_to : (slot : Slot Block) → HoldsByte i slot → IsSomeAnd (extent slot) (Spans i)
  holds_to slot = holds_in (block_in slot)

  pub holds_from : (slot : Slot Block) → IsSomeAnd (extent slot) (Spans i) → HoldsByte i slot
  holds_from slot = in_holds (block_in slot)

there_block : (o : Option ℕ) (size : ℕ) → is_some o ≡ is_some (extent_of_size size o)
there_block None size = refl
there_block (Some at) size = refl

there_is : (o : Option Block) → is_some (option_and_then (λ block. block.at) o) ≡ is_some (option_and_then extent_of o)
there_is None = refl
there_is (Some block) = there_block block.at block.want.size

pub there_extent : (slot : Slot Block) → is_some (address_in slot) ≡ is_some (extent slot)
there_extent slot = there_is (block_in slot)

bounded_block : (o : Option ℕ) (size : ℕ) → 0 < size → IfSome o (λ at. at + size ≤ 2 ^ 24) → IfSome (extent_of_size size o) (λ e. (0 < e.1) × (e.0 + e.1 ≤ 2 ^ 24))
bounded_block None size some ends = tt
bounded_block (Some at) size some ends = (some, ends)

bounded_is : (o : Option Block) → IfSome o IsBounded → IfSome (option_and_then extent_of o) (λ e. (0 < e.1) × (e.0 + e.1 ≤ 2 ^ 24))
bounded_is None bounded = tt
bounded_is (Some block) bounded = bounded_block block.at block.want.size bounded.some bounded.ends

pub bounded_extent : (slot : Slot Block) → IsBoundedSlot slot → IfSome (extent slot) (λ e. (0 < e.1) × (e.0 + e.1 ≤ 2 ^ 24))
bounded_extent slot bounded = bounded_is (block_in slot) bounded

-- a fact of each slot
pub each_slot : (P : Slot Block → Type 0) (slots : List (Slot Block)) → P new_slot → All P slots → (place : ℕ) → P (slot_at slots place)
each_slot P slots none all place = elim (cases_lt place (length slots)) [
  | inl lt ↦ all place new_slot lt
  | inr le ↦ rw (get_or-eq_default slots new_slot le) none
]

pub all_slots : (P : Slot Block → Type 0) (slots : List (Slot Block)) → ((place : ℕ) → P (slot_at slots place)) → All P slots
all_slots P slots each k d inside = rw (get_or_default slots k d new_slot inside) (each k)

start_block : (o : Option ℕ) (size : ℕ) (f : ℕ × ℕ) → extent_of_size size o ≡ Some f → unwrap_or o 0 ≡ f.0
start_block None size f there = absurd (cc)
start_block (Some at) size f there = cc

start_in : (o : Option Block) (f : ℕ × ℕ) → option_and_then extent_of o ≡ Some f → unwrap_or (option_and_then (λ block. block.at) o) 0 ≡ f.0
start_in None f there = absurd (cc)
start_in (Some block) f there = start_block block.at block.want.size f there

pub start_extent : (slot : Slot Block) (f : ℕ × ℕ) → extent slot ≡ Some f → unwrap_or (address_in slot) 0 ≡ f.0
start_extent slot f there = start_in (block_in slot) f there

-- a block's bytes have addresses of 24 bits
pub holds_below : (slots : List (Slot Block)) → All IsBoundedSlot slots → (place address : ℕ) → HoldsByte address (slot_at slots place) → address < 2 ^ 24
holds_below slots bounded place address holds = go (extent (slot_at slots place)) (bounded_extent (slot_at slots place) (each_slot IsBoundedSlot slots tt bounded place)) (holds_to address (slot_at slots place) holds)
  where
    go : (o : Option (ℕ × ℕ)) → IfSome o (λ e. (0 < e.1) × (e.0 + e.1 ≤ 2 ^ 24)) → IsSomeAnd o (Spans address) → address < 2 ^ 24
    go None limit spans = absurd spans
    go (Some e) limit spans = omega (arith, limit.1, spans.1)
