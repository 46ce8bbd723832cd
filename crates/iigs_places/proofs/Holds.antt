-- Blocks that are arranged stay so where the slots are changed.
use Rattle.std.proofs.Common.{◌≡◌, inl, inr, ℕ, Bool, true, false, cond, ◌<◌, List, map, All, length, Option, Some, None, IsSome, IsSomeAnd, IfSome, is_some, refl, ap, ◌∙◌}
use Rattle.std.proofs.Math.ListN.{set, length-set}
use Rattle.std.proofs.lemmas.List.{length-map}
use Rattle.std.proofs.lemmas.Bool.{cases_eq}
use Rattle.iigs_meaning.specs.declared.handles.Handle.{Handle}
use Rattle.iigs_meaning.specs.declared.slots.Slot.{Slot}
use Rattle.iigs_meaning.specs.declared.slots.SlotContent.TheVariants.{Used}
use Rattle.iigs_meaning.specs.declared.wants.Block.{Block}
use Rattle.iigs_meaning.specs.Slots.{slot_at, get, with_slot, with_value, released, after_release}
use Rattle.iigs_meaning.specs.Fits.{block_in}
use Rattle.iigs_meaning.specs.Placement.{emptied_where}
use Rattle.iigs_places.specs.Spots.{IsBounded, IsBoundedSlot}
use Rattle.iigs_places.specs.Extent.{extent}
use Rattle.iigs_places.specs.Arranged.{IsArranged}
use Rattle.iigs_places.proofs.Extents.{each_slot}
use Rattle.iigs_places.proofs.Stays.{StaysIn, Stays, apart_stays, map_stays}
use Rattle.iigs_places.proofs.Changed.{live_block, live_in, with_is, set_here, set_other, set_stays, set_bounded, map_bounded, release_stays, release_bounded}

-- the arrangement with other slots, in which no block moves to another place
pub arranged_stays : (banks : List ℕ) (old new : List (Slot Block)) → IsArranged banks old
    → length new ≡ length old → All IsBoundedSlot new → ((place : ℕ) → Stays old new place) → IsArranged banks new
arranged_stays banks old new store len bounded stays = record {
  small = store.small;
  count = len ∙ store.count;
  bounded = bounded;
  sound = apart_stays banks old new store.sound stays;
}

pub length-with_slot : (slots : List (Slot Block)) (h : Handle) (slot : Slot Block) → length (with_slot slots h slot) ≡ length slots
length-with_slot slots h slot = go (is_some (get slots h))
  where
    go : (b : Bool) → length (cond b (set slots h.slot slot) slots) ≡ length slots
    go true = length-set slots h.slot slot
    go false = refl

pub arranged_map : (test : Block → Bool) (banks : List ℕ) (slots : List (Slot Block)) → IsArranged banks slots
    → IsArranged banks (map (emptied_where test) slots)
arranged_map test banks slots store = arranged_stays banks slots (map (emptied_where test) slots) store
    (length-map slots (emptied_where test)) (map_bounded test slots store.bounded) (map_stays test slots)

pub arranged_release : (banks : List ℕ) (slots : List (Slot Block)) (h : Handle) → IsArranged banks slots
    → IsArranged banks (after_release slots h)
arranged_release banks slots h store = arranged_stays banks slots (after_release slots h) store
    (length-with_slot slots h (released h.generation)) (release_bounded slots h store.bounded) (release_stays slots h)

-- a block in the place of another with its place and size
module _ (slots : List (Slot Block)) (h : Handle) (block old : Block) (was : get slots h ≡ Some old) (place : block.at ≡ old.at) (want : block.want ≡ old.want) where
  live : IsSome (get slots h)
  live = ap is_some was

  put_extent : StaysIn (slot_at slots h.slot) (record { generation = h.generation; content = Used block })
  put_extent =
      let there : block_in (slot_at slots h.slot) ≡ Some old = live_block slots h old was in
      inr (rw (place, want, there) refl)

  pub put_stays : (at : ℕ) → Stays slots (with_value slots h block) at
  put_stays at = rw (with_is slots h (record { generation = h.generation; content = Used block }) live)
      (set_stays slots h.slot (record { generation = h.generation; content = Used block }) (live_in slots h live) put_extent at)

  same_extent : extent (record { generation = h.generation; content = Used block }) ≡ extent (slot_at slots h.slot)
  same_extent =
      let there : block_in (slot_at slots h.slot) ≡ Some old = live_block slots h old was in
      rw (place, want, there) refl

  pub put_same : (at : ℕ) → extent (slot_at (with_value slots h block) at) ≡ extent (slot_at slots at)
  put_same at = rw (with_is slots h (record { generation = h.generation; content = Used block }) live) (elim (cases_eq at h.slot) [
    | inl eq ↦ rw (eq, set_here slots h.slot (record { generation = h.generation; content = Used block }) (live_in slots h live)) same_extent
    | inr ne ↦ rw (set_other slots h.slot (record { generation = h.generation; content = Used block }) at ne) refl
  ])

  pub put_bounded : All IsBoundedSlot slots → block.level < 256 → All IsBoundedSlot (with_value slots h block)
  put_bounded bounded level =
      let there : block_in (slot_at slots h.slot) ≡ Some old = live_block slots h old was in
      let one : IfSome (block_in (slot_at slots h.slot)) IsBounded = each_slot IsBoundedSlot slots tt bounded h.slot in
      let old_bounded : IsBounded old = rw there at one in
      let some : 0 < block.want.size = rw want old_bounded.some in
      rw (with_is slots h (record { generation = h.generation; content = Used block }) live)
      (set_bounded slots h.slot (record { generation = h.generation; content = Used block }) bounded (record {
        want = rw want old_bounded.want;
        some = some;
        level = level;
        ends = rw (place, want) old_bounded.ends;
      }))

pub put_all : (slots : List (Slot Block)) (h : Handle) (block : Block) → IsSomeAnd (get slots h) (λ old. (block.at ≡ old.at) × (block.want ≡ old.want))
    → (old : Block) × (get slots h ≡ Some old) × (block.at ≡ old.at) × (block.want ≡ old.want)
put_all slots h block same = go (get slots h) refl same
  where
    go : (o : Option Block) → get slots h ≡ o → IsSomeAnd o (λ old. (block.at ≡ old.at) × (block.want ≡ old.want))
        → (old : Block) × (get slots h ≡ Some old) × (block.at ≡ old.at) × (block.want ≡ old.want)
    go None is same = absurd same
    go (Some old) is same = (old, is, same.0, same.1)

-- blocks are where they were
pub blocks_same : (slots : List (Slot Block)) (h : Handle) (block : Block) → IsSomeAnd (get slots h) (λ old. (block.at ≡ old.at) × (block.want ≡ old.want))
    → (place : ℕ) → extent (slot_at (with_value slots h block) place) ≡ extent (slot_at slots place)
blocks_same slots h block same = let all = put_all slots h block same in put_same slots h block all.0 all.1 all.2 all.3

pub arranged_changed : (banks : List ℕ) (slots : List (Slot Block)) (h : Handle) (block : Block) → IsArranged banks slots
    → block.level < 256 → IsSomeAnd (get slots h) (λ old. (block.at ≡ old.at) × (block.want ≡ old.want))
    → IsArranged banks (with_value slots h block)
arranged_changed banks slots h block store level same =
    let all = put_all slots h block same in
    arranged_stays banks slots (with_value slots h block) store
    (length-with_slot slots h (record { generation = h.generation; content = Used block }))
    (put_bounded slots h block all.0 all.1 all.2 all.3 store.bounded level) (put_stays slots h block all.0 all.1 all.2 all.3)
