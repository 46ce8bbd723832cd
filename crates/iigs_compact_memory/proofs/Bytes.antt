-- How many bytes are left beside the blocks that aren't purgeable: a want of more fits nowhere after a slide.
use Rattle.std.proofs.Common.{◌≡◌, inl, inr, ℕ, zero, suc, Bool, true, false, cond, ◌&&◌, ◌+◌, ◌^◌, ◌<◌, ◌≤◌, nat_lt, List, [], ◌∷◌, All, sum_by, Option, Some, None, IfSome, refl, sym, ap, subst, ◌∙◌, arith}
use Rattle.std.proofs.lemmas.Bool.{cases_lt}
use Rattle.std.proofs.lemmas.List.Sums.{sum_by-cons}
use Rattle.iigs_meaning.specs.declared.slots.Slot.{Slot}
use Rattle.iigs_meaning.specs.declared.slots.SlotContent.{SlotContent}
use Rattle.iigs_meaning.specs.declared.slots.SlotContent.TheVariants.{Free, Used, Retired}
use Rattle.iigs_meaning.specs.declared.wants.Want.{Want}
use Rattle.iigs_meaning.specs.declared.wants.Block.{Block}
use Rattle.iigs_meaning.specs.Slots.{slot_at}
use Rattle.iigs_meaning.specs.Free.{IsFree}
use Rattle.iigs_meaning.specs.Fits.{Slots, Fits, HoldsByte, block_in}
use Rattle.iigs_meaning.specs.Placement.{can_purge, emptied_where, slots_after_purges, is_gone, rank}
use Rattle.iigs_meaning.specs.Room.{CountsBelow, IsRoom}
use Rattle.iigs_meaning.specs.Room.CountsBelow.{none, one_more, no_more}
use Rattle.iigs_meaning.specs.Slide.{movable_block, place_of, moved_to, Slides}
use Rattle.iigs_meaning.specs.laws.SlideLaws.{mover_in, lies, has_bytes}
use Rattle.iigs_places.specs.Arranged.{Arrangement, IsArranged}
use Rattle.iigs_places.specs.Sizes.{free_below, size_in, lasting_in}
use Rattle.iigs_places.specs.Spots.{IsBounded, IsBoundedSlot}
use Rattle.iigs_places.proofs.Extents.{each_slot, all_slots}
use Rattle.iigs_places.proofs.Moved.{arranged_gone}
use Rattle.iigs_places.proofs.Puts.{free_limit}
use Rattle.iigs_places.proofs.Room.{room_counts}
use Rattle.iigs_places.proofs.Stays.{slot_at-map}
use Rattle.iigs_compact_memory.specs.Needs.{NoneAfter}
use Rattle.iigs_compact_memory.proofs.Still.{apart_at}

-- a run of numbers that all have a property is no longer than their count
counts_within : (P : ℕ → Type 0) (limit count from size : ℕ) → CountsBelow P limit count → ((i : ℕ) → from ≤ i → i < from + size → P i) → from + size ≤ limit → size ≤ count
counts_within P _ _ from size none all ends = omega (arith, ends)
counts_within P _ _ from zero (one_more limit count before has) all ends = omega arith
counts_within P _ _ from (suc size) (one_more limit count before has) all ends =
    omega (arith, counts_within P limit count from size before (λ i low high. all i low (omega (arith, high))) (omega (arith, ends)))
counts_within P _ _ from zero (no_more limit count before lacks) all ends = omega arith
counts_within P _ _ from (suc size) (no_more limit count before lacks) all ends = elim (cases_lt (from + size) limit) [
  | inl less ↦ counts_within P limit count from (suc size) before all (omega (arith, less))
  | inr ge ↦ absurd (lacks (all limit (omega (arith, ends, ge)) (omega (arith, ends, ge))))
]

-- ---- a slide keeps how many bytes there are

size_there : (slot : Slot Block) (block : Block) → block_in slot ≡ Some block → block.at ≡ Some (place_of block) → size_in slot ≡ block.want.size
size_there slot block is lies = rw (is, lies) refl

module _ (banks : List ℕ) (old new : Slots) (arranged : IsArranged banks old) (slides : Slides banks old new) where
  size_slid : (place : ℕ) → size_in (slot_at new place) ≡ size_in (slot_at old place)
  size_slid place = go (movable_block (slot_at old place)) refl
    where
      go : (o : Option Block) → movable_block (slot_at old place) ≡ o → size_in (slot_at new place) ≡ size_in (slot_at old place)
      go None is = ap size_in (slides.stay place is)
      go (Some block) is =
          ap size_in (slides.goes place block is).2 ∙ sym (size_there (slot_at old place) block (mover_in (slot_at old place) block is).0 (lies (slot_at old place) block is))

  -- the bytes of a block that moves are those from its new address on
  moved_bytes : (place i : ℕ) (block : Block) (is : movable_block (slot_at old place) ≡ Some block) → HoldsByte i (slot_at new place)
      → ((slides.goes place block is).0 ≤ i) × (i < (slides.goes place block is).0 + block.want.size)
  moved_bytes place i block is holds = subst (HoldsByte i) (slides.goes place block is).2 holds

  inside : (place i : ℕ) → HoldsByte i (slot_at new place) → IsFree banks i
  inside place i holds = go (movable_block (slot_at old place)) refl
    where
      go : (o : Option Block) → movable_block (slot_at old place) ≡ o → IsFree banks i
      go None is = arranged.sound.inside place i (subst (HoldsByte i) (slides.stay place is) holds)
      go (Some block) is = let there = moved_bytes place i block is holds in (slides.goes place block is).1.fits.open_.free i there.0 there.1

  beside_still : (place other i : ℕ) (block : Block) → movable_block (slot_at old place) ≡ Some block → movable_block (slot_at old other) ≡ None → HoldsByte i (slot_at new place) → HoldsByte i (slot_at new other) → ⊥
  beside_still place other i block is still one two =
      let there = moved_bytes place i block is one in
      (slides.goes place block is).1.fits.stay other still i there.0 there.1 (subst (HoldsByte i) (slides.stay other still) two)

  beside_moved : (place other i : ℕ) (block above : Block) → movable_block (slot_at old place) ≡ Some block → movable_block (slot_at old other) ≡ Some above → place_of block < place_of above
      → HoldsByte i (slot_at new place) → HoldsByte i (slot_at new other) → ⊥
  beside_moved place other i block above is is' less one two =
      let there = moved_bytes other i above is' two in
      (slides.goes other above is').1.fits.moved place block is less i there.0 there.1 one

  same_start : (place other i : ℕ) (block second : Block) → movable_block (slot_at old place) ≡ Some block → movable_block (slot_at old other) ≡ Some second → place_of block ≡ place_of second
      → HoldsByte i (slot_at new place) → HoldsByte i (slot_at new other) → place ≡ other
  same_start place other i block second is is' same one two =
      let here = moved_bytes place i block is one in
      let there = moved_bytes other i second is' two in
      arranged.sound.apart place other (place_of block)
      (has_bytes (slot_at old place) block is (place_of block) (omega arith) (omega (arith, here.0, here.1)))
      (has_bytes (slot_at old other) second is' (place_of block) (omega (arith, same)) (omega (arith, same, there.0, there.1)))

  apart : (place other i : ℕ) → HoldsByte i (slot_at new place) → HoldsByte i (slot_at new other) → place ≡ other
  apart place other i one two = go (movable_block (slot_at old place)) refl (movable_block (slot_at old other)) refl
    where
      go : (o : Option Block) → movable_block (slot_at old place) ≡ o → (p : Option Block) → movable_block (slot_at old other) ≡ p → place ≡ other
      go None is None is' = arranged.sound.apart place other i (subst (HoldsByte i) (slides.stay place is) one) (subst (HoldsByte i) (slides.stay other is') two)
      go None is (Some block) is' = absurd (beside_still other place i block is' is two one)
      go (Some block) is None is' = absurd (beside_still place other i block is is' one two)
      go (Some block) is (Some second) is' = elim (cases_lt (place_of block) (place_of second)) [
        | inl less ↦ absurd (beside_moved place other i block second is is' less one two)
        | inr ge ↦ elim (cases_lt (place_of second) (place_of block)) [
          | inl less ↦ absurd (beside_moved other place i second block is' is less two one)
          | inr le ↦ same_start place other i block second is is' (omega (arith, ge, le)) one two
        ]
      ]

  bounded : All IsBoundedSlot new
  bounded = all_slots IsBoundedSlot new (λ place. go place (movable_block (slot_at old place)) refl)
    where
      was : (place : ℕ) → IsBoundedSlot (slot_at old place)
      was place = each_slot IsBoundedSlot old tt arranged.bounded place

      go : (place : ℕ) (o : Option Block) → movable_block (slot_at old place) ≡ o → IsBoundedSlot (slot_at new place)
      go place None is = subst IsBoundedSlot (sym (slides.stay place is)) (was place)
      go place (Some block) is =
          let one : IsBounded block = subst (λ (o : Option Block). IfSome o IsBounded) (mover_in (slot_at old place) block is).0 (was place) in
          let goes = slides.goes place block is in
          let moved : IsBounded (moved_to goes.0 block) = record { want = one.want; some = one.some; level = one.level; ends = free_limit banks goes.0 block.want.size arranged.small one.some goes.1.fits.open_.free } in
          subst IsBoundedSlot (sym goes.2) moved

  -- a want that fits after the slide and the blocks have no more bytes than are free
  fits_within : (want : Want) (address : ℕ) → 0 < want.size → Fits banks new want address → want.size + sum_by size_in new ≤ free_below banks 256
  fits_within want address some fits =
      let slid : Arrangement = record { banks = banks; slots = new } in
      let counts = room_counts slid bounded (record { inside = inside; apart = apart }) in
      let enough : want.size ≤ counts.0 = counts_within (IsRoom banks new) (2 ^ 24) counts.0 address want.size counts.2
      (λ i from to. record { free = fits.free i from to; no_block = λ place. apart_at address want.size new fits.apart place i from to })
      (free_limit banks address want.size arranged.small some fits.free) in
      omega (arith, counts.1, enough)

-- ---- purgeable blocks

-- a block that isn't purgeable is there whatever is purged
lasting_stays : (slots : Slots) (count : ℕ) (slot : Slot Block) → lasting_in slot ≤ size_in (emptied_where (is_gone slots count) slot)
unfolding is_gone
lasting_stays slots count slot = go slot.generation slot.content
  where
    used : (generation : ℕ) (block : Block) (b : Bool) → cond b 0 (size_in (record { generation = generation; content = Used block }))
        ≤ size_in (cond (b && nat_lt (rank slots block) count) (record { generation = generation; content = Used (record block { at = None }) }) (record { generation = generation; content = Used block }))
    used generation block true = omega arith
    used generation block false = omega arith

    go : (generation : ℕ) (content : SlotContent Block) → lasting_in (record { generation = generation; content = content }) ≤ size_in (emptied_where (is_gone slots count) (record { generation = generation; content = content }))
    go generation Free = omega arith
    go generation Retired = omega arith
    go generation (Used block) = used generation block (can_purge block)

sums_below : (xs ys : Slots) → ((place : ℕ) → lasting_in (slot_at xs place) ≤ size_in (slot_at ys place)) → sum_by lasting_in xs ≤ sum_by size_in ys
sums_below [] ys each = omega arith
sums_below (x ∷ xs) [] each =
    let rest : sum_by lasting_in xs ≤ sum_by size_in [] = sums_below xs [] (λ place. each (suc place)) in
    omega (arith, sum_by-cons lasting_in x xs, each zero, rest)
sums_below (x ∷ xs) (y ∷ ys) each = omega (arith, sum_by-cons lasting_in x xs, sum_by-cons size_in y ys, each zero, sums_below xs ys (λ place. each (suc place)))

-- a want of more bytes than are left beside the blocks that aren't purgeable fits nowhere after a slide
pub none_large : (banks : List ℕ) (slots : Slots) (want : Want) (room : ℕ) → IsArranged banks slots → 0 < want.size → room + sum_by lasting_in slots ≡ free_below banks 256 → room < want.size
    → (count : ℕ) → NoneAfter banks slots want count
unfolding slots_after_purges
none_large banks slots want room arranged some is less count slid slides address fits =
    let gone = arranged_gone banks slots count arranged in
    let all = fits_within banks (slots_after_purges slots count) slid gone slides want address some fits in
    let each : (place : ℕ) → lasting_in (slot_at slots place) ≤ size_in (slot_at slid place) = λ place.
    let same : size_in (slot_at slid place) ≡ size_in (emptied_where (is_gone slots count) (slot_at slots place)) =
    size_slid banks (slots_after_purges slots count) slid gone slides place ∙ ap size_in (slot_at-map (emptied_where (is_gone slots count)) slots place refl) in
    omega (arith, same, lasting_stays slots count (slot_at slots place)) in
    absurd (omega (arith, is, less, all, sums_below slots slid each))
