-- A block that was put where its want goes.
use Rattle.std.proofs.Common.{◌≡◌, ◌≢◌, inl, inr, ℕ, Bool, true, false, cond, ◌==◌, ◌+◌, ◌-◌, ◌<◌, ◌≤◌, ◌^◌, ◌/◌, List, map, All, length, Option, Some, None, IsSome, IsSomeAnd, IfSome, is_some, arith, refl, ap, ◌∙◌, subst}
use Rattle.std.proofs.Math.ListN.{set, length-set}
use Rattle.std.proofs.lemmas.List.{length-map}
use Rattle.iigs_meaning.specs.declared.handles.Handle.{Handle}
use Rattle.iigs_meaning.specs.declared.slots.Slot.{Slot}
use Rattle.iigs_meaning.specs.declared.slots.SlotContent.{SlotContent}
use Rattle.iigs_meaning.specs.declared.slots.SlotContent.TheVariants.{Free, Used, Retired}
use Rattle.iigs_meaning.specs.declared.wants.Want.{Want}
use Rattle.iigs_meaning.specs.declared.wants.Block.{Block}
use Rattle.iigs_meaning.specs.Slots.{slot_at, get, used_value}
use Rattle.iigs_meaning.specs.Free.{IsFree}
use Rattle.iigs_meaning.specs.Fits.{IsWant, HoldsByte, IsApart, block_in}
use Rattle.iigs_meaning.specs.Placement.{emptied_where, slots_after_purges, is_gone, GoesTo}
use Rattle.iigs_meaning.specs.Puts.{placed_block, Purges, Puts, PutsAnew}
use Rattle.iigs_meaning.specs.Blocks.{AreApart}
use Rattle.iigs_places.specs.Spots.{IsBounded, IsBoundedSlot}
use Rattle.iigs_places.specs.Extent.{extent, Spans}
use Rattle.iigs_places.specs.Arranged.{IsArranged}
use Rattle.iigs_places.specs.declared.table.PlacedBlock.{PlacedBlock}
use Rattle.iigs_places.specs.Table.{IsPut, IsReput}
use Rattle.iigs_places.proofs.Extents.{each_slot, holds_to}
use Rattle.iigs_places.proofs.Takes.{gone_handle}
use Rattle.iigs_places.proofs.Stays.{StaysIn, Stays, apart_stays, apart_placed, map_stays, slot_at-map}
use Rattle.iigs_places.proofs.Changed.{set_other, set_here, set_bounded, gone_bounded, taken, set_others_stay, live_block, live_in, with_is}

pub gone_stays : (slots : List (Slot Block)) (count place : ℕ) → Stays slots (slots_after_purges slots count) place
unfolding slots_after_purges
gone_stays slots count = map_stays (is_gone slots count) slots

pub length-emptied : (slots : List (Slot Block)) (count : ℕ) → length (slots_after_purges slots count) ≡ length slots
unfolding slots_after_purges
length-emptied slots count = length-map slots (emptied_where (is_gone slots count))

-- a block whose bytes are all free ends within the addresses of banks
pub free_limit : (banks : List ℕ) (address size : ℕ) → All (λ bank. bank < 256) banks → 0 < size
    → ((i : ℕ) → address ≤ i → i < address + size → IsFree banks i) → address + size ≤ 2 ^ 24
free_limit banks address size small some free =
    let last : ℕ = address + size - 1 in
    let here : IsFree banks last = free last (omega arith) (omega arith) in
    let bank : last / 0x10000 < 256 = subst (λ (b : ℕ). b < 256) here.configured.2 (small here.configured.0 (last / 0x10000) here.configured.1) in
    omega arith

-- slots in which one has a block where its want goes, and the first blocks are emptied
module _ (banks : List ℕ) (small : All (λ bank. bank < 256) banks) (old : List (Slot Block)) (want : Want) (is_want : IsWant want) (count address : ℕ)
    (goes : GoesTo banks old want count address) (bounded : All IsBoundedSlot old) (sound : AreApart banks old)
    (user : ℕ) (locked : Bool) (level : ℕ) (movable : Bool) (low : level < 256) (at generation : ℕ) (inside : at < length old) where
  abbrev pub put_in : List (Slot Block)
  put_in = set (slots_after_purges old count) at (record { generation = generation; content = Used (placed_block want address user locked level movable) })

  inside' : at < length (slots_after_purges old count)
  inside' = omega (arith, length-emptied old count)

  pub put_length : length put_in ≡ length old
  put_length = length-set (slots_after_purges old count) at (record { generation = generation; content = Used (placed_block want address user locked level movable) }) ∙ length-emptied old count

  pub put_extent : extent (slot_at put_in at) ≡ Some (address, want.size)
  put_extent = rw (set_here (slots_after_purges old count) at (record { generation = generation; content = Used (placed_block want address user locked level movable) }) inside') refl

  pub put_bounded : All IsBoundedSlot put_in
  put_bounded = set_bounded (slots_after_purges old count) at (record { generation = generation; content = Used (placed_block want address user locked level movable) })
      (gone_bounded count old bounded) (record { want = is_want; some = is_want.some; level = low; ends = free_limit banks address want.size small is_want.some goes.fits.free })

  pub put_others : (place : ℕ) → place ≢ at → Stays old put_in place
  put_others place ne = rw (set_other (slots_after_purges old count) at (record { generation = generation; content = Used (placed_block want address user locked level movable) }) place ne) (gone_stays old count place)

  pub put_apart : ((i : ℕ) → ¬ HoldsByte i (slot_at (slots_after_purges old count) at)) → AreApart banks put_in
  put_apart none = apart_placed banks (slots_after_purges old count) put_in at (address, want.size) (apart_stays banks old (slots_after_purges old count) sound (gone_stays old count))
      (set_others_stay (slots_after_purges old count) at (record { generation = generation; content = Used (placed_block want address user locked level movable) }))
      put_extent (λ i spans. goes.fits.free i spans.0 spans.1)
      (λ place i ne spans holds. each_slot (IsApart address want.size) (slots_after_purges old count) (λ i from to holds. absurd holds) goes.fits.apart place i spans.0 spans.1 holds)

-- what a placement leaves of the slots
pub record PutFacts (banks : List ℕ) (old : List (Slot Block)) (want : Want) (put : PlacedBlock) (new : List (Slot Block)) : Type 0 where
  pub len : length new ≡ length old
  pub bounded : All IsBoundedSlot new
  pub others : (place : ℕ) → place ≢ put.handle.slot → Stays old new place
  pub is : extent (slot_at new put.handle.slot) ≡ Some (put.at, want.size)
  pub sound : AreApart banks new

no_byte : (slot : Slot Block) (i : ℕ) → block_in slot ≡ None → ¬ HoldsByte i slot
no_byte slot i none holds = let no : IsSomeAnd {T = Block} None (λ block. IsSomeAnd block.at (λ first. (first ≤ i) × (i < first + block.want.size))) = rw none at holds in absurd no

-- what was put, in the terms of placement
pub put_is : (banks : List ℕ) (old new : List (Slot Block)) (want : Want) (user : ℕ) (locked : Bool) (level : ℕ) (movable : Bool) (put : PlacedBlock)
    → IsPut banks old want user locked level movable put new → Puts Purges banks old want user locked level movable put.handle new
put_is banks old new want user locked level movable put done = record {
  address = put.at;
  room = slots_after_purges old done.count;
  makes = record { count = done.count; goes = done.goes; room_is = refl };
  handle = done.handle;
  next_is = done.slots;
}

pub reput_is : (banks : List ℕ) (old new : List (Slot Block)) (h : Handle) (want : Want) (address : ℕ)
    → IsReput banks old h want address new → PutsAnew Purges banks old h want new
reput_is banks old new h want address done = record {
  block = done.block;
  was = done.was;
  empty = done.empty;
  address = address;
  room = slots_after_purges old done.count;
  makes = record { count = done.count; goes = done.goes; room_is = refl };
  next_is = done.slots;
}

pub put_facts : (banks : List ℕ) (old new : List (Slot Block)) (want : Want) (user : ℕ) (locked : Bool) (level : ℕ) (movable : Bool) (put : PlacedBlock)
    → All (λ bank. bank < 256) banks → IsWant want → All IsBoundedSlot old → AreApart banks old → level < 256
    → IsPut banks old want user locked level movable put new → PutFacts banks old want put new
put_facts banks old new want user locked level movable put small is_want bounded sound low done =
    let block : Block = placed_block want put.at user locked level movable in
    let took = taken (slots_after_purges old done.count) put.handle block (gone_handle done.count old ∙ done.handle) in
    let new_is : new ≡ set (slots_after_purges old done.count) put.handle.slot (record { generation = put.handle.generation; content = Used block }) = done.slots ∙ took.0 in
    let inside : put.handle.slot < length old = omega (arith, took.1, length-emptied old done.count) in
    rw new_is (record {
      len = put_length banks small old want is_want done.count put.at done.goes bounded sound user locked level movable low put.handle.slot put.handle.generation inside;
      bounded = put_bounded banks small old want is_want done.count put.at done.goes bounded sound user locked level movable low put.handle.slot put.handle.generation inside;
      others = put_others banks small old want is_want done.count put.at done.goes bounded sound user locked level movable low put.handle.slot put.handle.generation inside;
      is = put_extent banks small old want is_want done.count put.at done.goes bounded sound user locked level movable low put.handle.slot put.handle.generation inside;
      sound = put_apart banks small old want is_want done.count put.at done.goes bounded sound user locked level movable low put.handle.slot put.handle.generation inside
          (λ i. no_byte (slot_at (slots_after_purges old done.count) put.handle.slot) i took.2);
    })

-- a live handle stays live when blocks are emptied
emptied_live : (test : Block → Bool) (slot : Slot Block) (h : Handle) → IsSome (cond (slot.generation == h.generation) (block_in slot) None)
    → IsSome (cond ((emptied_where test slot).generation == h.generation) (block_in (emptied_where test slot)) None)
emptied_live test slot h = go slot.generation slot.content
  where
    used : (b : Bool) (generation : ℕ) (block : Block) → IsSome (cond (generation == h.generation) (Some block) None)
        → IsSome (cond ((cond {A = Slot Block} b (record { generation = generation; content = Used (record block { at = None }) }) (record { generation = generation; content = Used block })).generation == h.generation)
        (block_in (cond b (record { generation = generation; content = Used (record block { at = None }) }) (record { generation = generation; content = Used block }))) None)
    used true generation block some = same (generation == h.generation) some
      where
        same : (c : Bool) → IsSome (cond c (Some block) None) → IsSome {T = Block} (cond c (Some (record block { at = None })) None)
        same true some = refl
        same false some = cc
    used false generation block some = some

    go : (generation : ℕ) (content : SlotContent Block) → IsSome (cond (generation == h.generation) (used_value content) None)
        → IsSome (cond ((emptied_where test (record { generation = generation; content = content })).generation == h.generation)
        (block_in (emptied_where test (record { generation = generation; content = content }))) None)
    go generation Free some = some
    go generation Retired some = some
    go generation (Used block) some = used (test block) generation block some

pub map_live : (test : Block → Bool) (slots : List (Slot Block)) (h : Handle) → IsSome (get slots h) → IsSome (get (map (emptied_where test) slots) h)
map_live test slots h some = rw (slot_at-map (emptied_where test) slots h.slot refl) (emptied_live test (slot_at slots h.slot) h some)

pub gone_live : (count : ℕ) (slots : List (Slot Block)) (h : Handle) → IsSome (get slots h) → IsSome (get (slots_after_purges slots count) h)
unfolding slots_after_purges
gone_live count slots h = map_live (is_gone slots count) slots h

no_extent : (slot : Slot Block) (i : ℕ) → extent slot ≡ None → ¬ HoldsByte i slot
no_extent slot i none holds = let no : IsSomeAnd {T = ℕ × ℕ} None (Spans i) = rw none at (holds_to i slot holds) in absurd no

stays_empty : (old new : Slot Block) → StaysIn old new → extent old ≡ None → extent new ≡ None
stays_empty old new (inl none) empty = none
stays_empty old new (inr same) empty = same ∙ empty

pub reput_facts : (banks : List ℕ) (old new : List (Slot Block)) (h : Handle) (want : Want) (address : ℕ)
    → All (λ bank. bank < 256) banks → IsWant want → All IsBoundedSlot old → AreApart banks old
    → IsReput banks old h want address new → PutFacts banks old want (record { handle = h; at = address }) new
reput_facts banks old new h want address small is_want bounded sound done =
    let block : Block = placed_block want address done.block.user done.block.locked done.block.level false in
    let live : IsSome (get old h) = ap is_some done.was in
    let there : block_in (slot_at old h.slot) ≡ Some done.block = live_block old h done.block done.was in
    let one : IfSome (block_in (slot_at old h.slot)) IsBounded = each_slot IsBoundedSlot old tt bounded h.slot in
    let old_bounded : IsBounded done.block = rw there at one in
    let low : done.block.level < 256 = old_bounded.level in
    let inside : h.slot < length old = live_in old h live in
    let empty : extent (slot_at old h.slot) ≡ None = rw (there, done.empty) refl in
    let new_is : new ≡ set (slots_after_purges old done.count) h.slot (record { generation = h.generation; content = Used block }) =
    done.slots ∙ with_is (slots_after_purges old done.count) h (record { generation = h.generation; content = Used block }) (gone_live done.count old h live) in
    rw new_is (record {
      len = put_length banks small old want is_want done.count address done.goes bounded sound done.block.user done.block.locked done.block.level false low h.slot h.generation inside;
      bounded = put_bounded banks small old want is_want done.count address done.goes bounded sound done.block.user done.block.locked done.block.level false low h.slot h.generation inside;
      others = put_others banks small old want is_want done.count address done.goes bounded sound done.block.user done.block.locked done.block.level false low h.slot h.generation inside;
      is = put_extent banks small old want is_want done.count address done.goes bounded sound done.block.user done.block.locked done.block.level false low h.slot h.generation inside;
      sound = put_apart banks small old want is_want done.count address done.goes bounded sound done.block.user done.block.locked done.block.level false low h.slot h.generation inside
          (λ i. no_extent (slot_at (slots_after_purges old done.count) h.slot) i (stays_empty (slot_at old h.slot) (slot_at (slots_after_purges old done.count) h.slot) (gone_stays old done.count h.slot) empty));
    })

pub is_none : (o : Option ℕ) → is_some o ≡ false → o ≡ None
is_none None e = refl
is_none (Some x) e = absurd (cc)

-- blocks that are arranged stay so
after_put : (banks : List ℕ) (old new : List (Slot Block)) (want : Want) (put : PlacedBlock) → IsArranged banks old → PutFacts banks old want put new → IsArranged banks new
after_put banks old new want put arranged facts = record {
  small = arranged.small;
  count = facts.len ∙ arranged.count;
  bounded = facts.bounded;
  sound = facts.sound;
}

pub arranged_put : (banks : List ℕ) (old new : List (Slot Block)) (want : Want) (user : ℕ) (locked : Bool) (level : ℕ) (movable : Bool) (put : PlacedBlock)
    → IsArranged banks old → IsWant want → level < 256 → IsPut banks old want user locked level movable put new → IsArranged banks new
arranged_put banks old new want user locked level movable put arranged is_want low done = after_put banks old new want put arranged
    (put_facts banks old new want user locked level movable put arranged.small is_want arranged.bounded arranged.sound low done)

pub arranged_reput : (banks : List ℕ) (old new : List (Slot Block)) (h : Handle) (want : Want) (address : ℕ)
    → IsArranged banks old → IsWant want → IsReput banks old h want address new → IsArranged banks new
arranged_reput banks old new h want address arranged is_want done = after_put banks old new want (record { handle = h; at = address }) arranged
    (reput_facts banks old new h want address arranged.small is_want arranged.bounded arranged.sound done)
