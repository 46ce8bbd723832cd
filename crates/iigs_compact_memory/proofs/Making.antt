-- Room that is made by purges and a slide, and placements after it.
use Rattle.std.proofs.Common.{◌≡◌, ◌≢◌, inl, inr, ℕ, suc, Bool, true, false, cond, not, ◌==◌, ◌+◌, ◌<◌, ◌&&◌, nat_lt, List, [], ◌∷◌, length, Contains, Option, Some, None, IsSome, is_some, refl, sym, ap, subst, ◌∙◌, arith}
use Rattle.std.specs.Prelude.{option_map, slice_set}
use Rattle.std.specs.Option.{option_map_or}
use Rattle.std.specs.List.{prefix_len}
use Rattle.std.proofs.lemmas.Option.{same_Some}
use Rattle.std.proofs.lemmas.Bool.{cases_lt}
use Rattle.std.proofs.lemmas.List.{get_or-set_other}
use Rattle.iigs_meaning.specs.declared.handles.Handle.{Handle}
use Rattle.iigs_meaning.specs.declared.slots.Slot.{Slot}
use Rattle.iigs_meaning.specs.declared.slots.SlotContent.{SlotContent}
use Rattle.iigs_meaning.specs.declared.slots.SlotContent.TheVariants.{Free, Used, Retired}
use Rattle.iigs_meaning.specs.declared.wants.Want.{Want}
use Rattle.iigs_meaning.specs.declared.wants.Block.{Block}
use Rattle.iigs_meaning.specs.Slots.{slot_at, new_slot, used_value, get, is_free, is_free_content, lowest_free, new_handle, after_take, with_value}
use Rattle.iigs_meaning.specs.Fits.{Slots, Fits, block_in}
use Rattle.iigs_meaning.specs.Placement.{can_purge, slots_after_purges, emptied_where, is_gone, HasNoRoom, count_purgeable}
use Rattle.iigs_meaning.specs.Puts.{Purges, Puts, PutsAnew, LacksRoom, placed_block}
use Rattle.iigs_meaning.specs.Blocks.{address_in}
use Rattle.iigs_meaning.specs.Memory.{Memory, KeepsBut, IsThere}
use Rattle.iigs_meaning.specs.Slide.{can_move, movable_block, Slides, PurgesOrSlides}
use Rattle.iigs_meaning.specs.laws.Left.{IsLeft, AreLeft}
use Rattle.iigs_meaning.specs.laws.Left.IsLeft.{Unmoved, Emptied, Shifted}
use Rattle.iigs_meaning.specs.laws.PlacementLaws.{no_room}
use Rattle.iigs_meaning.specs.laws.PurgeLaws.{emptied_none, emptied_past}
use Rattle.iigs_meaning.specs.laws.SlideLaws.{mover_in, lies, slides_once}
use Rattle.iigs_meaning.specs.laws.SlideRoomLaws.{lacks_room_by_slides, emptied_left, slid_left}
use Rattle.iigs_places.proofs.Stays.{slot_at-map}
use Rattle.iigs_compact_memory.specs.Needs.{NoneAfter, NeedsPurges}

-- ---- the search

module _ (banks : List ℕ) (slots : Slots) (want : Want) where
  -- if the want fits nowhere after one slide with `count` blocks purged, it fits nowhere after any such slide
  pub none_once : (count : ℕ) (room : Slots) → Slides banks (slots_after_purges slots count) room → ((address : ℕ) → ¬ Fits banks room want address) → NoneAfter banks slots want count
  none_once count room slides none other slides' address fits =
      none address (subst (λ (r : Slots). Fits banks r want address) (slides_once banks (slots_after_purges slots count) other room slides' slides) fits)

  -- more purges than there are purgeable blocks change nothing
  pub none_past : (most : ℕ) → most ≡ count_purgeable slots → ((count : ℕ) → count < most + 1 → NoneAfter banks slots want count) → (count : ℕ) → NoneAfter banks slots want count
  none_past most is none count = elim (cases_lt count (most + 1)) [
    | inl less ↦ none count less
    | inr past ↦ λ room slides address fits.
        let same : slots_after_purges slots count ≡ slots_after_purges slots most = emptied_past slots count (omega (arith, is, past)) ∙ ap (slots_after_purges slots) (sym is) in
        none most (omega arith) room (subst (λ (s : Slots). Slides banks s room) same slides) address fits
  ]

  pub lacks_by_slides : HasNoRoom banks slots want → ((count : ℕ) → NoneAfter banks slots want count) → LacksRoom PurgesOrSlides banks slots want
  lacks_by_slides none after = lacks_room_by_slides banks slots want (none, λ count room slides address fits. after count room slides address fits)

  pub none_at_all : LacksRoom Purges banks slots want → HasNoRoom banks slots want
  none_at_all lacks = no_room banks slots want lacks

-- ---- the next handle

pub left_free : (was now : Slot Block) → IsLeft was now → (is_free now ≡ is_free was) × (now.generation ≡ was.generation)
left_free was now = go
  where
    used : (block : Block) (content : SlotContent Block) → used_value content ≡ Some block → is_free_content content ≡ false
    used block Free e = absurd cc
    used block Retired e = refl
    used block (Used b) e = refl

    go : IsLeft was now → (is_free now ≡ is_free was) × (now.generation ≡ was.generation)
    go (Unmoved e) = (ap is_free e, ap (λ (s : Slot Block). s.generation) e)
    go (Emptied block at can e) = (ap is_free e ∙ sym (used block was.content at), ap (λ (s : Slot Block). s.generation) e)
    go (Shifted block at can address e) = (ap is_free e ∙ sym (used block was.content at), ap (λ (s : Slot Block). s.generation) e)

prefix_left : (p : Slot Block → Bool) (xs ys : Slots) → length xs ≡ length ys → ((k : ℕ) → p (slot_at xs k) ≡ p (slot_at ys k)) → prefix_len (λ slot. not (p slot)) xs ≡ prefix_len (λ slot. not (p slot)) ys
prefix_left p [] [] len same = refl
prefix_left p [] (y ∷ ys) len same = absurd (omega (arith, len))
prefix_left p (x ∷ xs) [] len same = absurd (omega (arith, len))
prefix_left p (x ∷ xs) (y ∷ ys) len same =
    ap (λ (t : Bool). cond (not t) (1 + prefix_len (λ z. not (p z)) xs) 0) (same 0)
    ∙ ap (λ (n : ℕ). cond (not (p y)) (1 + n) 0) (prefix_left p xs ys (omega (arith, len)) (λ k. same (suc k)))

left_lowest : (slots room : Slots) → AreLeft slots room → lowest_free room ≡ lowest_free slots
left_lowest slots room left =
    ap (λ (n : ℕ). cond (nat_lt n (length room)) (Some n) None) (prefix_left is_free room slots left.len (λ k. (left_free (slot_at slots k) (slot_at room k) (left.each k)).0))
    ∙ ap (λ (m : ℕ). cond (nat_lt (prefix_len (λ x. not (is_free x)) slots) m) (Some (prefix_len (λ x. not (is_free x)) slots)) None) left.len

-- room leaves the next handle
pub left_handle : (slots room : Slots) → AreLeft slots room → new_handle room ≡ new_handle slots
left_handle slots room left = ap (option_map (handle_in room)) (left_lowest slots room left) ∙ go (lowest_free slots)
  where
    handle_in : Slots → ℕ → Handle
    handle_in s place = record { slot = place; generation = (slot_at s place).generation }

    go : (o : Option ℕ) → option_map (handle_in room) o ≡ option_map (handle_in slots) o
    go None = refl
    go (Some place) = ap (λ (g : ℕ). let h : Handle = record { slot = place; generation = g } in Some h) (left_free (slot_at slots place) (slot_at room place) (left.each place)).1

-- and an empty block
pub left_empty : (slots room : Slots) → AreLeft slots room → (h : Handle) (block : Block) → get slots h ≡ Some block → block.at ≡ None → get room h ≡ Some block
unfolding can_purge can_move
left_empty slots room left h block was empty = go (left.each h.slot)
  where
    value : block_in (slot_at slots h.slot) ≡ Some block
    value = reported ((slot_at slots h.slot).generation == h.generation) (block_in (slot_at slots h.slot)) was
      where
        reported : (b : Bool) (o : Option Block) → cond b o None ≡ Some block → o ≡ Some block
        reported true o e = e
        reported false o e = absurd cc

    none_there : (b : Block) → block_in (slot_at slots h.slot) ≡ Some b → b.at ≡ None
    none_there b is = ap (λ (x : Block). x.at) (sym (same_Some block b (sym value ∙ is))) ∙ empty

    go : IsLeft (slot_at slots h.slot) (slot_at room h.slot) → get room h ≡ Some block
    go (Unmoved e) = ap (λ (s : Slot Block). cond (s.generation == h.generation) (block_in s) None) e ∙ was
    go (Emptied b is can e) = absurd (clash b.at (none_there b is) can)
      where
        clash : (o : Option ℕ) → o ≡ None → (is_some o && not b.locked && not (b.level == 0)) ≡ true → ⊥
        clash None e can = cc
        clash (Some at) e can = cc
    go (Shifted b is can address e) = absurd (clash b.at (none_there b is) can)
      where
        clash : (o : Option ℕ) → o ≡ None → (is_some o && b.movable && not b.locked) ≡ true → ⊥
        clash None e can = cc
        clash (Some at) e can = cc

module _ (banks : List ℕ) (slots room : Slots) (want : Want) (count : ℕ) (none : HasNoRoom banks slots want) (needs : NeedsPurges banks slots want count room) where
  pub needs_left : AreLeft slots room
  needs_left = slid_left banks slots (slots_after_purges slots count) room (emptied_left slots count) needs.slides

  fits_none : Fits banks (slots_after_purges room 0) want needs.address
  fits_none = subst (λ (r : Slots). Fits banks r want needs.address) (sym (emptied_none room)) needs.fits

  -- in the room there is room
  pub has_room : LacksRoom Purges banks room want → ⊥
  has_room lacks = no_room banks room want lacks 0 needs.address fits_none

  pub has_handle : IsSome (new_handle slots) → new_handle room ≡ None → ⊥
  has_handle some out = let none' : IsSome {T = Handle} None = rw (sym (left_handle slots room needs_left) ∙ out) at some in cc

  -- what is purged there is nothing
  module _ (address : ℕ) (after : Slots) (makes : Purges banks room want address after) where
    no_purge : makes.count ≡ 0
    no_purge = elim (cases_lt 0 makes.count) [
      | inl some ↦ absurd (makes.goes.fewest 0 some needs.address fits_none)
      | inr le ↦ omega (arith, le)
    ]

    same_room : slots_after_purges room makes.count ≡ room
    same_room = ap (slots_after_purges room) no_purge ∙ emptied_none room

    pub room_same : after ≡ room
    room_same = makes.room_is ∙ same_room

    pub makes_slide : PurgesOrSlides banks slots want address room
    makes_slide = inr (
      none,
      record {
        count = count;
        slides = needs.slides;
        fits = subst (λ (r : Slots). Fits banks r want address) same_room makes.goes.fits;
        least = λ other fits. makes.goes.least other (subst (λ (r : Slots). Fits banks r want other) (sym same_room) fits);
        fewest = λ fewer less other slides place fits. needs.fewest fewer less other slides place fits;
      },
    )

  -- a placement by purges after the slide is one by purges and slides
  pub slide_then_place : (next : Slots) (user : ℕ) (locked : Bool) (level : ℕ) (movable : Bool) (h : Handle) → Puts Purges banks room want user locked level movable h next
      → Puts PurgesOrSlides banks slots want user locked level movable h next
  slide_then_place next user locked level movable h puts = record {
    address = puts.address;
    room = room;
    makes = makes_slide puts.address puts.room puts.makes;
    handle = sym (left_handle slots room needs_left) ∙ puts.handle;
    next_is = puts.next_is ∙ ap (λ (r : Slots). after_take r (placed_block want puts.address user locked level movable)) (room_same puts.address puts.room puts.makes);
  }

  pub slide_then_replace : (next : Slots) (h : Handle) (block : Block) → get slots h ≡ Some block → block.at ≡ None → PutsAnew Purges banks room h want next → PutsAnew PurgesOrSlides banks slots h want next
  slide_then_replace next h block was empty puts =
      let same : puts.block ≡ block = same_Some puts.block block (sym puts.was ∙ left_empty slots room needs_left h block was empty) in
      record {
        block = block;
        was = was;
        empty = empty;
        address = puts.address;
        room = room;
        makes = makes_slide puts.address puts.room puts.makes;
        next_is = puts.next_is
            ∙ ap (λ (r : Slots). with_value r h (placed_block want puts.address puts.block.user puts.block.locked puts.block.level false)) (room_same puts.address puts.room puts.makes)
            ∙ ap (λ (b : Block). with_value room h (placed_block want puts.address b.user b.locked b.level false)) same;
      }

-- and one that finds room at once too
pub place_at_once : (banks : List ℕ) (slots next : Slots) (want : Want) (user : ℕ) (locked : Bool) (level : ℕ) (movable : Bool) (h : Handle)
    → Puts Purges banks slots want user locked level movable h next → Puts PurgesOrSlides banks slots want user locked level movable h next
place_at_once banks slots next want user locked level movable h puts = record {
  address = puts.address;
  room = puts.room;
  makes = inl puts.makes;
  handle = puts.handle;
  next_is = puts.next_is;
}

pub replace_at_once : (banks : List ℕ) (slots next : Slots) (want : Want) (h : Handle) → PutsAnew Purges banks slots h want next → PutsAnew PurgesOrSlides banks slots h want next
replace_at_once banks slots next want h puts = record {
  block = puts.block;
  was = puts.was;
  empty = puts.empty;
  address = puts.address;
  room = puts.room;
  makes = inl puts.makes;
  next_is = puts.next_is;
}

-- ---- what is there afterwards was there before

abbrev There : Slot Block → Type 0
There slot = IsSome (address_in slot)

there_emptied : (test : Block → Bool) (slot : Slot Block) → There (emptied_where test slot) → There slot
there_emptied test slot = go (block_in slot) refl
  where
    by_test : (one : Block) → block_in slot ≡ Some one → (b : Bool) → There (cond b (record { generation = slot.generation; content = Used (record one { at = None }) }) slot) → There slot
    by_test one is true some = absurd cc
    by_test one is false some = some

    go : (o : Option Block) → block_in slot ≡ o
        → There (option_map_or (λ one. cond (test one) (record { generation = slot.generation; content = Used (record one { at = None }) }) slot) o slot) → There slot
    go None is some = some
    go (Some one) is some = by_test one is (test one) some

pub there_gone : (slots : Slots) (count place : ℕ) → There (slot_at (slots_after_purges slots count) place) → There (slot_at slots place)
unfolding slots_after_purges
there_gone slots count place some = there_emptied (is_gone slots count) (slot_at slots place)
    (subst There (slot_at-map (emptied_where (is_gone slots count)) slots place refl) some)

pub there_slid : (banks : List ℕ) (old new : Slots) → Slides banks old new → (place : ℕ) → There (slot_at new place) → There (slot_at old place)
there_slid banks old new slides place some = go (movable_block (slot_at old place)) refl
  where
    go : (o : Option Block) → movable_block (slot_at old place) ≡ o → There (slot_at old place)
    go None m = subst There (slides.stay place m) some
    go (Some block) m = rw ((mover_in (slot_at old place) block m).0, lies (slot_at old place) block m) refl

there_take : (slots : Slots) (block : Block) (h : Handle) → new_handle slots ≡ Some h → (place : ℕ) → place ≢ h.slot → There (slot_at (after_take slots block) place) → There (slot_at slots place)
there_take slots block h is place ne = go (lowest_free slots) refl is
  where
    go : (o : Option ℕ) → lowest_free slots ≡ o → option_map (λ p. let new : Handle = record { slot = p; generation = (slot_at slots p).generation } in new) o ≡ Some h
        → There (slot_at (option_map_or (λ p. slice_set slots p (record { generation = (slot_at slots p).generation; content = Used block })) o slots) place) → There (slot_at slots place)
    go None low e some = some
    go (Some p) low e some =
        let slot : p ≡ h.slot = cc in
        subst There (get_or-set_other slots p place (record { generation = (slot_at slots p).generation; content = Used block }) new_slot (λ same. ne (same ∙ slot))) some

there_with : (slots : Slots) (h : Handle) (block : Block) (place : ℕ) → place ≢ h.slot → There (slot_at (with_value slots h block) place) → There (slot_at slots place)
there_with slots h block place ne = go (is_some (get slots h))
  where
    go : (b : Bool) → There (slot_at (cond b (slice_set slots h.slot (record { generation = h.generation; content = Used block })) slots) place) → There (slot_at slots place)
    go true some = subst There (get_or-set_other slots h.slot place (record { generation = h.generation; content = Used block }) new_slot ne) some
    go false some = some

pub there_puts : (banks : List ℕ) (slots next : Slots) (want : Want) (user : ℕ) (locked : Bool) (level : ℕ) (movable : Bool) (h : Handle) → Puts Purges banks slots want user locked level movable h next
    → (place : ℕ) → place ≢ h.slot → There (slot_at next place) → There (slot_at slots place)
there_puts banks slots next want user locked level movable h puts place ne some =
    let room : puts.room ≡ slots_after_purges slots puts.makes.count = puts.makes.room_is in
    let handle : new_handle puts.room ≡ Some h = ap new_handle room ∙ left_handle slots (slots_after_purges slots puts.makes.count) (emptied_left slots puts.makes.count) ∙ puts.handle in
    let some' : There (slot_at (after_take puts.room (placed_block want puts.address user locked level movable)) place) = subst (λ (s : Slots). There (slot_at s place)) puts.next_is some in
    let there : There (slot_at puts.room place) = there_take puts.room (placed_block want puts.address user locked level movable) h handle place ne some' in
    there_gone slots puts.makes.count place (subst (λ (s : Slots). There (slot_at s place)) room there)

pub there_anew : (banks : List ℕ) (slots next : Slots) (want : Want) (h : Handle) → PutsAnew Purges banks slots h want next → (place : ℕ) → place ≢ h.slot → There (slot_at next place) → There (slot_at slots place)
there_anew banks slots next want h puts place ne some =
    let some' : There (slot_at (with_value puts.room h (placed_block want puts.address puts.block.user puts.block.locked puts.block.level false)) place) = subst (λ (s : Slots). There (slot_at s place)) puts.next_is some in
    let there : There (slot_at puts.room place) = there_with puts.room h (placed_block want puts.address puts.block.user puts.block.locked puts.block.level false) place ne some' in
    there_gone slots puts.makes.count place (subst (λ (s : Slots). There (slot_at s place)) puts.makes.room_is there)

-- ---- bytes that are kept twice

pub kept_twice : (old middle new : Memory) (places : List ℕ) → KeepsBut old middle [] → KeepsBut middle new places
    → ((place : ℕ) → ¬ Contains places place → IsThere new place → IsThere middle place) → KeepsBut old new places
kept_twice old middle new places one two there = record {
  banks = two.banks ∙ one.banks;
  bytes = λ place out some. two.bytes place out some ∙ one.bytes place (λ has. absurd (omega (arith, has.1))) (there place out some);
}

pub kept_same : (memory : Memory) → KeepsBut memory memory []
kept_same memory = record { banks = refl; bytes = λ place out there. refl }

pub not_first : (place slot : ℕ) → ¬ Contains (slot ∷ []) place → place ≢ slot
not_first place slot out same = out (0, omega arith, sym same)
