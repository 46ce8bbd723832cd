-- Slots of which one is set, and what is in the others.
use Rattle.std.proofs.Common.{◌≡◌, ◌≢◌, ◌⊎◌, inl, inr, ℕ, zero, suc, Bool, true, false, cond, ◌==◌, List, [], ◌∷◌, Option, Some, None, is_some, get_or, refl, sym, ap, ◌∙◌}
use Rattle.std.specs.Prelude.{slice_set, option_map}
use Rattle.std.specs.Option.{option_map_or}
use Rattle.std.proofs.lemmas.Bool.{cases_eq}
use Rattle.std.proofs.lemmas.List.{get_or-set_other}
use Rattle.std.proofs.lemmas.Option.{same_Some}
use Rattle.iigs_meaning.specs.declared.handles.Handle.{Handle}
use Rattle.iigs_meaning.specs.declared.slots.Slot.{Slot}
use Rattle.iigs_meaning.specs.declared.slots.SlotContent.{SlotContent}
use Rattle.iigs_meaning.specs.declared.slots.SlotContent.TheVariants.{Free, Used, Retired}
use Rattle.iigs_meaning.specs.declared.wants.Want.{Want}
use Rattle.iigs_meaning.specs.declared.wants.Block.{Block}
use Rattle.iigs_meaning.specs.Slots.{slot_at, new_slot, get, used_value, lowest_free, new_handle, with_slot}
use Rattle.iigs_meaning.specs.Fits.{Slots, block_in}
use Rattle.iigs_meaning.specs.Placement.{emptied_where}
use Rattle.iigs_meaning.specs.Puts.{Puts, placed_block}
use Rattle.iigs_meaning.specs.Slide.{moved_to}
use Rattle.loader_machine.specs.Rule.{RoomRule}
use Rattle.iigs_meaning.specs.laws.Left.{IsLeft, AreLeft}
use Rattle.iigs_meaning.specs.laws.SlideRoomLaws.{are_left}
use Rattle.iigs_meaning.specs.laws.Left.IsLeft.{Unmoved, Emptied, Shifted}
use Rattle.loader_agrees.specs.laws.Begun.{left_lowest}

-- a live handle's block is that in its slot
pub live_block : (slots : Slots) (h : Handle) (block : Block) → get slots h ≡ Some block → block_in (slot_at slots h.slot) ≡ Some block
live_block slots h block is = go ((slot_at slots h.slot).generation == h.generation) (block_in (slot_at slots h.slot)) is
  where
    go : (b : Bool) (o : Option Block) → cond b o None ≡ Some block → o ≡ Some block
    go true o e = e
    go false o e = absurd cc

-- two live handles of one slot reach one block
pub one_block : (slots : Slots) (h k : Handle) (a b : Block) → get slots h ≡ Some a → get slots k ≡ Some b → h.slot ≡ k.slot → a ≡ b
one_block slots h k a b p q same = same_Some a b (sym (live_block slots h a p) ∙ ap (λ (n : ℕ). block_in (slot_at slots n)) same ∙ live_block slots k b q)

set_cases : {X : Type 0} (xs : List X) (k : ℕ) (x d : X) → (get_or (slice_set xs k x) k d ≡ x) ⊎ (get_or (slice_set xs k x) k d ≡ get_or xs k d)
set_cases [] k x d = inr refl
set_cases (y ∷ xs) zero x d = inl refl
set_cases (y ∷ xs) (suc k) x d = set_cases xs k x d

-- a slot of slots in which one is set: it is that one, or as before
pub slot_set : (slots : Slots) (place : ℕ) (slot : Slot Block) (n : ℕ) → ((n ≡ place) × (slot_at (slice_set slots place slot) n ≡ slot)) ⊎ (slot_at (slice_set slots place slot) n ≡ slot_at slots n)
slot_set slots place slot n = elim (cases_eq n place) [
  | inl same ↦ elim (set_cases slots place slot new_slot) [
    | inl is ↦ inl (same, ap (λ (m : ℕ). slot_at (slice_set slots place slot) m) same ∙ is)
    | inr was ↦ inr (ap (λ (m : ℕ). slot_at (slice_set slots place slot) m) same ∙ was ∙ ap (λ (m : ℕ). slot_at slots m) (sym same))
  ]
  | inr other ↦ inr (get_or-set_other slots place n slot new_slot other)
]

-- another handle's block stays
pub slot_apart : (slots : Slots) (h k : Handle) (slot : Slot Block) → k.slot ≢ h.slot → get (with_slot slots h slot) k ≡ get slots k
slot_apart slots h k slot ne = go (is_some (get slots h))
  where
    go : (b : Bool) → get (cond b (slice_set slots h.slot slot) slots) k ≡ get slots k
    go true = rw (get_or-set_other slots h.slot k.slot slot new_slot ne) refl
    go false = refl

-- a block in slots in which a handle's slot was changed is in that slot, or was there before
pub in_changed : (slots : Slots) (h : Handle) (slot : Slot Block) (n : ℕ) (block : Block) → block_in (slot_at (with_slot slots h slot) n) ≡ Some block
    → (block_in slot ≡ Some block) ⊎ (block_in (slot_at slots n) ≡ Some block)
in_changed slots h slot n block = go (is_some (get slots h))
  where
    go : (b : Bool) → block_in (slot_at (cond b (slice_set slots h.slot slot) slots) n) ≡ Some block → (block_in slot ≡ Some block) ⊎ (block_in (slot_at slots n) ≡ Some block)
    go true is = elim (slot_set slots h.slot slot n) [
      | inl here ↦ inl (sym (ap block_in here.1) ∙ is)
      | inr was ↦ inr (sym (ap block_in was) ∙ is)
    ]
    go false is = inr is

-- a block that was emptied was there before, of the same user
pub in_emptied : (test : Block → Bool) (slot : Slot Block) (block : Block) → block_in (emptied_where test slot) ≡ Some block
    → (was : Block) × (block_in slot ≡ Some was) × (was.user ≡ block.user)
in_emptied test slot block = go slot.generation slot.content
  where
    by_test : (generation : ℕ) (b : Block) (t : Bool)
        → block_in (cond t (record { generation = generation; content = Used (record b { at = None }) }) (record { generation = generation; content = Used b })) ≡ Some block → b.user ≡ block.user
    by_test generation b true e = let same : record b { at = None } ≡ block = same_Some (record b { at = None }) block e in ap (λ (x : Block). x.user) same
    by_test generation b false e = ap (λ (x : Block). x.user) (same_Some b block e)

    go : (generation : ℕ) (content : SlotContent Block) → block_in (emptied_where test (record { generation = generation; content = content })) ≡ Some block
        → (was : Block) × (used_value content ≡ Some was) × (was.user ≡ block.user)
    go generation Free e = absurd cc
    go generation Retired e = absurd cc
    go generation (Used b) e = (b, refl, by_test generation b (test b) e)

-- a block in a slot that is left so was there before, of the same user
pub in_left : (was now : Slot Block) (block : Block) → IsLeft was now → block_in now ≡ Some block → (b : Block) × (block_in was ≡ Some b) × (b.user ≡ block.user)
in_left was now block (Unmoved e) is = (block, ap block_in (sym e) ∙ is, refl)
in_left was now block (Emptied b at can e) is = (b, at, ap (λ (x : Block). x.user) (same_Some (record b { at = None }) block (ap block_in (sym e) ∙ is)))
in_left was now block (Shifted b at can address e) is = (b, at, ap (λ (x : Block). x.user) (same_Some (moved_to address b) block (ap block_in (sym e) ∙ is)))

lowest_is : (slots : Slots) (h : Handle) (place : ℕ) → new_handle slots ≡ Some h → lowest_free slots ≡ Some place → place ≡ h.slot
lowest_is slots h place is low = go (lowest_free slots) low is
  where
    go : (o : Option ℕ) → o ≡ Some place → option_map (λ p. let new : Handle = record { slot = p; generation = (slot_at slots p).generation } in new) o ≡ Some h → place ≡ h.slot
    go None e is = absurd cc
    go (Some p) e is = cc

-- a block among slots in which one was put is the new one, or was there before, of the same user
pub in_put : (banks : List ℕ) (slots next : Slots) (want : Want) (user : ℕ) (locked : Bool) (level : ℕ) (movable : Bool) (h : Handle) → (puts : Puts RoomRule banks slots want user locked level movable h next)
    → (n : ℕ) (block : Block) → block_in (slot_at next n) ≡ Some block
    → ((n ≡ h.slot) × (block ≡ placed_block want puts.address user locked level movable)) ⊎ ((was : Block) × (block_in (slot_at slots n) ≡ Some was) × (was.user ≡ block.user))
in_put banks slots next want user locked level movable h puts n block is =
    go (lowest_free puts.room) refl (sym (ap (λ (t : Slots). block_in (slot_at t n)) puts.next_is) ∙ is)
  where
    value : Block
    value = placed_block want puts.address user locked level movable

    left : AreLeft slots puts.room
    left = are_left banks slots want puts.address puts.room puts.makes

    old : block_in (slot_at puts.room n) ≡ Some block → (was : Block) × (block_in (slot_at slots n) ≡ Some was) × (was.user ≡ block.user)
    old e = in_left (slot_at slots n) (slot_at puts.room n) block (left.each n) e

    go : (o : Option ℕ) → lowest_free puts.room ≡ o
        → block_in (slot_at (option_map_or (λ place. slice_set puts.room place (record { generation = (slot_at puts.room place).generation; content = Used value })) o puts.room) n) ≡ Some block
        → ((n ≡ h.slot) × (block ≡ value)) ⊎ ((was : Block) × (block_in (slot_at slots n) ≡ Some was) × (was.user ≡ block.user))
    go None e is = inr (old is)
    go (Some place) e is = elim (slot_set puts.room place (record { generation = (slot_at puts.room place).generation; content = Used value }) n) [
      | inl here ↦
          let same : value ≡ block = same_Some value block (sym (ap block_in here.1) ∙ is) in
          inl (here.0 ∙ lowest_is slots h place puts.handle (sym (left_lowest slots puts.room left) ∙ e), sym same)
      | inr was ↦ inr (old (sym (ap block_in was) ∙ is))
    ]
