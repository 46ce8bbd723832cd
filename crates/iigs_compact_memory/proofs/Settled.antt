-- Blocks whose kept wants fit where they lie stay so.
use Rattle.std.proofs.Common.{◌≡◌, inl, inr, ℕ, zero, suc, ◌+◌, replicate, Bool, true, false, cond, ◌==◌, List, [], map, length, Option, Some, None, is_some, Result, Ok, Err, IfOk, OnErr, refl, sym, ap, subst, ◌∙◌, arith}
use Rattle.std.specs.Prelude.{slice_set}
use Rattle.std.specs.Option.{option_map_or}
use Rattle.std.proofs.lemmas.Option.{same_Some}
use Rattle.std.proofs.lemmas.Bool.{cases_eq, cases_lt}
use Rattle.std.proofs.lemmas.List.{get_or-set_same, get_or-set_other, get_or_past, length-set}
use Rattle.iigs_meaning.specs.declared.handles.Handle.{Handle}
use Rattle.iigs_meaning.specs.declared.slots.Slot.{Slot}
use Rattle.iigs_meaning.specs.declared.slots.SlotContent.TheVariants.{Free, Used, Retired}
use Rattle.iigs_meaning.specs.declared.wants.Want.{Want}
use Rattle.iigs_meaning.specs.declared.wants.Block.{Block}
use Rattle.iigs_meaning.specs.Slots.{slot_at, new_slot, get, with_slot, with_value, released, after_release, after_take, lowest_free}
use Rattle.iigs_meaning.specs.Fits.{Slots, IsWant, Fits, block_in}
use Rattle.iigs_meaning.specs.Placement.{emptied_where, slots_after_purges, is_gone}
use Rattle.iigs_meaning.specs.Puts.{Purges, Puts, PutsAnew, placed_block, without_user, without_user_in, slots_for}
use Rattle.iigs_meaning.specs.Blocks.{new_slots, can_purge_of}
use Rattle.iigs_meaning.specs.Memory.{Memory, Changes, IsFreed, IsPurged}
use Rattle.iigs_meaning.specs.Slide.{movable_block, moved_to, Slides, AreSettled}
use Rattle.iigs_meaning.specs.laws.SlideLaws.{mover_in}
use Rattle.iigs_places.proofs.Stays.{slot_at-map}
use Rattle.iigs_places.proofs.Changed.{live_block}

-- ---- one slot

-- a block was placed by a want, which fits where it lies but for other blocks
pub record IsSettled (banks : List ℕ) (block : Block) : Type 0 where
  pub want : IsWant block.want
  pub fits : (at : ℕ) → block.at ≡ Some at → Fits banks [] block.want at

abbrev pub SettledIn : List ℕ → Slot Block → Type 0
SettledIn banks slot = (block : Block) → block_in slot ≡ Some block → IsSettled banks block

module _ (banks : List ℕ) where
  pub in_slots : (slots : Slots) → AreSettled banks slots → (place : ℕ) → SettledIn banks (slot_at slots place)
  in_slots slots settled place block is = record { want = settled.wants place block is; fits = λ at lies. settled.fits place block at is lies }

  pub all_slots : (slots : Slots) → ((place : ℕ) → SettledIn banks (slot_at slots place)) → AreSettled banks slots
  all_slots slots each = record { wants = λ place block is. (each place block is).want; fits = λ place block at is lies. (each place block is).fits at lies }

  in_new : SettledIn banks new_slot
  in_new block is = absurd cc

  in_used : (generation : ℕ) (block : Block) → IsSettled banks block → SettledIn banks (record { generation = generation; content = Used block })
  in_used generation block settled other is = subst (IsSettled banks) (same_Some block other is) settled

  pub empty_settled : (block : Block) → IsSettled banks block → IsSettled banks (record block { at = None })
  empty_settled block settled = record { want = settled.want; fits = λ at lies. absurd cc }

  in_emptied : (test : Block → Bool) (slot : Slot Block) → SettledIn banks slot → SettledIn banks (emptied_where test slot)
  in_emptied test slot settled = go (block_in slot) refl
    where
      by_test : (one : Block) → block_in slot ≡ Some one → (b : Bool) → SettledIn banks (cond b (record { generation = slot.generation; content = Used (record one { at = None }) }) slot)
      by_test one there true = in_used slot.generation (record one { at = None }) (empty_settled one (settled one there))
      by_test one there false = settled

      go : (o : Option Block) → block_in slot ≡ o
          → SettledIn banks (option_map_or (λ one. cond (test one) (record { generation = slot.generation; content = Used (record one { at = None }) }) slot) o slot)
      go None there = settled
      go (Some one) there = by_test one there (test one)

  in_released : (generation : ℕ) → SettledIn banks (released generation)
  in_released generation block = go (generation == 255)
    where
      go : (b : Bool) → block_in (cond b (record { generation = generation; content = Retired })
          (record { generation = generation + 1; content = Free })) ≡ Some block → IsSettled banks block
      go true is = absurd cc
      go false is = absurd cc

  in_without : (user : ℕ) (slot : Slot Block) → SettledIn banks slot → SettledIn banks (without_user_in user slot)
  in_without user slot settled = go (block_in slot) refl
    where
      by_test : (b : Bool) → SettledIn banks (cond b (released slot.generation) slot)
      by_test true = in_released slot.generation
      by_test false = settled

      go : (o : Option Block) → block_in slot ≡ o → SettledIn banks (option_map_or (λ one. cond (one.user == user) (released slot.generation) slot) o slot)
      go None there = settled
      go (Some one) there = by_test (one.user == user)

  -- ---- all slots

  in_set : (slots : Slots) (at : ℕ) (slot : Slot Block) → AreSettled banks slots → SettledIn banks slot → AreSettled banks (slice_set slots at slot)
  in_set slots at slot settled one = all_slots (slice_set slots at slot) (λ place. elim (cases_eq place at) [
    | inl same ↦ elim (cases_lt at (length slots)) [
      | inl less ↦ subst (SettledIn banks) (sym (ap (λ (n : ℕ). slot_at (slice_set slots at slot) n) same ∙ get_or-set_same slots at slot new_slot less)) one
      | inr past ↦ subst (SettledIn banks) (sym (get_or_past (slice_set slots at slot) place new_slot (omega (arith, past, same, length-set slots at slot)))) in_new
    ]
    | inr ne ↦ subst (SettledIn banks) (sym (get_or-set_other slots at place slot new_slot ne)) (in_slots slots settled place)
  ])

  in_with : (slots : Slots) (h : Handle) (slot : Slot Block) → AreSettled banks slots → SettledIn banks slot → AreSettled banks (with_slot slots h slot)
  in_with slots h slot settled one = go (is_some (get slots h))
    where
      go : (b : Bool) → AreSettled banks (cond b (slice_set slots h.slot slot) slots)
      go true = in_set slots h.slot slot settled one
      go false = settled

  pub settled_value : (slots : Slots) (h : Handle) (block : Block) → AreSettled banks slots → IsSettled banks block → AreSettled banks (with_value slots h block)
  settled_value slots h block settled one = in_with slots h (record { generation = h.generation; content = Used block }) settled (in_used h.generation block one)

  pub settled_release : (slots : Slots) (h : Handle) → AreSettled banks slots → AreSettled banks (after_release slots h)
  settled_release slots h settled = in_with slots h (released h.generation) settled (in_released h.generation)

  pub settled_take : (slots : Slots) (block : Block) → AreSettled banks slots → IsSettled banks block → AreSettled banks (after_take slots block)
  settled_take slots block settled one = go (lowest_free slots)
    where
      go : (o : Option ℕ) → AreSettled banks (option_map_or (λ place. slice_set slots place (record { generation = (slot_at slots place).generation; content = Used block })) o slots)
      go None = settled
      go (Some place) = in_set slots place (record { generation = (slot_at slots place).generation; content = Used block }) settled (in_used (slot_at slots place).generation block one)

  pub settled_map : (test : Block → Bool) (slots : Slots) → AreSettled banks slots → AreSettled banks (map (emptied_where test) slots)
  settled_map test slots settled = all_slots (map (emptied_where test) slots)
      (λ place. subst (SettledIn banks) (sym (slot_at-map (emptied_where test) slots place refl)) (in_emptied test (slot_at slots place) (in_slots slots settled place)))

  pub settled_emptied : (slots : Slots) (count : ℕ) → AreSettled banks slots → AreSettled banks (slots_after_purges slots count)
  unfolding slots_after_purges
  settled_emptied slots count = settled_map (is_gone slots count) slots

  pub settled_for : (slots : Slots) (user : ℕ) (fresh : Bool) → AreSettled banks slots → AreSettled banks (slots_for slots user fresh)
  settled_for slots user false settled = settled
  settled_for slots user true settled = all_slots (without_user slots user)
      (λ place. subst (SettledIn banks) (sym (slot_at-map (without_user_in user) slots place refl)) (in_without user (slot_at slots place) (in_slots slots settled place)))

  -- ---- placements

  pub fits_alone : (slots : Slots) (want : Want) (address : ℕ) → Fits banks slots want address → Fits banks [] want address
  fits_alone slots want address fits = record {
    free = fits.free;
    apart = λ k d less. absurd (omega (arith, less));
    crossing = fits.crossing;
    aligned = fits.aligned;
    fixed = fits.fixed;
    bank = fits.bank;
    low = fits.low;
    special = fits.special;
  }

  placed_settled : (slots : Slots) (want : Want) (address user : ℕ) (locked : Bool) (level : ℕ) (movable : Bool) → IsWant want → Fits banks slots want address → IsSettled banks (placed_block want address user locked level movable)
  placed_settled slots want address user locked level movable is_want fits = record {
    want = is_want;
    fits = λ at lies. subst (λ (n : ℕ). Fits banks [] want n) (same_Some address at lies) (fits_alone slots want address fits);
  }

  pub settled_puts : (slots next : Slots) (want : Want) (user : ℕ) (locked : Bool) (level : ℕ) (movable : Bool) (h : Handle) → IsWant want → AreSettled banks slots
      → Puts Purges banks slots want user locked level movable h next → AreSettled banks next
  settled_puts slots next want user locked level movable h is_want settled puts =
      let room : AreSettled banks puts.room = subst (AreSettled banks) (sym puts.makes.room_is) (settled_emptied slots puts.makes.count settled) in
      subst (AreSettled banks) (sym puts.next_is) (settled_take puts.room (placed_block want puts.address user locked level movable) room
      (placed_settled (slots_after_purges slots puts.makes.count) want puts.address user locked level movable is_want puts.makes.goes.fits))

  pub settled_anew : (slots next : Slots) (want : Want) (h : Handle) → IsWant want → AreSettled banks slots → PutsAnew Purges banks slots h want next → AreSettled banks next
  settled_anew slots next want h is_want settled puts =
      let room : AreSettled banks puts.room = subst (AreSettled banks) (sym puts.makes.room_is) (settled_emptied slots puts.makes.count settled) in
      subst (AreSettled banks) (sym puts.next_is) (settled_value puts.room h (placed_block want puts.address puts.block.user puts.block.locked puts.block.level false) room
      (placed_settled (slots_after_purges slots puts.makes.count) want puts.address puts.block.user puts.block.locked puts.block.level false is_want puts.makes.goes.fits))

  -- ---- a slide

  pub settled_slides : (old new : Slots) → AreSettled banks old → Slides banks old new → AreSettled banks new
  settled_slides old new settled slides = all_slots new (λ place. go place (movable_block (slot_at old place)) refl)
    where
      go : (place : ℕ) (o : Option Block) → movable_block (slot_at old place) ≡ o → SettledIn banks (slot_at new place)
      go place None m = subst (SettledIn banks) (sym (slides.stay place m)) (in_slots old settled place)
      go place (Some was) m =
          let goes = slides.goes place was m in
          subst (SettledIn banks) (sym goes.2) (in_used (slot_at old place).generation (moved_to goes.0 was) (record {
            want = settled.wants place was (mover_in (slot_at old place) was m).0;
            fits = λ at lies. subst (λ (n : ℕ). Fits banks [] was.want n) (same_Some goes.0 at lies) goes.1.fits.open_;
          }))

  -- ---- without blocks

  none_in : (n place : ℕ) → SettledIn banks (slot_at (replicate n new_slot) place)
  none_in zero place = in_new
  none_in (suc n) zero = in_new
  none_in (suc n) (suc place) = none_in n place

  pub settled_new : AreSettled banks new_slots
  unfolding new_slots
  settled_new = all_slots (replicate 4096 new_slot) (none_in 4096)

-- a call that changes a block but not its place or want keeps them settled
pub settled_changes : {E : Type 0} (old new : Memory) (h : Handle) (change : Block → Block) → ((b : Block) → ((change b).at ≡ b.at) × ((change b).want ≡ b.want)) → AreSettled old.banks old.slots
    → {A : Type 0} (r : Result A E) → IfOk r (λ _. Changes old h change new) → OnErr r (new ≡ old) → AreSettled new.banks new.slots
settled_changes old new h change same settled (Ok a) did err =
    let was : IsSettled old.banks did.block = in_slots old.banks old.slots settled h.slot did.block (live_block old.slots h did.block did.was) in
    let now : IsSettled old.banks (change did.block) = record {
      want = subst IsWant (sym (same did.block).1) was.want;
      fits = λ at lies. subst (λ (w : Want). Fits old.banks [] w at) (sym (same did.block).1) (was.fits at (sym (same did.block).0 ∙ lies));
    } in
    subst (λ (bs : List ℕ). AreSettled bs new.slots) (sym did.kept.banks) (subst (AreSettled old.banks) (sym did.slots) (settled_value old.banks old.slots h (change did.block) settled now))
settled_changes old new h change same settled (Err e) did err = subst (λ (m : Memory). AreSettled m.banks m.slots) (sym err) settled

-- and the banks
pub same_banks : {E : Type 0} (old new : Memory) (h : Handle) (change : Block → Block) (banks : List ℕ) → banks ≡ old.banks → {A : Type 0} (r : Result A E) → IfOk r (λ _. Changes old h change new) → OnErr r (new ≡ old) → banks ≡ new.banks
same_banks old new h change banks same (Ok a) did err = same ∙ sym did.kept.banks
same_banks old new h change banks same (Err e) did err = same ∙ ap (λ (m : Memory). m.banks) (sym err)

-- a release does too, and a purge
pub settled_freed : {E : Type 0} (old new : Memory) (h : Handle) → AreSettled old.banks old.slots → {A : Type 0} (r : Result A E) → IfOk r (λ _. IsFreed old h new) → OnErr r (new ≡ old) → AreSettled new.banks new.slots
settled_freed old new h settled (Ok a) did err =
    subst (λ (bs : List ℕ). AreSettled bs new.slots) (sym did.kept.banks) (subst (AreSettled old.banks) (sym did.slots) (settled_release old.banks old.slots h settled))
settled_freed old new h settled (Err e) did err = subst (λ (m : Memory). AreSettled m.banks m.slots) (sym err) settled

pub freed_banks : {E : Type 0} (old new : Memory) (h : Handle) (banks : List ℕ) → banks ≡ old.banks → {A : Type 0} (r : Result A E) → IfOk r (λ _. IsFreed old h new) → OnErr r (new ≡ old) → banks ≡ new.banks
freed_banks old new h banks same (Ok a) did err = same ∙ sym did.kept.banks
freed_banks old new h banks same (Err e) did err = same ∙ ap (λ (m : Memory). m.banks) (sym err)

pub settled_purged : (old new : Memory) (user count : ℕ) → AreSettled old.banks old.slots → IsPurged old user count new → AreSettled new.banks new.slots
settled_purged old new user count settled did =
    subst (λ (bs : List ℕ). AreSettled bs new.slots) (sym did.kept.banks) (subst (AreSettled old.banks) (sym did.slots) (settled_map old.banks (can_purge_of user) old.slots settled))
