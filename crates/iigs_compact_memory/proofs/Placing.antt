-- Placements in room that purges alone make, and in room that purges and a slide make.
use Rattle.std.proofs.Common.{◌≡◌, ℕ, Bool, List, [], ◌∷◌, Option, Some, None, IsSome, IsSomeAnd, Result, Ok, Err, IfOk, OnErr, sym, ap, subst, ◌∙◌}
use Rattle.iigs_meaning.specs.declared.handles.Handle.{Handle}
use Rattle.iigs_meaning.specs.declared.wants.Want.{Want}
use Rattle.iigs_meaning.specs.declared.wants.Block.{Block}
use Rattle.iigs_meaning.specs.Slots.{get}
use Rattle.iigs_meaning.specs.Fits.{Slots, IsWant}
use Rattle.iigs_meaning.specs.Placement.{slots_after_purges, HasNoRoom}
use Rattle.iigs_meaning.specs.Puts.{Purges, Puts, PutsAnew, LacksRoom}
use Rattle.iigs_meaning.specs.Memory.{Memory, KeepsBut, IsPlaced, IsReplaced}
use Rattle.iigs_meaning.specs.Slide.{Slides, AreSettled, PurgesOrSlides}
use Rattle.iigs_compact_memory.specs.Needs.{NeedsPurges}
use Rattle.iigs_compact_memory.proofs.Settled.{settled_emptied, settled_slides, settled_puts, settled_anew}
use Rattle.iigs_compact_memory.proofs.Making.{needs_left, left_empty, has_room, slide_then_place, slide_then_replace, place_at_once, replace_at_once, there_slid, there_puts, there_anew, kept_twice, not_first}

-- ---- `count` blocks are purged, and a slide that was planned is carried out

module _ (old purged : Memory) (plan : Slots) (want : Want) (count : ℕ) (needs : NeedsPurges old.banks old.slots want count plan) (slots : purged.slots ≡ slots_after_purges old.slots count) (kept : KeepsBut old purged []) where
  pub planned : Slides purged.banks purged.slots plan
  planned = subst (λ (bs : List ℕ). Slides bs purged.slots plan) (sym kept.banks) (subst (λ (s : Slots). Slides old.banks s plan) (sym slots) needs.slides)

  pub purged_settled : AreSettled old.banks old.slots → AreSettled purged.banks purged.slots
  purged_settled settled = subst (λ (bs : List ℕ). AreSettled bs purged.slots) (sym kept.banks)
      (subst (AreSettled old.banks) (sym slots) (settled_emptied old.banks old.slots count settled))

  module _ (new : Memory) (carried : new.slots ≡ plan) (kept' : KeepsBut purged new []) where
    slid : Slides purged.banks purged.slots new.slots
    slid = subst (Slides purged.banks purged.slots) (sym carried) planned

    pub room_needs : NeedsPurges old.banks old.slots want count new.slots
    room_needs = subst (NeedsPurges old.banks old.slots want count) (sym carried) needs

    pub room_kept : KeepsBut old new []
    room_kept = kept_twice old purged new [] kept kept' (λ place out some. there_slid purged.banks purged.slots new.slots slid place some)

    pub room_settled : AreSettled old.banks old.slots → AreSettled new.banks new.slots
    room_settled settled = subst (λ (bs : List ℕ). AreSettled bs new.slots) (sym kept'.banks) (settled_slides purged.banks purged.slots new.slots (purged_settled settled) slid)

-- ---- a block is placed there

module _ (old room : Memory) (want : Want) (count : ℕ) (none : HasNoRoom old.banks old.slots want) (needs : NeedsPurges old.banks old.slots want count room.slots) (kept : KeepsBut old room []) where
  pub room_found : LacksRoom Purges room.banks room.slots want → ⊥
  room_found lacks = has_room old.banks old.slots room.slots want count none needs (subst (λ (bs : List ℕ). LacksRoom Purges bs room.slots want) kept.banks lacks)

  pub room_live : (h : Handle) (block : Block) → get old.slots h ≡ Some block → block.at ≡ None → get room.slots h ≡ None → ⊥
  room_live h block was empty out =
      let clash : Some block ≡ None = sym (left_empty old.slots room.slots (needs_left old.banks old.slots room.slots want count none needs) h block was empty) ∙ out in
      absurd cc

  pub room_empty : (h : Handle) (block : Block) → get old.slots h ≡ Some block → block.at ≡ None → IsSomeAnd (get room.slots h) (λ b. IsSome b.at) → ⊥
  room_empty h block was empty there =
      let some : IsSome block.at = subst (λ (o : Option Block). IsSomeAnd o (λ b. IsSome b.at)) (left_empty old.slots room.slots (needs_left old.banks old.slots room.slots want count none needs) h block was empty) there in
      let clash : IsSome {T = ℕ} None = subst (λ (o : Option ℕ). IsSome o) empty some in
      absurd cc

  pub placed_after : (new : Memory) (user : ℕ) (locked : Bool) (level : ℕ) (movable : Bool) (h : Handle) → IsPlaced Purges room want user locked level movable h new
      → IsPlaced PurgesOrSlides old want user locked level movable h new
  placed_after new user locked level movable h did = record {
    puts = slide_then_place old.banks old.slots room.slots want count none needs new.slots user locked level movable h
        (subst (λ (bs : List ℕ). Puts Purges bs room.slots want user locked level movable h new.slots) kept.banks did.puts);
    zeros = did.zeros;
    kept = kept_twice old room new (h.slot ∷ []) kept did.kept
        (λ place out some. there_puts room.banks room.slots new.slots want user locked level movable h did.puts place (not_first place h.slot out) some);
  }

  pub replaced_after : (new : Memory) (h : Handle) (block : Block) → get old.slots h ≡ Some block → block.at ≡ None → IsReplaced Purges room h want new → IsReplaced PurgesOrSlides old h want new
  replaced_after new h block was empty did = record {
    puts = slide_then_replace old.banks old.slots room.slots want count none needs new.slots h block was empty
        (subst (λ (bs : List ℕ). PutsAnew Purges bs room.slots h want new.slots) kept.banks did.puts);
    zeros = did.zeros;
    kept = kept_twice old room new (h.slot ∷ []) kept did.kept (λ place out some. there_anew room.banks room.slots new.slots want h did.puts place (not_first place h.slot out) some);
  }

-- ---- a block is placed at once

module _ (old new : Memory) (want : Want) where
  pub placed_at_once : (user : ℕ) (locked : Bool) (level : ℕ) (movable : Bool) (h : Handle) → IsPlaced Purges old want user locked level movable h new → IsPlaced PurgesOrSlides old want user locked level movable h new
  placed_at_once user locked level movable h did = record {
    puts = place_at_once old.banks old.slots new.slots want user locked level movable h did.puts;
    zeros = did.zeros;
    kept = did.kept;
  }

  pub replaced_at_once : (h : Handle) → IsReplaced Purges old h want new → IsReplaced PurgesOrSlides old h want new
  replaced_at_once h did = record { puts = replace_at_once old.banks old.slots new.slots want h did.puts; zeros = did.zeros; kept = did.kept }

  -- and the wants still fit where they lie
  pub placed_settled : (user : ℕ) (locked : Bool) (level : ℕ) (movable : Bool) (h : Handle) → IsWant want → AreSettled old.banks old.slots → IsPlaced Purges old want user locked level movable h new → AreSettled new.banks new.slots
  placed_settled user locked level movable h is_want settled did = subst (λ (bs : List ℕ). AreSettled bs new.slots) (sym did.kept.banks)
      (settled_puts old.banks old.slots new.slots want user locked level movable h is_want settled did.puts)

  pub replaced_settled : (h : Handle) → IsWant want → AreSettled old.banks old.slots → IsReplaced Purges old h want new → AreSettled new.banks new.slots
  replaced_settled h is_want settled did = subst (λ (bs : List ℕ). AreSettled bs new.slots) (sym did.kept.banks)
      (settled_anew old.banks old.slots new.slots want h is_want settled did.puts)

-- the banks stay, whether a block is placed or not
pub placed_banks : {E : Type 0} (old new : Memory) (want : Want) (user : ℕ) (locked : Bool) (level : ℕ) (movable : Bool) (banks : List ℕ) → banks ≡ old.banks
    → (r : Result Handle E) → IfOk r (λ h. IsPlaced PurgesOrSlides old want user locked level movable h new) → OnErr r (new ≡ old) → banks ≡ new.banks
placed_banks old new want user locked level movable banks same (Ok h) did err = same ∙ sym did.kept.banks
placed_banks old new want user locked level movable banks same (Err e) did err = same ∙ ap (λ (m : Memory). m.banks) (sym err)

pub replaced_banks : {E : Type 0} (old new : Memory) (want : Want) (h : Handle) (banks : List ℕ) → banks ≡ old.banks → {A : Type 0} (r : Result A E) → IfOk r (λ _. IsReplaced PurgesOrSlides old h want new) → OnErr r (new ≡ old)
    → banks ≡ new.banks
replaced_banks old new want h banks same (Ok a) did err = same ∙ sym did.kept.banks
replaced_banks old new want h banks same (Err e) did err = same ∙ ap (λ (m : Memory). m.banks) (sym err)

-- where nothing is changed neither are they
pub same_settled : (old new : Memory) → new ≡ old → AreSettled old.banks old.slots → AreSettled new.banks new.slots
same_settled old new same settled = subst (λ (m : Memory). AreSettled m.banks m.slots) (sym same) settled
