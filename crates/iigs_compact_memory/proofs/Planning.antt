-- Wants placed in order on a plan, with slides where these are needed.
use Rattle.std.proofs.Common.{ℕ, ◌+◌, ◌<◌, ◌≤◌, true, false, List, [], ◌∷◌, ◌++◌, take, length, get_or, count_by, IsSome, arith}
use Rattle.std.proofs.lemmas.List.{take_more}
use Rattle.std.proofs.lemmas.Option.{slice_get-get_or}
use Rattle.iigs_meaning.specs.declared.handles.Handle.{Handle}
use Rattle.iigs_meaning.specs.declared.wants.Want.{Want}
use Rattle.iigs_meaning.specs.Slots.{is_free, new_handle}
use Rattle.iigs_meaning.specs.Fits.{Slots, IsWant}
use Rattle.iigs_meaning.specs.Placement.{slots_after_purges, HasNoRoom}
use Rattle.iigs_meaning.specs.Puts.{Puts, PutsAll, LacksRoom, LacksRoomAt}
use Rattle.iigs_meaning.specs.Slide.{AreSettled, PurgesOrSlides}
use Rattle.iigs_places.specs.declared.table.PlacedBlock.{PlacedBlock}
use Rattle.iigs_places.specs.Table.{IsPut}
use Rattle.iigs_places.proofs.Puts.{put_is}
use Rattle.iigs_places.proofs.Takes.{some_handle}
use Rattle.iigs_compact_memory.specs.Needs.{NeedsPurges}
use Rattle.iigs_compact_memory.proofs.Settled.{settled_emptied, settled_slides, settled_puts}
use Rattle.iigs_compact_memory.proofs.Making.{place_at_once, slide_then_place}
use Rattle.iigs_compact_memory.proofs.Several.{puts_more, free_puts}

-- ---- one want

module _ (banks : List ℕ) (slots next : Slots) (want : Want) (user : ℕ) (put : PlacedBlock) where
  -- it is placed at once
  pub plan_at_once : IsPut banks slots want user true 0 false put next → (h : Handle) × Puts PurgesOrSlides banks slots want user true 0 false h next
  plan_at_once did = (put.handle, place_at_once banks slots next want user true 0 false put.handle (put_is banks slots next want user true 0 false put did))

  pub plan_settled : IsWant want → AreSettled banks slots → IsPut banks slots want user true 0 false put next → AreSettled banks next
  plan_settled is_want settled did = settled_puts banks slots next want user true 0 false put.handle is_want settled (put_is banks slots next want user true 0 false put did)

-- or after purges and a slide
module _ (banks : List ℕ) (slots room : Slots) (want : Want) (count : ℕ) (needs : NeedsPurges banks slots want count room) where
  pub needs_settled : AreSettled banks slots → AreSettled banks room
  needs_settled settled = settled_slides banks (slots_after_purges slots count) room (settled_emptied banks slots count settled) needs.slides

  pub plan_after : HasNoRoom banks slots want → (next : Slots) (user : ℕ) (put : PlacedBlock) → IsPut banks room want user true 0 false put next → (h : Handle) × Puts PurgesOrSlides banks slots want user true 0 false h next
  plan_after none next user put did = (put.handle, slide_then_place banks slots room want count none needs next user true 0 false put.handle (put_is banks room next want user true 0 false put did))

-- ---- one more of all

pub plan_handle : (now : Slots) (wants : List Want) (k : ℕ) → k < length wants → length wants ≤ k + count_by is_free now → IsSome (new_handle now)
plan_handle now wants k less free = some_handle now (λ zero. omega (arith, free, zero, less))

-- the first `count` wants are placed
abbrev Planned : List ℕ → ℕ → Slots → List Want → ℕ → Slots → Type 0
Planned banks user start wants count last = (hs : List Handle) × PutsAll PurgesOrSlides banks user start (take count wants) hs last

module _ (banks : List ℕ) (user : ℕ) (start now : Slots) (wants : List Want) (k : ℕ) (d : Want) (less : k < length wants) where
  pub plan_more : Planned banks user start wants k now → (next : Slots) → (h : Handle) × Puts PurgesOrSlides banks now (get_or wants k d) user true 0 false h next → Planned banks user start wants (k + 1) next
  plan_more done next one = (done.0 ++ one.0 ∷ [], rw (take_more wants k d less) (puts_more banks user start (take k wants) done.0 now next (get_or wants k d) one.0 done.1 one.1))

  pub plan_free : length wants ≤ k + count_by is_free now → (next : Slots) → (h : Handle) × Puts PurgesOrSlides banks now (get_or wants k d) user true 0 false h next → length wants ≤ k + 1 + count_by is_free next
  plan_free free next one = omega (arith, free, free_puts banks now next (get_or wants k d) user one.0 one.1)

  pub plan_lacks : Planned banks user start wants k now → LacksRoom PurgesOrSlides banks now (get_or wants k d) → LacksRoomAt PurgesOrSlides banks user start wants k
  plan_lacks done none = record { want = get_or wants k d; is = slice_get-get_or wants k d less; handles = done.0; last = now; before = done.1; none = none }
