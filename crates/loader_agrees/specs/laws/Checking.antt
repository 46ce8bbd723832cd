-- The refusals of calls, check by check.
use Rattle.std.proofs.Common.{◌≡◌, ◌≢◌, ℕ, true, false, ◌+◌, ◌<◌, ◌≤◌, ◌==◌, Option, Some, None, refl, ◌∙◌, arith}
use Rattle.std.specs.Prelude.{nat_le}
use Rattle.iigs_meaning.specs.declared.handles.Handle.{Handle}
use Rattle.iigs_meaning.specs.declared.wants.Block.{Block}
use Rattle.iigs_meaning.specs.Slots.{get}
use Rattle.iigs_meaning.specs.Fits.{Slots}
use Rattle.loader_machine.specs.declared.faults.LoaderFault.{LoaderFault}
use Rattle.loader_machine.specs.declared.faults.LoaderFault.TheVariants.{NotActive, OutOfSegment, NoUser, Stale, LoaderOwned, Empty}
use Rattle.loader_machine.specs.declared.seen.SegmentHead.{SegmentHead}
use Rattle.loader_machine.specs.State.{UserSeen}
use Rattle.loader_machine.specs.Presences.{presence, handle_at, is_active}
use Rattle.loader_machine.specs.Refusals.{Refuse, of_user, of_running, of_segment, of_active, of_inside, bytes_refusal, info_refusal, free_refusal, change_refusal, state_refusal}
use Rattle.loader_agrees.specs.Checks.{PassesRunning, StopsRunning, PassesSegment, StopsSegment}

pub active_none : (slots : Slots) (seen : UserSeen) (number : ℕ) (o : Option Handle) (rest : Refuse) → handle_at seen.handles number ≡ o → is_active (presence slots o) ≡ false
    → of_active slots seen number rest ≡ Some NotActive
active_none slots seen number o rest has is = rw (has, is) refl

pub active_passes : (slots : Slots) (seen : UserSeen) (number : ℕ) (o : Option Handle) (rest : Refuse) → handle_at seen.handles number ≡ o → is_active (presence slots o) ≡ true
    → of_active slots seen number rest ≡ rest
active_passes slots seen number o rest has is = rw (has, is) refl

pub inside_none : (at count : ℕ) (head : SegmentHead) (rest : Refuse) → head.length < at + count → of_inside at count head rest ≡ Some OutOfSegment
inside_none at count head rest past = let no : nat_le (at + count) head.length ≡ false = grind arith in rw no refl

pub inside_passes : (at count : ℕ) (head : SegmentHead) (rest : Refuse) → at + count ≤ head.length → of_inside at count head rest ≡ rest
inside_passes at count head rest within = let yes : nat_le (at + count) head.length ≡ true = grind arith in rw yes refl

-- ---- bytes

module _ (slots : Slots) (number at count : ℕ) where
  abbrev pub after_active : SegmentHead → Refuse
  after_active head = of_inside at count head None

  abbrev pub after_segment : UserSeen → SegmentHead → Refuse
  after_segment seen head = of_active slots seen number (after_active head)

  abbrev pub after_running : UserSeen → Refuse
  after_running seen = of_segment seen number (after_segment seen)

  pub bytes_is : (user : Option UserSeen) → bytes_refusal slots user number at count ≡ of_user user (λ seen. of_running seen (after_running seen))
  unfolding bytes_refusal
  bytes_is user = refl

  pub stops_running : (user : Option UserSeen) (fault : LoaderFault) → StopsRunning user fault → bytes_refusal slots user number at count ≡ Some fault
  stops_running user fault stops = bytes_is user ∙ stops after_running

  module _ (user : Option UserSeen) (seen : UserSeen) (runs : PassesRunning user seen) where
    pub stops_segment : (fault : LoaderFault) → StopsSegment seen number fault → bytes_refusal slots user number at count ≡ Some fault
    stops_segment fault stops = bytes_is user ∙ runs after_running ∙ stops (after_segment seen)

    module _ (head : SegmentHead) (o : Option Handle) (has : PassesSegment seen number head) (handle : handle_at seen.handles number ≡ o) where
      to_segment : bytes_refusal slots user number at count ≡ after_segment seen head
      to_segment = bytes_is user ∙ runs after_running ∙ has (after_segment seen)

      pub stops_active : is_active (presence slots o) ≡ false → bytes_refusal slots user number at count ≡ Some NotActive
      stops_active is = to_segment ∙ active_none slots seen number o (after_active head) handle is

      module _ (active : is_active (presence slots o) ≡ true) where
        to_active : bytes_refusal slots user number at count ≡ after_active head
        to_active = to_segment ∙ active_passes slots seen number o (after_active head) handle active

        pub stops_inside : head.length < at + count → bytes_refusal slots user number at count ≡ Some OutOfSegment
        stops_inside past = to_active ∙ inside_none at count head None past

        pub passes : at + count ≤ head.length → bytes_refusal slots user number at count ≡ None
        passes within = to_active ∙ inside_passes at count head None within

-- ---- info

pub info_no_user : (number : ℕ) → info_refusal None number ≡ Some NoUser
unfolding info_refusal
info_no_user number = refl

pub info_stops : (seen : UserSeen) (number : ℕ) (fault : LoaderFault) → StopsSegment seen number fault → info_refusal (Some seen) number ≡ Some fault
unfolding info_refusal
info_stops seen number fault stops = stops (λ head. None)

pub info_passes : (seen : UserSeen) (number : ℕ) (head : SegmentHead) → PassesSegment seen number head → info_refusal (Some seen) number ≡ None
unfolding info_refusal
info_passes seen number head has = has (λ head. None)

-- ---- the script's own blocks

module _ (slots : Slots) (h : Handle) where
  pub stale : get slots h ≡ None → (free_refusal slots h ≡ Some Stale) × (change_refusal slots h ≡ Some Stale) × (state_refusal slots h ≡ Some Stale)
  unfolding free_refusal change_refusal state_refusal
  stale none = (rw none refl, rw none refl, rw none refl)

  module _ (block : Block) (is : get slots h ≡ Some block) where
    pub owned : block.user ≢ 0 → (free_refusal slots h ≡ Some LoaderOwned) × (change_refusal slots h ≡ Some LoaderOwned)
    unfolding free_refusal change_refusal
    owned other = let no : (block.user == 0) ≡ false = grind (arith, other) in (rw (is, no) refl, rw (is, no) refl)

    module _ (script : block.user ≡ 0) where
      pub freed : free_refusal slots h ≡ None
      unfolding free_refusal
      freed = let yes : (block.user == 0) ≡ true = grind (arith, script) in rw (is, yes) refl

      pub empty : block.at ≡ None → change_refusal slots h ≡ Some Empty
      unfolding change_refusal
      empty none = let yes : (block.user == 0) ≡ true = grind (arith, script) in rw (is, yes, none) refl

      pub changes : (address : ℕ) → block.at ≡ Some address → change_refusal slots h ≡ None
      unfolding change_refusal
      changes address there = let yes : (block.user == 0) ≡ true = grind (arith, script) in rw (is, yes, there) refl
