-- Whole runs of calls on a table of handles, and the law of released handles.
use Rattle.std.specs.Prelude.{◌≡◌, ◌↔◌, List, [], ◌∷◌, None, IsSome}
use Rattle.iigs_meaning.specs.declared.handles.Handle.{Handle}
use Rattle.iigs_meaning.specs.declared.slots.Slot.{Slot}
use Rattle.iigs_meaning.specs.Slots.{IsLive, IsDead, get, after_take, after_release, with_value}

-- a call on a table, with what it puts there; a copy of another table is none of them, since the table is another one then
pub data Call (T : Type 0) : Type 0 where
  take : T → Call T
  look : Handle → Call T
  change : Handle → T → Call T
  release : Handle → Call T
  left : Call T

module _ {T : Type 0} where
  -- the slots after one call
  abbrev pub after_call : List (Slot T) → Call T → List (Slot T)
  after_call slots (take value) = after_take slots value
  after_call slots (look h) = slots
  after_call slots (change h value) = with_value slots h value
  after_call slots (release h) = after_release slots h
  after_call slots left = slots

  -- the slots after these calls in order
  abbrev pub after_all : List (Slot T) → List (Call T) → List (Slot T)
  after_all slots [] = slots
  after_all slots (call ∷ calls) = after_all (after_call slots call) calls

-- A handle reaches a value exactly where it is live. A dead handle reaches none, and it is dead after whatever calls.
-- A handle that is released is dead.
pub record DeadStayDead (T : Type 0) : Type 0 where
  pub live : (slots : List (Slot T)) (h : Handle) → IsSome (get slots h) ↔ IsLive slots h
  pub stale : (slots : List (Slot T)) (h : Handle) → IsDead slots h → get slots h ≡ None
  pub kept : (slots : List (Slot T)) (h : Handle) (calls : List (Call T)) → IsDead slots h → IsDead (after_all slots calls) h
  pub released : (slots : List (Slot T)) (h : Handle) → IsLive slots h → IsDead (after_release slots h) h

-- once a handle was released it reaches nothing, whatever calls follow
abbrev pub ReleasedReachesNothing : Type 0 → Type 0
ReleasedReachesNothing T = (slots : List (Slot T)) (h : Handle) (calls : List (Call T)) → IsLive slots h
    → get (after_all (after_release slots h) calls) h ≡ None
