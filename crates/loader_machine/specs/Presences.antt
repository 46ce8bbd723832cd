-- Whether and where segments are in memory.
use Rattle.std.specs.Prelude.{ℕ, Bool, true, false, List, Option, Some, None, if◌then◌else◌}
use Rattle.std.specs.Option.{option_and_then}
use Rattle.iigs_meaning.specs.declared.handles.Handle.{Handle}
use Rattle.iigs_meaning.specs.Slots.{get}
use Rattle.iigs_meaning.specs.Fits.{Slots}
use Rattle.loader_machine.specs.Heads.{at_number}
pub use Rattle.loader_machine.specs.declared.seen.Presence.{Presence}
pub use Rattle.loader_machine.specs.declared.seen.Presence.TheVariants.{Absent, Purged, Idle, Active}
use Rattle.iigs_meaning.specs.declared.wants.Block.{Block}

-- an empty block is purged, one that is locked is active, and any other idle
abbrev pub lies_at : Handle → Option ℕ → Bool → Presence
lies_at h None locked = Purged h
lies_at h (Some address) locked = if locked then Active h address else Idle h address

abbrev pub lies_in : Handle → Option Block → Presence
lies_in h None = Absent
lies_in h (Some block) = lies_at h block.at block.locked

-- the presence of a segment, from its handle and the slots
abbrev pub presence : Slots → Option Handle → Presence
presence slots None = Absent
presence slots (Some h) = lies_in h (get slots h)

-- the handle of the segment with a number
abbrev pub handle_at : List (Option Handle) → ℕ → Option Handle
handle_at handles number = option_and_then (λ handle. handle) (at_number handles number)

-- the presence of the segment with a number
abbrev pub presence_at : Slots → List (Option Handle) → ℕ → Presence
presence_at slots handles number = presence slots (handle_at handles number)

-- where a segment lies that is there, whether active or idle
abbrev pub there_at : Presence → Option ℕ
there_at Absent = None
there_at (Purged h) = None
there_at (Idle h address) = Some address
there_at (Active h address) = Some address

-- where an active segment lies
abbrev pub active_at : Presence → Option ℕ
active_at Absent = None
active_at (Purged h) = None
active_at (Idle h address) = None
active_at (Active h address) = Some address

abbrev pub is_active : Presence → Bool
is_active Absent = false
is_active (Purged h) = false
is_active (Idle h address) = false
is_active (Active h address) = true

abbrev pub is_there : Presence → Bool
is_there Absent = false
is_there (Purged h) = false
is_there (Idle h address) = true
is_there (Active h address) = true
