-- Three bytes of a segment in memory that name a place.
use Rattle.std.specs.Prelude.{◌≡◌, ℕ, ◌+◌, ◌<◌, true, pos, Option, Some, None, slice_get}
use Rattle.std.specs.FinMap.{get}
use Rattle.omf_format.specs.Number.{number_at}
use Rattle.omf_format.specs.File.{Segment, segment_at}
use Rattle.omf_io.specs.Files.{FileMap}
use Rattle.load_meaning.specs.Cells.{Part, cells}
use Rattle.loader_machine.specs.declared.seen.Life.TheVariants.{Running}
use Rattle.loader_machine.specs.State.{Machine, handles_of, held_at, outlines}
use Rattle.loader_machine.specs.Presences.{presence_at, is_active}
use Rattle.loader_machine.specs.Stands.{place_in, stands, setting_with, far_of}
use Rattle.loader_machine.specs.Steps.{Sees}
use Rattle.sys_loader.specs.declared.answers.Entered.{Entered}

-- Three neighbouring cells of an active segment of a user that runs are the three bytes of a target's place plus an offset, the
-- lowest first. None of them was written, and the offset is one of the target's LENGTH.
pub record HasAddress (held : FileMap) (state : Machine) (id number at target offset : ℕ) : Type 0 where
  pub sees : Sees held state id
  pub runs : sees.user.life ≡ Running
  pub s : Segment
  pub is : segment_at sees.segments number ≡ Some s
  pub active : is_active (presence_at state.slots (handles_of sees.user) number) ≡ true
  pub parts : (k : ℕ) → k < 3 → slice_get (cells s) (at + k) ≡ Some (Part 1 target offset (pos 0) k)
  pub unwritten : (k : ℕ) → k < 3 → get (held_at sees.user number).pokes (at + k) ≡ None
  pub t : Segment
  pub target' : segment_at sees.segments target ≡ Some t
  pub inside : offset < t.fields.length

-- the number in the three bytes as they are in memory
abbrev pub address_read : {held : FileMap} {state : Machine} {id number at target offset : ℕ} → HasAddress held state id number at target offset → ℕ
address_read {state = state} {id = id} {number = number} {at = at} has =
    number_at 3 at (stands (setting_with (far_of state.slots (outlines state.users) id) id state.slots (handles_of has.sees.user)) (held_at has.sees.user number).pokes has.s)

-- where the address is what three such bytes say, it is the place of their target plus the offset, and this is found there
abbrev pub NamesPlace : FileMap → Machine → ℕ → Option Entered → Type 0
NamesPlace held state address found = (id number at target offset : ℕ) (has : HasAddress held state id number at target offset) → address_read has ≡ address
    → (address ≡ place_in state.slots (handles_of has.sees.user) target + offset)
    × (found ≡ Some (record { user = id; segment = target; offset = offset; address = address }))
