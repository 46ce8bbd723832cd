-- What becomes of the script's own blocks.
use Rattle.std.specs.Prelude.{◌≡◌, ◌≢◌, ◌⊎◌, ℕ, true, Some, None, IsSomeAnd}
use Rattle.iigs_meaning.specs.declared.handles.Handle.{Handle}
use Rattle.iigs_meaning.specs.declared.wants.Block.{Block}
use Rattle.iigs_meaning.specs.Slots.{get, slot_at}
use Rattle.iigs_meaning.specs.Fits.{block_in}
use Rattle.iigs_meaning.specs.Memory.{Memory, Changes}
use Rattle.loader_machine.specs.Refusals.{change_refusal}
use Rattle.loader_agrees.specs.Agrees.{Loaded}

-- a block of the script that is there is changed so, and no user is
abbrev pub HasChanged : Loaded → Handle → (Block → Block) → Loaded → Type 0
HasChanged old h change new = Changes old.memory h change new.memory × (new.users ≡ old.users)
    × IsSomeAnd (get old.memory.slots h) (λ block. block.user ≡ 0) × (change_refusal old.memory.slots h ≡ None)

-- each locked block and each user's block is as it was, in its slot
abbrev pub OthersStay : Memory → Memory → Type 0
OthersStay old new = (place : ℕ) (block : Block) → block_in (slot_at old.slots place) ≡ Some block
    → (block.locked ≡ true) ⊎ (block.user ≢ 0) → slot_at new.slots place ≡ slot_at old.slots place
