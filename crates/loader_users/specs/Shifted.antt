-- A segment whose block changes, with the entries that lead to it.
use Rattle.std.specs.Prelude.{◌≡◌, ℕ, length, Option, Some}
use Rattle.iigs_meaning.specs.declared.handles.Handle.{Handle}
use Rattle.iigs_meaning.specs.declared.wants.Block.{Block}
use Rattle.iigs_meaning.specs.Memory.{Memory, Changes}
use Rattle.loader_agrees.specs.Agrees.{LoadedUser, Loaded}
use Rattle.loader_users.specs.Renewing.{AreRenewed}

-- The block of a segment changes, but for its place, and the entries for it in the tables of the user that leads to it follow, by file and
-- number; nothing else is written.
pub record HasShifted (old : Loaded) (lead : LoadedUser) (choice : ℕ × ℕ) (h : Handle) (change : Block → Block) (address : Option ℕ) (new : Loaded) : Type 0 where
  pub middle : Memory
  pub renewed : AreRenewed lead.heads lead.handles (Some choice) address old.memory middle (length lead.heads)
  pub changes : Changes middle h change new.memory
  pub users : new.users ≡ old.users
