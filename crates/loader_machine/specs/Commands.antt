-- The commands of the loader's machine, and its replies.
use Rattle.std.specs.Prelude.{ℕ, Bool, List, Option}
use Rattle.iigs_meaning.specs.declared.handles.Handle.{Handle}
use Rattle.iigs_meaning.specs.declared.wants.BlockState.{BlockState}
use Rattle.loader_machine.specs.declared.faults.LoaderFault.{LoaderFault}
use Rattle.loader_machine.specs.declared.seen.Presence.{Presence}

pub data Command : Type 0 where
  -- new memory of these banks, without users
  Banks : (banks : List ℕ) → Command
  -- a load file becomes a program
  Load : (path : List ℕ) → Command
  -- a dynamic segment is made active, or let go
  LoadSegment : (user segment : ℕ) → Command
  UnloadSegment : (user segment : ℕ) → Command
  -- the JSL at an offset is followed
  Jsl : (user segment at : ℕ) → Command
  -- a program is kept dormant, or dropped
  ShutDown : (user : ℕ) (keep : Bool) → Command
  -- a dormant program runs again
  Restart : (user : ℕ) → Command
  -- the user's purgeable blocks are emptied
  Purge : (user : ℕ) → Command
  -- a byte is written
  Poke : (user segment at byte : ℕ) → Command
  -- bytes are shown
  Bytes : (user segment at length : ℕ) → Command
  -- the segment in which an address lies is reported
  Where : (address : ℕ) → Command
  -- what is known of a segment is reported
  Info : (user segment : ℕ) → Command
  -- the script's own blocks: one is placed, released, locked, unlocked, or given a purge level
  Alloc : (size attributes address : ℕ) → Command
  Free : (handle : Handle) → Command
  Lock : (handle : Handle) → Command
  Unlock : (handle : Handle) → Command
  Level : (handle : Handle) (level : ℕ) → Command
  -- what is known of a handle's block is reported
  StateOf : (handle : Handle) → Command
  -- the number of free bytes is reported
  Room : Command
  -- the movable blocks are slid down
  Compact : Command

pub data Reply : Type 0 where
  Okay : Reply
  -- a user's ID, and where it begins
  Started : (user : ℕ) (entry : Option ℕ) → Reply
  -- a segment that was made active, and its address
  MadeActive : (segment address : ℕ) → Reply
  -- the place that a JSL enters, and its address
  Entered : (user segment offset address : ℕ) → Reply
  -- how many blocks were emptied
  Counted : (count : ℕ) → Reply
  Shown : (bytes : List ℕ) → Reply
  -- where an address lies, or that it lies nowhere
  Lies : (user segment offset : ℕ) → Reply
  Nothing : Reply
  -- a segment's presence, LENGTH and KIND
  SegmentIs : (presence : Presence) (length kind : ℕ) → Reply
  -- a new block
  Placed : (handle : Handle) (address : ℕ) → Reply
  BlockIs : (state : BlockState) → Reply
  -- the number of free bytes in no block
  RoomIs : (count : ℕ) → Reply
  -- how many blocks changed their address
  Moved : (count : ℕ) → Reply
  -- why the command is refused
  Refused : (fault : LoaderFault) → Reply
