-- The outcome of a run of the workload.
use Rattle.std.specs.Prelude.{◌≡◌, ℕ, zero, suc, ◌+◌, ◌%◌, ◌^◌, List, [], sum, count_by}
use Rattle.omf_io.specs.Files.{FileMap}
use Rattle.loader_machine.specs.Rule.{RoomRule}
use Rattle.loader_machine.specs.declared.faults.LoaderFault.{LoaderFault}
use Rattle.loader_machine.specs.declared.seen.Presence.{Presence}
use Rattle.loader_machine.specs.State.{Machine, first_id, empty_of}
use Rattle.loader_machine.specs.Commands.{Command, Info, Bytes, Reply, SegmentIs, Shown, Refused}
use Rattle.loader_machine.specs.Steps.{Steps}
use Rattle.loader_machine.specs.Transcript.{AreAnswered}
use Rattle.workload.specs.Rounds.{banks, commands, is_entered, is_refused}

-- the machine's reply to a command
abbrev pub Replies : FileMap → Machine → Command → Reply → Type 0
Replies held state command reply = (next : Machine) × Steps RoomRule held state command reply next

-- the content of the segment with a number of the user that is made first, as the machine shows it: all LENGTH bytes where it is active,
-- and nothing where it isn't, or where there is none
pub data IsShown (held : FileMap) (state : Machine) (number : ℕ) (bytes : List ℕ) : Type 0 where
  Whole : (presence : Presence) (size kind : ℕ) → Replies held state (Info first_id number) (SegmentIs presence size kind)
      → Replies held state (Bytes first_id number 0 size) (Shown bytes) → IsShown held state number bytes
  IsHidden : (presence : Presence) (size kind : ℕ) (fault : LoaderFault) → Replies held state (Info first_id number) (SegmentIs presence size kind)
      → Replies held state (Bytes first_id number 0 size) (Refused fault) → bytes ≡ [] → IsShown held state number bytes
  IsNone : (fault : LoaderFault) → Replies held state (Info first_id number) (Refused fault) → bytes ≡ [] → IsShown held state number bytes

-- the sum of all bytes of a given number of segments from the one with a number on, as far as they are active
abbrev pub AddUp : FileMap → Machine → ℕ → ℕ → ℕ → Type 0
AddUp held state number zero total = total ≡ 0
AddUp held state number (suc more) total =
    (bytes : List ℕ) × (rest : ℕ) × IsShown held state number bytes × AddUp held state (number + 1) more rest × (total ≡ sum bytes + rest)

-- the sum, modulo 2^32, of all bytes of all active segments of the first `count`
abbrev pub IsSum : FileMap → Machine → ℕ → ℕ → Type 0
IsSum held state count n = (total : ℕ) × AddUp held state 1 count total × (n ≡ total % 2 ^ 32)

-- Over these files a loader of the workload's banks, which has no user at first, answers each of the workload's calls as the machine does,
-- and that leads to the last state. `entered` JSLs entered a segment, `refused` calls were refused, and the bytes of `count` segments have
-- the sum `total`.
pub record HasWorked (held : FileMap) (n seed count entered refused total : ℕ) (last : Machine) : Type 0 where
  pub replies : List Reply
  pub reads : ℕ
  pub answered : AreAnswered held (empty_of banks) (commands n seed) replies 0 reads last
  pub entered' : entered ≡ count_by is_entered replies
  pub refused' : refused ≡ count_by is_refused replies
  pub total' : IsSum held last count total
