-- The replies to a script's commands, and how they go with what is seen of the store.
use Rattle.std.specs.Prelude.{◌≡◌, ◌⊎◌, ℕ, Bool, true, false, ◌+◌, ◌≤◌, List, [], ◌∷◌, length, count_by}
use Rattle.omf_io.specs.Counts.{one_more, saturating_sum, IfRevealedOr}
use Rattle.omf_io.specs.Files.{FileMap, StoreSeen}
use Rattle.load_meaning.specs.Pathnames.{most_paths}
use Rattle.loader_machine.specs.declared.faults.LoaderFault.TheVariants.{TooManyUsers, CannotRead}
use Rattle.loader_machine.specs.State.{Machine, empty_of}
use Rattle.loader_machine.specs.Commands.{Command, Load, LoadSegment, Jsl, Restart, Reply, Refused}
use Rattle.loader_machine.specs.Steps.{Either}
use Rattle.loader_machine.specs.Transcript.{AreAnswered}

-- the reply is `cannot read`
abbrev pub is_unread : Reply → Bool
is_unread (Refused CannotRead) = true
is_unread _ = false

-- how many replies are `cannot read`
abbrev pub unread : List Reply → ℕ
unread replies = count_by is_unread replies

-- the reply is `refused TooManyUsers`
abbrev pub is_full : Reply → Bool
is_full (Refused TooManyUsers) = true
is_full _ = false

-- a load reads its file and those of its rows at most
abbrev pub most_reads : ℕ
most_reads = 1 + most_paths

-- How many files a command with this reply may have read. A load that is refused for the count of users: none where 255 were made, and the file
-- alone where its rows make too many; any other load the file, and then up to 16 of rows. A segment that is made active, a JSL and a restart one
-- at most; no other command any.
abbrev pub MayRead : Command → Reply → ℕ → Type 0
MayRead (Load path) reply reads = Either (is_full reply) (reads ≤ 1) ((1 ≤ reads) × (reads ≤ most_reads))
MayRead (LoadSegment user segment) reply reads = reads ≤ 1
MayRead (Jsl user segment at) reply reads = reads ≤ 1
MayRead (Restart user) reply reads = reads ≤ 1
MayRead _ reply reads = reads ≡ 0

-- how many files all commands with these replies may have read
abbrev pub MayReadAll : List Command → List Reply → ℕ → Type 0
MayReadAll [] replies reads = reads ≡ 0
MayReadAll (command ∷ commands) [] reads = reads ≡ 0
MayReadAll (command ∷ commands) (reply ∷ replies) reads =
    (here : ℕ) × (later : ℕ) × MayRead command reply here × MayReadAll commands replies later × (reads ≡ here + later)

-- These are replies to the commands, from the empty state on. Over revealed files they are the machine's, but that a command which reads
-- may be answered by `cannot read` in the place of its reply; the count of faults is one more for each of these, that of reads one more for
-- each file that a command needs, or 1 to 17 more where it is answered so, and `P` holds of the state to which the replies lead. Over files
-- that aren't revealed the count of faults is one more for each `cannot read`, and that of reads rises by a number that `MayReadAll` allows.
-- All else of the store is as before.
pub record AreReplies (P : FileMap → Machine → Type 0) (commands : List Command) (replies : List Reply) (before now : StoreSeen) : Type 0 where
  pub one_each : length replies ≡ length commands
  pub reported : IfRevealedOr before.held
      ((reads : ℕ) × MayReadAll commands replies reads × (now.faults ≡ saturating_sum (unread replies) before.faults) × (now.asked ≡ saturating_sum reads before.asked))
      (λ files. (others : ℕ) × (reads : ℕ) × (last : Machine) × AreAnswered files (empty_of []) commands replies others reads last × P files last
      × (now.faults ≡ saturating_sum others before.faults) × (now.asked ≡ saturating_sum reads before.asked))
  pub store : now ≡ record before { faults = now.faults; asked = now.asked }

-- `most` files were read at most, one read of them failed at most, and nothing else was done to the store
abbrev pub ReadsAtMost : ℕ → StoreSeen → StoreSeen → Type 0
ReadsAtMost most before now = (reads : ℕ) × (reads ≤ most) × (now.asked ≡ saturating_sum reads before.asked)
    × ((now.faults ≡ before.faults) ⊎ (now.faults ≡ one_more before.faults)) × (now ≡ record before { faults = now.faults; asked = now.asked })

-- a command has no reply, since it was out of memory: a load may have read its file and those of its rows, a segment that is made active, a
-- JSL and a restart one file, and no other command any
abbrev pub IsUnanswered : Command → StoreSeen → StoreSeen → Type 0
IsUnanswered (Load path) before now = ReadsAtMost most_reads before now
IsUnanswered (LoadSegment user segment) before now = ReadsAtMost 1 before now
IsUnanswered (Jsl user segment at) before now = ReadsAtMost 1 before now
IsUnanswered (Restart user) before now = ReadsAtMost 1 before now
IsUnanswered _ before now = now ≡ before
