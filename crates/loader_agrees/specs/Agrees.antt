-- What a loader holds, and when it agrees with a state of the machine.
use Rattle.std.specs.Prelude.{◌≡◌, ◌≢◌, ◌⊎◌, ℕ, ◌+◌, ◌≤◌, ◌<◌, ◌^◌, Bool, true, false, List, [], length, map, Option, Some, option_map, IsSome, slice_get}
use Rattle.omf_format.specs.File.{Segment, segment_at}
use Rattle.omf_io.specs.Counts.{saturating_sum, one_more, IsFront}
use Rattle.omf_io.specs.Files.{FileMap, StoreSeen}
use Rattle.load_meaning.specs.declared.table.Target.{Target}
use Rattle.load_meaning.specs.Pathnames.{most_paths}
use Rattle.load_meaning.specs.LoadTable.{is_table, targets_of, target_at, entry_count}
use Rattle.omf_format.specs.Header.{is_dynamic, is_skipped}
use Rattle.iigs_meaning.specs.declared.handles.Handle.{Handle}
use Rattle.iigs_meaning.specs.declared.wants.Want.{Want}
use Rattle.iigs_meaning.specs.declared.wants.Block.{Block}
use Rattle.iigs_meaning.specs.Slots.{get, slot_at}
use Rattle.iigs_meaning.specs.Fits.{block_in}
use Rattle.iigs_meaning.specs.Puts.{MakesRoom}
use Rattle.iigs_meaning.specs.Memory.{Memory, bytes_at}
use Rattle.loader_machine.specs.declared.seen.SegmentHead.{SegmentHead}
use Rattle.loader_machine.specs.declared.seen.Life.{Life}
use Rattle.loader_machine.specs.declared.seen.Life.TheVariants.{Running, Dormant}
use Rattle.loader_machine.specs.declared.faults.LoaderFault.TheVariants as refusal
use Rattle.loader_machine.specs.Heads.{head_of, at_number, is_static}
use Rattle.loader_machine.specs.Heads.{is_table as is_table_head}
pub use Rattle.loader_machine.specs.State.{Outline, outline_of, outlines}
use Rattle.loader_machine.specs.State.{User, Machine, UserSeen, attached_at, named_by, no_pokes, first_id, max_users, user_of, held_at}
use Rattle.loader_machine.specs.Presences.{handle_at, presence, presence_at, there_at, is_active}
use Rattle.loader_machine.specs.Stands.{Far, setting_with, far_of, stands}
use Rattle.loader_machine.specs.Found.{HoldsLoad}
use Rattle.loader_machine.specs.Commands.{Command, Reply, Refused}
use Rattle.loader_machine.specs.Steps.{StepsAlloc, Steps}
use Rattle.loader_machine.specs.Needs.{Needs, IsReadFor}

-- a user as a loader keeps it: the path of its file, whether it runs, for each segment of the file its handle and what was read of
-- its header, and the IDs of the users that are attached to it
pub record LoadedUser : Type 0 where
  pub path : List ℕ
  pub life : Life
  pub handles : List (Option Handle)
  pub heads : List SegmentHead
  pub attached : List ℕ

-- memory of banks, with the bytes of the blocks, and the users in the order in which they were made; None is gone
pub record Loaded : Type 0 where
  pub memory : Memory
  pub users : List (Option LoadedUser)

-- what is seen of a kept user, and of the user of an ID
abbrev pub seen_in : LoadedUser → UserSeen
seen_in kept = record { life = kept.life; handles = kept.handles; heads = kept.heads }

abbrev pub seen_by : Loaded → ℕ → Option UserSeen
seen_by loader id = option_map seen_in (user_of loader.users id)

abbrev pub outline : LoadedUser → Outline
outline kept = record { path = kept.path; life = kept.life; handles = kept.handles; attached = kept.attached }

abbrev pub kept_outlines : List (Option LoadedUser) → List (Option Outline)
kept_outlines users = map (option_map outline) users

-- A user agrees: the path holds a load file, whose headers are kept; a table has no pokes; the static segments of a running user are
-- active; and while all static segments are there, the block of each segment that is there begins with the segment's content, where `far`
-- says where the segments of attached users are active.
pub record UserAgrees (held : FileMap) (memory : Memory) (far : Far) (id : ℕ) (kept : LoadedUser) (user : User) : Type 0 where
  pub same : outline kept ≡ outline_of user
  pub segments : List Segment
  pub holds : HoldsLoad held kept.path segments
  pub heads : kept.heads ≡ map head_of segments
  pub count : length user.segments ≡ length segments
  pub unpoked : (number : ℕ) (s : Segment) → segment_at segments number ≡ Some s → is_table s ≡ true → (held_at user number).pokes ≡ no_pokes
  pub statics : kept.life ≡ Running → (number : ℕ) (s : Segment) → segment_at segments number ≡ Some s → is_static (head_of s) ≡ true
      → is_active (presence_at memory.slots kept.handles number) ≡ true
  pub begins : ((number : ℕ) (s : Segment) → segment_at segments number ≡ Some s → is_static (head_of s) ≡ true
      → IsSome (there_at (presence_at memory.slots kept.handles number))) → (number : ℕ) (s : Segment) (h : Handle) → segment_at segments number ≡ Some s
      → handle_at kept.handles number ≡ Some h → IsSome (there_at (presence_at memory.slots kept.handles number))
      → IsFront (stands (setting_with far id memory.slots kept.handles) (held_at user number).pokes s) (bytes_at memory h.slot)

-- an attached user: it runs where its user does, nothing is attached to it, and its segments are dynamic, not skipped, and no tables
pub record IsJoined (life : Life) (other : LoadedUser) : Type 0 where
  pub same : other.life ≡ life
  pub alone : other.attached ≡ []
  pub dynamic : (number : ℕ) (head : SegmentHead) → at_number other.heads number ≡ Some head → (is_dynamic head.kind ≡ true) × (is_skipped head.kind ≡ false)
  pub plain : (number : ℕ) (head : SegmentHead) → at_number other.heads number ≡ Some head → is_table_head head ≡ false

-- each ID in a list of attached users, which has 16 at most, is that of such a user, and is in one list, at one place
pub record AreAttached (users : List (Option LoadedUser)) : Type 0 where
  pub few : (place : ℕ) (kept : LoadedUser) → slice_get users place ≡ Some (Some kept) → length kept.attached ≤ most_paths
  pub each : (place i n : ℕ) (kept : LoadedUser) → slice_get users place ≡ Some (Some kept) → slice_get kept.attached i ≡ Some n
      → (other : LoadedUser) × (user_of users n ≡ Some other) × IsJoined kept.life other
  pub once : (place other i j n : ℕ) (one two : LoadedUser) → slice_get users place ≡ Some (Some one) → slice_get users other ≡ Some (Some two)
      → slice_get one.attached i ≡ Some n → slice_get two.attached j ≡ Some n → (place ≡ other) × (i ≡ j)

-- a target of a file above 1 leads to a segment of the attached user of that file, and to an offset below its LENGTH
pub record LeadsFar (users : List (Option LoadedUser)) (id : ℕ) (t : Target) : Type 0 where
  pub other : ℕ
  pub named : attached_at (kept_outlines users) id t.file ≡ Some other
  pub kept : LoadedUser
  pub made : user_of users other ≡ Some kept
  pub head : SegmentHead
  pub head' : at_number kept.heads t.segment ≡ Some head
  pub inside : t.offset < head.length

-- Over these files the loader agrees with the state: all of it but bytes and headers is the state's, and each user agrees, by where the segments
-- of its attached users are active; attached users live as their users do, and each entry for one in the table of a user's file leads to a place
-- in one.
pub record Agrees (held : FileMap) (loader : Loaded) (state : Machine) : Type 0 where
  pub banks : loader.memory.banks ≡ state.banks
  pub slots : loader.memory.slots ≡ state.slots
  pub users : kept_outlines loader.users ≡ outlines state.users
  pub attached : AreAttached loader.users
  pub entries : (place number k : ℕ) (kept : LoadedUser) (segments : List Segment) (s : Segment) (t : Target) → slice_get loader.users place ≡ Some (Some kept)
      → HoldsLoad held kept.path segments → segment_at segments number ≡ Some s → is_table s ≡ true → slice_get (targets_of s) k ≡ Some t → 2 ≤ t.file
      → LeadsFar loader.users (first_id + place) t
  pub each : (place : ℕ) (kept : LoadedUser) (user : User) → slice_get loader.users place ≡ Some (Some kept) → slice_get state.users place ≡ Some (Some user)
      → UserAgrees held loader.memory (far_of loader.memory.slots (kept_outlines loader.users) (first_id + place)) (first_id + place) kept user

-- ---- what is true of every loader

-- a block of an active segment is locked with level 0, and one of an idle segment unlocked with level 3
abbrev pub IsSegments : Block → Type 0
IsSegments block = ((block.locked ≡ true) × (block.level ≡ 0)) ⊎ ((block.locked ≡ false) × (block.level ≡ 3))

-- the handle of a user's segment is live, its block the user's and not movable, with room for LENGTH bytes
pub record IsOf (memory : Memory) (id : ℕ) (head : SegmentHead) (h : Handle) : Type 0 where
  pub block : Block
  pub live : get memory.slots h ≡ Some block
  pub user : block.user ≡ id
  pub fixed : block.movable ≡ false
  pub form : IsSegments block
  pub want : head.length ≤ block.want.size
  pub room : IsSome block.at → head.length ≤ length (bytes_at memory h.slot)

-- the segment with a number of the user at a place has the handle
pub record Has (users : List (Option LoadedUser)) (place number : ℕ) (head : SegmentHead) (h : Handle) : Type 0 where
  pub kept : LoadedUser
  pub made : slice_get users place ≡ Some (Some kept)
  pub head' : at_number kept.heads number ≡ Some head
  pub handle : handle_at kept.handles number ≡ Some h

-- an entry of a table in memory leads to a dynamic segment that isn't skipped, of the user or of an attached one
pub record IsCall (users : List (Option LoadedUser)) (id : ℕ) (t : Target) : Type 0 where
  pub other : ℕ
  pub named : named_by (kept_outlines users) id t.file ≡ Some other
  pub kept : LoadedUser
  pub made : user_of users other ≡ Some kept
  pub head : SegmentHead
  pub head' : at_number kept.heads t.segment ≡ Some head
  pub dynamic : is_dynamic head.kind ≡ true
  pub loaded : is_skipped head.kind ≡ false

-- At most 255 users were made. Each has fewer than 65,536 segments, and a place for a handle for each header. The static segments of a
-- running user are active, and no segment of a dormant one is. Each handle of a user is its own, no two segments have one slot, and
-- each block of a user is a segment's.
pub record IsSound (memory : Memory) (users : List (Option LoadedUser)) : Type 0 where
  pub few : length users ≤ max_users
  pub lengths : (place : ℕ) (kept : LoadedUser) → slice_get users place ≡ Some (Some kept) → length kept.handles ≡ length kept.heads
  pub short : (place : ℕ) (kept : LoadedUser) → slice_get users place ≡ Some (Some kept) → length kept.heads < 2 ^ 16
  pub statics : (place : ℕ) (kept : LoadedUser) (number : ℕ) (head : SegmentHead) → slice_get users place ≡ Some (Some kept) → kept.life ≡ Running
      → at_number kept.heads number ≡ Some head → is_static head ≡ true → is_active (presence_at memory.slots kept.handles number) ≡ true
  pub rests : (place : ℕ) (kept : LoadedUser) (number : ℕ) → slice_get users place ≡ Some (Some kept) → kept.life ≡ Dormant
      → is_active (presence_at memory.slots kept.handles number) ≡ false
  pub each : (place number : ℕ) (head : SegmentHead) (h : Handle) → Has users place number head h → IsOf memory (first_id + place) head h
  pub once : (place other number n : ℕ) (head second : SegmentHead) (h k : Handle) → Has users place number head h → Has users other n second k
      → h.slot ≡ k.slot → (place ≡ other) × (number ≡ n)
  pub only : (slot : ℕ) (block : Block) → block_in (slot_at memory.slots slot) ≡ Some block → block.user ≢ 0
      → (place : ℕ) × (number : ℕ) × (head : SegmentHead) × (h : Handle) × Has users place number head h × (h.slot ≡ slot)
  pub attached : AreAttached users
  pub calls : (place number k : ℕ) (head : SegmentHead) (h : Handle) → Has users place number head h → is_table_head head ≡ true → IsSome (there_at (presence memory.slots (Some h)))
      → k < entry_count head.length → IsCall users (first_id + place) (target_at (bytes_at memory h.slot) k)

-- ---- a call, over revealed files

-- the command is answered as by the machine, and the loader agrees with the next state
abbrev pub Met : MakesRoom → FileMap → Machine → Command → Reply → Loaded → Type 0
Met Makes held state command reply new = (next : Machine) × Steps Makes held state command reply next × Agrees held new next

-- the script's request for a block, by any want, is answered as by the machine, and the loader agrees with the next state
abbrev pub MetAlloc : MakesRoom → FileMap → Machine → Want → Bool → ℕ → Bool → Reply → Loaded → Type 0
MetAlloc Makes held state want locked level movable reply new =
    (next : Machine) × StepsAlloc Makes state want locked level movable reply next × Agrees held new next

-- A call that may read and may lack memory is answered as by the machine, the loader agrees with the next state, and the count of the
-- store's faults stays. Or a path is needed, and the call answers that it couldn't be read, where the count is one more; or the call is out
-- of memory, where the count stays. In these two cases the loader agrees with the old state.
abbrev pub Meets : MakesRoom → FileMap → Machine → Command → Reply → Loaded → ℕ → ℕ → Type 0
Meets Makes held state command reply new before now =
    (Met Makes held state command reply new × (now ≡ before))
    ⊎ (((reply ≡ Refused refusal.CannotRead) × (paths : List (List ℕ)) × Needs held state command paths × (paths ≢ []) × Agrees held new state × (now ≡ one_more before))
    ⊎ ((reply ≡ Refused refusal.Memory) × Agrees held new state × (now ≡ before)))

-- The files that the command needs were read, once each, and no other was: the count of reads is one more for each. Where a read failed, as
-- this number of failures says, or the call was out of memory, the files after it may not have been read.
abbrev pub ReadsNeeded : FileMap → Machine → Command → ℕ → ℕ → ℕ → Type 0
ReadsNeeded held state command others before now = (reads : ℕ) × IsReadFor held state command others reads × (now ≡ saturating_sum reads before)

-- a call that may read several files, with how many it read, by what is seen of the store before it and after it
abbrev pub MeetsReads : MakesRoom → FileMap → Machine → Command → Reply → Loaded → StoreSeen → StoreSeen → Type 0
MeetsReads Makes held state command reply new before now =
    (Met Makes held state command reply new × (now.faults ≡ before.faults) × ReadsNeeded held state command 0 before.asked now.asked)
    ⊎ (((reply ≡ Refused refusal.CannotRead) × (paths : List (List ℕ)) × Needs held state command paths × (paths ≢ []) × Agrees held new state
    × (now.faults ≡ one_more before.faults) × ReadsNeeded held state command 1 before.asked now.asked)
    ⊎ ((reply ≡ Refused refusal.Memory) × Agrees held new state × (now.faults ≡ before.faults) × ReadsNeeded held state command 1 before.asked now.asked))
