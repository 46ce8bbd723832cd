-- What it takes to restart a program, whatever files there are.
use Rattle.std.specs.Prelude.{◌≡◌, ◌≢◌, ◌⊎◌, ℕ, Bool, true, false, not, ◌||◌, if◌then◌else◌, List, [], length, map, Option, Some, None, Result, Ok, Err}
use Rattle.std.specs.Option.{option_map_or}
use Rattle.omf_format.specs.File.{Segment, segment_at}
use Rattle.omf_io.specs.Counts.{IsFront}
use Rattle.omf_io.specs.Files.{FileMap, IsRead, IsUnread}
use Rattle.load_meaning.specs.Loadable.{IsLoadable}
use Rattle.iigs_meaning.specs.declared.handles.Handle.{Handle}
use Rattle.iigs_meaning.specs.Puts.{without_user}
use Rattle.iigs_meaning.specs.Memory.{Memory, KeepsBut, bytes_at}
use Rattle.loader_machine.specs.declared.faults.LoaderFault.{LoaderFault}
use Rattle.loader_machine.specs.declared.faults.LoaderFault.TheVariants as fault
use Rattle.loader_machine.specs.declared.seen.SegmentHead.{SegmentHead}
use Rattle.loader_machine.specs.declared.seen.Life.TheVariants.{Running, Dormant}
use Rattle.loader_machine.specs.Heads.{head_of, at_number, is_static}
use Rattle.loader_machine.specs.State.{no_pokes, user_of, with_user, with_all, is_attached}
use Rattle.loader_machine.specs.Presences.{handle_at}
use Rattle.loader_machine.specs.Stands.{setting, stands}
use Rattle.loader_machine.specs.Refusals.{restart_refusal}
use Rattle.loader_machine.specs.Steps.{active_block, changed_all, are_there, static_handles, is_read_again, entry_of, lost_refusal}
use Rattle.loader_machine.specs.Needs.{some_read_again}
use Rattle.loader_agrees.specs.Agrees.{LoadedUser, Loaded, kept_outlines, seen_by}
use Rattle.loader_agrees.specs.Acts.{HasPlaced, started_kept}
use Rattle.sys_loader.specs.declared.answers.Started.{Started}
use Rattle.loader_users.specs.declared.user.UserSegment as users
use Rattle.loader_users.specs.Taken.{IsBadFile}
use Rattle.sys_loader.specs.Calls.{IsBeginRefusal}
use Rattle.loader_users.specs.Changed.{IsChanged}
use Rattle.loader_users.specs.Users.{with_life}
use Rattle.loader_users.specs.Users.{kept_heads}

-- a dormant user
pub record CanRestart (loader : Loaded) (id : ℕ) (kept : LoadedUser) : Type 0 where
  pub passes : restart_refusal (is_attached (kept_outlines loader.users) id) (seen_by loader id) ≡ None
  pub made : user_of loader.users id ≡ Some kept
  pub rests : kept.life ≡ Dormant

-- all its static segments are there
abbrev pub is_whole : Loaded → LoadedUser → Bool
is_whole loader kept = are_there loader.memory.slots kept.heads kept.handles 1

-- the file of the user of an ID has to be read: not all its static segments are there, or one is read again at each restart
abbrev pub restart_reads : Loaded → ℕ → Bool
restart_reads loader id = option_map_or (λ kept. not (is_whole loader kept) || some_read_again kept.heads) (user_of loader.users id) false

-- ---- entries for other files

-- the file isn't the one that was loaded: an entry for another file leads to no segment of an attached user, or its headers differ
abbrev pub IsOtherFile : List (Option LoadedUser) → LoadedUser → List Segment → LoaderFault → Type 0
IsOtherFile users kept segments why = (lost_refusal (kept_heads users kept.attached) segments ≡ Some why)
    ⊎ ((lost_refusal (kept_heads users kept.attached) segments ≡ None) × IsChanged kept.heads (map head_of segments) why)

-- ---- in place

-- The blocks of the segments that are read again begin with the content of these segments, without pokes; nothing else is written.
pub record AreReread (segments : List Segment) (id : ℕ) (kept : LoadedUser) (old new : Memory) : Type 0 where
  pub banks : new.banks ≡ old.banks
  pub slots : new.slots ≡ old.slots
  pub begins : (n : ℕ) (s : Segment) (h : Handle) → segment_at segments n ≡ Some s → is_read_again (head_of s) ≡ true → handle_at kept.handles n ≡ Some h
      → IsFront (stands (setting id old.slots kept.handles) no_pokes s) (bytes_at new h.slot)
  pub stay : (slot : ℕ) → ((n : ℕ) (head : SegmentHead) (h : Handle) → at_number kept.heads n ≡ Some head → is_read_again head ≡ true → handle_at kept.handles n ≡ Some h
      → h.slot ≢ slot) → bytes_at new slot ≡ bytes_at old slot
  pub sizes : (slot : ℕ) → length (bytes_at new slot) ≡ length (bytes_at old slot)

-- from this memory on, the static segments are active, and the user runs with those attached to it
pub record HasResumed (old : Memory) (users : List (Option LoadedUser)) (id : ℕ) (kept : LoadedUser) (started : Started) (new : Loaded) : Type 0 where
  pub user : started.user ≡ id
  pub slots : new.memory.slots ≡ changed_all active_block old.slots (static_handles kept.heads kept.handles 1)
  pub bytes : KeepsBut old new.memory []
  pub users' : new.users ≡ with_all (with_life Running) (with_user users id (Some (record kept { life = Running }))) kept.attached
  pub entry : started.entry ≡ entry_of id new.memory.slots kept.heads kept.handles

-- ---- in new blocks

-- memory in which the user has no handle
abbrev pub released_memory : Memory → ℕ → Memory
released_memory memory id = record { banks = memory.banks; slots = without_user memory.slots id; bytes = memory.bytes }

-- the user's handles are released, and its file begins as at a load, under the same ID; those attached to it run
pub record HasBegunAnew (old : Loaded) (id : ℕ) (kept : LoadedUser) (segments : List Segment) (started : Started) (new : Loaded) : Type 0 where
  pub user : started.user ≡ id
  pub placed : HasPlaced (released_memory old.memory id) kept.path segments id started.entry new.memory
  pub users' : new.users ≡ with_all (with_life Running)
      (with_user old.users id (Some (record (started_kept kept.path (map head_of segments) placed.handles) { attached = kept.attached }))) kept.attached

-- ---- the whole call

-- The user runs again: all its static segments are there, and none is read again; or some are; or not all are there.
pub data HasRestarted (held : Option FileMap) (old : Loaded) (id : ℕ) (kept : LoadedUser) (started : Started) (new : Loaded) : Type 0 where
  InPlace : is_whole old kept ≡ true → some_read_again kept.heads ≡ false → HasResumed old.memory old.users id kept started new → HasRestarted held old id kept started new
  Reread : is_whole old kept ≡ true → some_read_again kept.heads ≡ true → (file : List ℕ) → IsRead held kept.path file → (segments : List Segment) → IsLoadable file segments
      → lost_refusal (kept_heads old.users kept.attached) segments ≡ None → map head_of segments ≡ kept.heads → (middle : Memory) → AreReread segments id kept old.memory middle → HasResumed middle old.users id kept started new
      → HasRestarted held old id kept started new
  Anew : is_whole old kept ≡ false → (file : List ℕ) → IsRead held kept.path file → (segments : List Segment) → IsLoadable file segments
      → lost_refusal (kept_heads old.users kept.attached) segments ≡ None → map head_of segments ≡ kept.heads → HasBegunAnew old id kept segments started new → HasRestarted held old id kept started new

-- why a file that was read restarts no program: it isn't loaded, or not the one that was loaded before; or its static segments lack slots
-- or room once all handles of the user are released; or the call is out of memory
abbrev pub IsAgainRefusal : List ℕ → Loaded → ℕ → LoadedUser → LoaderFault → Type 0
IsAgainRefusal file old id kept why = IsBadFile false file why
    ⊎ ((segments : List Segment) × IsLoadable file segments × (IsOtherFile old.users kept segments why
    ⊎ ((map head_of segments ≡ kept.heads) × (is_whole old kept ≡ false) × IsBeginRefusal (released_memory old.memory id) id kept.heads why)))

-- why a program doesn't restart
pub data IsRestartRefusal (held : Option FileMap) (old : Loaded) (id : ℕ) (before now : ℕ) (why : LoaderFault) : Type 0 where
  IsStopped : restart_refusal (is_attached (kept_outlines old.users) id) (seen_by old id) ≡ Some why → now ≡ before → IsRestartRefusal held old id before now why
  CantRead : (kept : LoadedUser) → CanRestart old id kept → restart_reads old id ≡ true → IsUnread held kept.path before now → why ≡ fault.CannotRead → IsRestartRefusal held old id before now why
  LacksMemory : restart_refusal (is_attached (kept_outlines old.users) id) (seen_by old id) ≡ None → restart_reads old id ≡ true → why ≡ fault.Memory → now ≡ before → IsRestartRefusal held old id before now why
  CantRestart : (kept : LoadedUser) → CanRestart old id kept → restart_reads old id ≡ true → (file : List ℕ) → IsRead held kept.path file → IsAgainRefusal file old id kept why → now ≡ before
      → IsRestartRefusal held old id before now why

-- what a restart did
abbrev pub DidRestart : Option FileMap → Loaded → ℕ → Result Started LoaderFault → Loaded → ℕ → ℕ → Type 0
DidRestart held old id (Ok started) new before now = (kept : LoadedUser) × CanRestart old id kept × HasRestarted held old id kept started new × (now ≡ before)
DidRestart held old id (Err why) new before now = IsRestartRefusal held old id before now why × (new ≡ old)

-- ---- on the way; no public clause cites the rest

-- the handle of a static segment, and of one that is read again
abbrev pub static_handle : users.UserSegment → Option Handle
static_handle s = if is_static s.head then s.handle else None

abbrev pub again_handle : users.UserSegment → Option Handle
again_handle s = if is_read_again s.head then s.handle else None

-- the blocks of these handles are active, and nothing is written
pub record AreActivated (handles : List (Option Handle)) (old new : Memory) : Type 0 where
  pub slots : new.slots ≡ changed_all active_block old.slots handles
  pub bytes : KeepsBut old new []

-- a user was restarted in place from a file that was read
abbrev pub HasReloaded : List ℕ → Loaded → ℕ → LoadedUser → Started → Loaded → Type 0
HasReloaded file old id kept started new = (segments : List Segment) × IsLoadable file segments
    × (lost_refusal (kept_heads old.users kept.attached) segments ≡ None) × (map head_of segments ≡ kept.heads)
    × (middle : Memory) × AreReread segments id kept old.memory middle × HasResumed middle old.users id kept started new

-- a user began anew from a file that was read
abbrev pub HasBegunFrom : List ℕ → Loaded → ℕ → LoadedUser → Started → Loaded → Type 0
HasBegunFrom file old id kept started new = (segments : List Segment) × IsLoadable file segments
    × (lost_refusal (kept_heads old.users kept.attached) segments ≡ None) × (map head_of segments ≡ kept.heads)
    × HasBegunAnew old id kept segments started new
