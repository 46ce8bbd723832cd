-- What it takes to make a dynamic segment active, whatever files there are.
use Rattle.std.specs.Prelude.{◌≡◌, ◌⊎◌, ℕ, ◌^◌, ◌<◌, Bool, true, false, List, length, map, Option, Some, None, IsSome, Result, Ok, Err}
use Rattle.std.specs.Option.{option_map_or}
use Rattle.omf_format.specs.Header.{is_dynamic}
use Rattle.omf_format.specs.File.{Segment, segment_at}
use Rattle.omf_io.specs.Counts.{IsFront}
use Rattle.omf_io.specs.Files.{FileMap, IsRead, IsUnread}
use Rattle.iigs_meaning.specs.declared.handles.Handle.{Handle}
use Rattle.iigs_meaning.specs.Slots.{new_handle}
use Rattle.iigs_meaning.specs.Puts.{LacksRoom}
use Rattle.loader_machine.specs.Rule.{RoomRule}
use Rattle.iigs_meaning.specs.Memory.{Memory, IsPlaced, IsReplaced, Changes, bytes_at}
use Rattle.loader_machine.specs.declared.faults.LoaderFault.{LoaderFault}
use Rattle.loader_machine.specs.declared.faults.LoaderFault.TheVariants as fault
use Rattle.loader_machine.specs.declared.seen.SegmentHead.{SegmentHead}
use Rattle.loader_machine.specs.declared.seen.Life.TheVariants.{Running}
use Rattle.loader_machine.specs.declared.seen.Presence.{Presence}
use Rattle.loader_machine.specs.declared.seen.Presence.TheVariants.{Absent, Purged, Idle, Active}
use Rattle.loader_machine.specs.Heads.{head_of, at_number, want_of}
use Rattle.loader_machine.specs.State.{no_pokes, user_of, with_user, is_attached, led_by}
use Rattle.loader_machine.specs.Presences.{handle_at, presence, presence_at}
use Rattle.loader_machine.specs.Stands.{setting, stands}
use Rattle.loader_machine.specs.Refusals.{load_segment_refusal}
use Rattle.loader_machine.specs.Steps.{active_block}
use Rattle.loader_machine.specs.Needs.{is_read}
use Rattle.loader_agrees.specs.Agrees.{LoadedUser, Loaded, kept_outlines, seen_by}
use Rattle.loader_users.specs.Taken.{IsReadAs, IsBadFile}
use Rattle.loader_users.specs.Renewing.{AreRenewed}
use Rattle.loader_users.specs.Bytes.{with_bytes}
use Rattle.sys_loader.specs.Lives.{HasTurned}
use Rattle.loader_users.specs.Changed.{IsChanged}
use Rattle.loader_users.specs.Users.{with_handle}

-- ---- a file that has changed

-- ---- a segment that can be made active

-- a dynamic segment of a user that runs, with this header and handle
pub record CanLoad (loader : Loaded) (id number : ℕ) (head : SegmentHead) (handle : Option Handle) : Type 0 where
  pub passes : load_segment_refusal (seen_by loader id) number ≡ None
  pub kept : LoadedUser
  pub made : user_of loader.users id ≡ Some kept
  pub runs : kept.life ≡ Running
  pub head' : at_number kept.heads number ≡ Some head
  pub handle' : handle_at kept.handles number ≡ handle
  pub dynamic : is_dynamic head.kind ≡ true
  pub fits : head.length < 2 ^ 32

-- ---- a segment that is read

-- its block is placed, locked with level 0: under a new handle, or anew under the one that it has
abbrev pub IsBrought : Memory → ℕ → SegmentHead → Option Handle → Handle → ℕ → Memory → Type 0
IsBrought old id head None h address new = (is : IsPlaced RoomRule old (want_of head) id true 0 false h new) × (is.puts.address ≡ address)
IsBrought old id head (Some k) h address new =
    (k ≡ h) × (middle : Memory) × (is : IsReplaced RoomRule old h (want_of head) middle) × (is.puts.address ≡ address) × Changes middle h active_block new

-- why it isn't: no slot is free, or there is no room
abbrev pub IsBringRefusal : Memory → SegmentHead → Option Handle → ℕ → LoaderFault → Type 0
IsBringRefusal memory head None number why = ((why ≡ fault.NoHandle) × (new_handle memory.slots ≡ None))
    ⊎ ((why ≡ fault.NoRoom number) × IsSome (new_handle memory.slots) × LacksRoom RoomRule memory.banks memory.slots (want_of head))
IsBringRefusal memory head (Some h) number why = (why ≡ fault.NoRoom number) × LacksRoom RoomRule memory.banks memory.slots (want_of head)

-- The block of one of these segments is placed and begins with the segment's content, and the entries for it in the tables of the user that
-- leads to it follow, by file and number; nothing else is written.
pub record HasCome (old : Loaded) (id number : ℕ) (kept : LoadedUser) (head : SegmentHead) (handle : Option Handle) (segments : List Segment) (address : ℕ) (new : Loaded) : Type 0 where
  pub h : Handle
  pub placed : Memory
  pub brought : IsBrought old.memory id head handle h address placed
  pub content : List ℕ
  pub same : length content ≡ length (bytes_at placed h.slot)
  pub begins : (s : Segment) → segment_at segments number ≡ Some s → IsFront (stands (setting id placed.slots (with_handle kept number h).handles) no_pokes s) content
  pub lead : LoadedUser
  pub leads : user_of old.users (led_by (kept_outlines old.users) id).0 ≡ Some lead
  pub renewed : AreRenewed lead.heads lead.handles (Some ((led_by (kept_outlines old.users) id).1, number)) (Some address) (with_bytes placed h.slot content) new.memory
      (length lead.heads)
  pub users : new.users ≡ with_user old.users id (Some (with_handle kept number h))

-- why a segment of a file that was read isn't placed: the file isn't loaded, or not the one that was loaded, or there is no handle or room;
-- or the call is out of memory
abbrev pub IsComeRefusal : List ℕ → Loaded → ℕ → ℕ → LoadedUser → SegmentHead → Option Handle → LoaderFault → Type 0
IsComeRefusal file old id number kept head handle why = IsBadFile (is_attached (kept_outlines old.users) id) file why
    ⊎ ((segments : List Segment) × IsReadAs (is_attached (kept_outlines old.users) id) file segments × (IsChanged kept.heads (map head_of segments) why
    ⊎ ((map head_of segments ≡ kept.heads) × IsBringRefusal old.memory head handle number why)))

-- a segment of a file that was read is placed
abbrev pub HasComeFrom : List ℕ → Loaded → ℕ → ℕ → LoadedUser → SegmentHead → Option Handle → ℕ → Loaded → Type 0
HasComeFrom file old id number kept head handle address new =
    (segments : List Segment) × IsReadAs (is_attached (kept_outlines old.users) id) file segments × (map head_of segments ≡ kept.heads) × HasCome old id number kept head handle segments address new

-- why a segment of the file at a user's path isn't placed: the read is refused, the call is out of memory, or the file that was read gives
-- none
pub data IsReadRefusal (held : Option FileMap) (old : Loaded) (id number : ℕ) (kept : LoadedUser) (head : SegmentHead) (handle : Option Handle) (before now : ℕ) (why : LoaderFault) : Type 0 where
  CantRead : IsUnread held kept.path before now → why ≡ fault.CannotRead → IsReadRefusal held old id number kept head handle before now why
  LacksMemory : why ≡ fault.Memory → now ≡ before → IsReadRefusal held old id number kept head handle before now why
  CantCome : (file : List ℕ) → IsRead held kept.path file → IsComeRefusal file old id number kept head handle why → now ≡ before
      → IsReadRefusal held old id number kept head handle before now why

-- the outcome of reading the file at a user's path: its segment is placed, or none is and all stays
abbrev pub DidCome : Option FileMap → Loaded → ℕ → ℕ → LoadedUser → SegmentHead → Option Handle → Result ℕ LoaderFault → Loaded → ℕ → ℕ → Type 0
DidCome held old id number kept head handle (Ok address) new before now =
    ((file : List ℕ) × IsRead held kept.path file × HasComeFrom file old id number kept head handle address new) × (now ≡ before)
DidCome held old id number kept head handle (Err why) new before now = IsReadRefusal held old id number kept head handle before now why × (new ≡ old)

-- ---- the whole call

-- the segment with a number of the user of an ID isn't there, and has to be read
abbrev pub segment_reads : Loaded → ℕ → ℕ → Bool
segment_reads loader id number = option_map_or (λ kept. is_read (presence_at loader.memory.slots kept.handles number)) (user_of loader.users id) false

-- the outcome for a segment that can be made active, by where it is: nothing is done, it wakes, or it is placed
abbrev pub HasActivated : Option FileMap → Loaded → ℕ → ℕ → LoadedUser → SegmentHead → Option Handle → Presence → Result ℕ LoaderFault → Loaded → ℕ → ℕ → Type 0
HasActivated held old id number kept head handle (Active h at) result new before now = (result ≡ Ok at) × (new ≡ old) × (now ≡ before)
HasActivated held old id number kept head handle (Idle h at) result new before now =
    (result ≡ Ok at) × HasTurned old id number h active_block (Some at) new × (now ≡ before)
HasActivated held old id number kept head handle (Purged h) result new before now = DidCome held old id number kept head handle result new before now
HasActivated held old id number kept head handle Absent result new before now = DidCome held old id number kept head handle result new before now

-- what a call to make a segment active did
abbrev pub DidActivate : Option FileMap → Loaded → ℕ → ℕ → Result ℕ LoaderFault → Loaded → ℕ → ℕ → Type 0
DidActivate held old id number result new before now =
    ((why : LoaderFault) × (load_segment_refusal (seen_by old id) number ≡ Some why) × (result ≡ Err why) × (new ≡ old) × (now ≡ before))
    ⊎ ((head : SegmentHead) × (handle : Option Handle) × (can : CanLoad old id number head handle)
    × HasActivated held old id number can.kept head handle (presence old.memory.slots handle) result new before now)
