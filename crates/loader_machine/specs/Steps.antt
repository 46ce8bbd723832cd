-- What each command does to the machine, and what it answers. A refused command leaves the state. These are this project's own
-- rules (GS/OS Reference, "System Loader", is the model for users, dynamic segments, shutdown and restart).
use Rattle.std.specs.Prelude.{◌≡◌, ℕ, ◌+◌, ◌-◌, ◌^◌, ◌==◌, ◌<◌, ◌≤◌, ◌&&◌, ◌||◌, nat_le, nat_lt, Bool, true, false, List, [], ◌∷◌, ◌++◌, length, map, take, drop, count_by, Option, Some, None, IsSome, is_some, slice_get, slice_set, slice_index, if◌then◌else◌, not, ◌%◌, ◌/◌}
use Rattle.std.specs.Option.{option_map, option_map_or, option_and_then}
use Rattle.std.specs.FinMap.{insert}
use Rattle.omf_format.specs.Header.{is_reload, has_attribute}
use Rattle.omf_format.specs.Number.{number_at}
use Rattle.omf_format.specs.File.{Segment, segment_at}
use Rattle.omf_io.specs.Files.{FileMap}
use Rattle.load_meaning.specs.declared.table.Target.{Target}
use Rattle.load_meaning.specs.Table.{entry_place, entry_start}
use Rattle.load_meaning.specs.Pathnames.{paths_of}
use Rattle.load_meaning.specs.LoadTable.{targets_of, table_of}
use Rattle.iigs_meaning.specs.declared.handles.Handle.{Handle}
use Rattle.iigs_meaning.specs.declared.wants.Want.{Want}
use Rattle.iigs_meaning.specs.declared.wants.Block.{Block}
use Rattle.iigs_meaning.specs.declared.faults.PlaceFault.TheVariants as place
use Rattle.iigs_meaning.specs.Slots.{get, is_free, new_handle, after_release, with_value}
use Rattle.iigs_meaning.specs.Fits.{Slots, block_in}
use Rattle.iigs_meaning.specs.Placement.{emptied_where}
use Rattle.iigs_meaning.specs.Puts.{MakesRoom, LacksRoom, Puts, PutsAnew, PutsAll, IsPlaceAllRefusal, without_user}
use Rattle.iigs_meaning.specs.Blocks.{state_of, can_purge_of}
use Rattle.iigs_meaning.specs.Room.{CountsBelow, IsRoom}
use Rattle.iigs_meaning.specs.Slide.{Slides, count_moved}
use Rattle.load_meaning.specs.declared.load.LoadFault.{LoadFault}
use Rattle.load_meaning.specs.declared.load.LoadCause.TheVariants as cause
use Rattle.loader_machine.specs.declared.faults.LoaderFault.TheVariants.{NotJsl, NoTarget, NotEntry, CannotRead, BadFile, NoHandle, NoRoom}
use Rattle.loader_machine.specs.Heads.{SegmentHead, head_of, at_number, is_static, is_table, want_of, wants_of, number_of, entry_in, some_if}
use Rattle.loader_machine.specs.State.{Running, Dormant, HeldSegment, User, Machine, absent, fresh, UserSeen, empty_of, first_id, user_of, with_user, handles_of, held_at, outlines, named_by, is_attached, with_all, without_all, ids_from, handles_in}
use Rattle.loader_machine.specs.Presences.{Absent, Purged, Idle, Active, presence_at, handle_at, is_there}
use Rattle.loader_machine.specs.Stands.{stands, setting_with, far_of, place_in}
use Rattle.loader_machine.specs.Found.{HoldsLoad, FileFound, Unread, Bad, Good, IsFound, Joined, Stops, Joins, AreJoined}
use Rattle.loader_machine.specs.Commands.{Command, Banks, Load, LoadSegment, UnloadSegment, Jsl, ShutDown, Restart, Purge, Poke, Bytes, Where, Info, Alloc, Free, Lock, Unlock, Level, StateOf, Room, Compact, Reply, Okay, Started, MadeActive, Entered, Counted, Shown, Lies, Nothing, SegmentIs, Placed, BlockIs, RoomIs, Moved, Refused}
use Rattle.loader_machine.specs.Refusals.{Refuse, load_refusal, rows_refusal, bytes_refusal, info_refusal, load_segment_refusal, unload_refusal, poke_refusal, shut_down_refusal, restart_refusal, purge_refusal, state_refusal, free_refusal, change_refusal}
use Rattle.std.specs.List.{flat_map}

-- ---- what is seen of users

abbrev pub seen_of : User → List Segment → UserSeen
seen_of user segments = record { life = user.life; handles = handles_of user; heads = map head_of segments }

-- a user that was made and isn't gone, and the segments of its file
pub record Sees (held : FileMap) (state : Machine) (id : ℕ) : Type 0 where
  pub user : User
  pub made : user_of state.users id ≡ Some user
  pub segments : List Segment
  pub holds : HoldsLoad held user.path segments

-- what is seen of an ID: nothing where it has no user
abbrev pub IsSeen : FileMap → Machine → ℕ → Option UserSeen → Type 0
IsSeen held state id None = user_of state.users id ≡ None
IsSeen held state id (Some seen) = (sees : Sees held state id) × (seen ≡ seen_of sees.user sees.segments)

-- where there is a refusal it is the reply and the state stays, and else the last holds
abbrev pub Decides : Refuse → Machine → Reply → Machine → Type 0 → Type 0
Decides None state reply next done = done
Decides (Some fault) state reply next done = (reply ≡ Refused fault) × (next ≡ state)

-- a command on a user: it is refused by what is seen of the user, and else does this with it
pub record Does (held : FileMap) (state : Machine) (id : ℕ) (refusal : Option UserSeen → Refuse) (reply : Reply) (next : Machine) (Done : User → Type 0) : Type 0 where
  pub seen : Option UserSeen
  pub is_seen : IsSeen held state id seen
  pub is : Decides (refusal seen) state reply next ((user : User) × (user_of state.users id ≡ Some user) × Done user)

-- a type by a truth value
abbrev pub Either : Bool → Type 0 → Type 0 → Type 0
Either true P Q = P
Either false P Q = Q

-- ---- changes of a state

abbrev pub with_slots : Machine → Slots → Machine
with_slots state slots = record state { slots = slots }

-- the user with this held of the segment with a number
abbrev pub with_segment : User → ℕ → HeldSegment → User
with_segment user number held = record user { segments = slice_set user.segments (number - 1) held }

-- the state with these slots and this user under an ID
abbrev pub with_both : Machine → ℕ → Slots → Option User → Machine
with_both state id slots user = record { banks = state.banks; slots = slots; users = with_user state.users id user }

-- a block of an active segment, and of an idle one
abbrev pub active_block : Block → Block
active_block block = record block { locked = true; level = 0 }

abbrev pub idle_block : Block → Block
idle_block block = record block { locked = false; level = 3 }

-- a block of a segment that is let go where it is active
abbrev pub let_go : Block → Block
let_go block = if is_some block.at && block.locked then idle_block block else block

-- the slots with a handle's block changed, where it is live
abbrev pub with_block_changed : (Block → Block) → Slots → Handle → Slots
with_block_changed change slots h = option_map_or (λ block. with_value slots h (change block)) (get slots h) slots

-- the slots with the block of each of these handles changed, where it is live
abbrev pub changed_all : (Block → Block) → Slots → List (Option Handle) → Slots
changed_all change slots [] = slots
changed_all change slots (None ∷ handles) = changed_all change slots handles
changed_all change slots (Some h ∷ handles) = changed_all change (with_block_changed change slots h) handles

-- ---- placement of all static segments

-- the outcome of placing blocks for all wants: too few free slots; the first want, from 0, that has no room; or handles and slots
pub data Put : Type 0 where
  NoSlots : Put
  Lacks : (place : ℕ) → Put
  PutIn : (handles : List Handle) (slots : Slots) → Put

-- what is held of segments whose static ones have these handles, in order
abbrev pub held_of_heads : List SegmentHead → List Handle → List HeldSegment
held_of_heads [] hs = []
held_of_heads (head ∷ heads) [] = absent ∷ held_of_heads heads []
held_of_heads (head ∷ heads) (h ∷ hs) = if is_static head then fresh (Some h) ∷ held_of_heads heads hs else absent ∷ held_of_heads heads (h ∷ hs)

-- where a user begins
abbrev pub entry_of : ℕ → Slots → List SegmentHead → List (Option Handle) → Option ℕ
entry_of id slots heads handles = entry_in heads (place_in slots handles) 1

-- a program begins: its static segments are placed among these slots, in order of number
pub record Begins (Makes : MakesRoom) (state : Machine) (slots : Slots) (path : List ℕ) (id : ℕ) (segments : List Segment) (users : User → List (Option User)) (reply : Reply) (next : Machine) : Type 0 where
  pub put : Put
  pub is_put : let wants = wants_of (map head_of segments) in elim put as (λ outcome. Type 0) [
    | NoSlots ↦ IsPlaceAllRefusal Makes state.banks id slots wants place.NoHandle
    | Lacks i ↦ IsPlaceAllRefusal Makes state.banks id slots wants (place.NoRoom i)
    | PutIn handles last ↦ (length wants ≤ count_by is_free slots) × PutsAll Makes state.banks id slots wants handles last
  ]
  pub lands : let heads = map head_of segments in elim put as (λ outcome. Type 0) [
    | NoSlots ↦ (reply ≡ Refused NoHandle) × (next ≡ state)
    | Lacks i ↦ (reply ≡ Refused (NoRoom (number_of 1 heads i))) × (next ≡ state)
    | PutIn handles last ↦ let user : User = record { path = path; life = Running; segments = held_of_heads heads handles; attached = [] } in
        (reply ≡ Started id (entry_of id last heads (handles_of user)))
        × (next ≡ record { banks = state.banks; slots = last; users = users user })
  ]

-- ---- load

-- a running user for each row, attached to another: none of its segments is there
abbrev pub joined_users : List (List ℕ) → List (List Segment) → List (Option User)
joined_users [] all = []
joined_users (path ∷ paths) [] = []
joined_users (path ∷ paths) (segments ∷ all) =
    Some (record { path = path; life = Running; segments = map (λ head. absent) (map head_of segments); attached = [] }) ∷ joined_users paths all

-- The first entry that leads nowhere, where the first has this place. One for file 1 leads into the user's own file; one for another leads to a
-- segment of that attached user, of which these are the headers, and to an offset below its LENGTH.
abbrev pub lost_from : List (List SegmentHead) → ℕ → List Target → Option ℕ
lost_from attached k [] = None
lost_from attached k (t ∷ targets) =
    if nat_le t.file 1
    || option_map_or (λ heads. option_map_or (λ head. nat_lt t.offset head.length) (at_number heads t.segment) false) (slice_get attached (t.file - 2)) false
    then lost_from attached (k + 1) targets else Some k

-- and the fault that it is: in the table, at the entry
abbrev pub lost_in : List (List SegmentHead) → List Segment → ℕ → Option LoadFault
lost_in attached segments number = option_and_then (λ s. option_map (λ k. record { cause = cause.NoSuchTarget; segment = number; at = entry_start k })
    (lost_from attached 0 (targets_of s))) (segment_at segments number)

unfoldable pub lost_refusal : List (List SegmentHead) → List Segment → Refuse
lost_refusal attached segments = option_map BadFile (option_and_then (lost_in attached segments) (table_of segments))

-- by what the read of the path finds, and by the outcome of the rows: the program begins, with a user more for each row, attached to it
abbrev pub StepsLoad : MakesRoom → FileMap → Machine → List ℕ → Reply → Machine → Type 0
StepsLoad Makes held state path reply next = Decides (load_refusal (length state.users)) state reply next
    ((found : FileFound) × IsFound held path found × (elim found [
      | Unread ↦ (reply ≡ Refused CannotRead) × (next ≡ state)
      | Bad fault ↦ (reply ≡ Refused (BadFile fault)) × (next ≡ state)
      | Good segments ↦ let rows = paths_of segments in let id = first_id + length state.users in
          Decides (rows_refusal (length state.users) (length rows)) state reply next
          ((joined : Joined) × AreJoined held rows joined × (elim joined [
            | Stops reads why ↦ (reply ≡ Refused why) × (next ≡ state)
            | Joins all ↦ Decides (lost_refusal (map (map head_of) all) segments) state reply next
                (Begins Makes state state.slots path id segments
                (λ user. state.users ++ Some (record user { attached = ids_from (id + 1) (length rows) }) ∷ joined_users rows all) reply next)
          ]))
    ]))

-- ---- activation

-- the outcome of making a dynamic segment active: no slot, no room, or its address and the next state
pub data Activation : Type 0 where
  OutOfSlots : Activation
  OutOfRoom : Activation
  Made : (address : ℕ) (next : Machine) → Activation

-- The segment with a number is made active: an active one stays, and an idle one is locked with level 0, and keeps its pokes; a purged one is
-- read again and placed under its old handle, and an absent one is read and placed under a new handle.
pub record MakesActive (Makes : MakesRoom) (held : FileMap) (state : Machine) (id number : ℕ) (of : ℕ → Reply) (reply : Reply) (next : Machine) : Type 0 where
  pub sees : Sees held state id
  pub s : Segment
  pub is : segment_at sees.segments number ≡ Some s
  pub outcome : Activation
  pub activates : let user = sees.user in let want = want_of (head_of s) in elim (presence_at state.slots (handles_of user) number) as (λ presence. Type 0) [
    | Active h address ↦ outcome ≡ Made address state
    | Idle h address ↦ outcome ≡ Made address (with_slots state (with_block_changed active_block state.slots h))
    | Purged h ↦ elim outcome [
      | OutOfSlots ↦ ⊥
      | OutOfRoom ↦ LacksRoom Makes state.banks state.slots want
      | Made address last ↦ (slots : Slots) × (puts : PutsAnew Makes state.banks state.slots h want slots) × (puts.address ≡ address)
          × (last ≡ with_both state id (with_block_changed active_block slots h) (Some (with_segment user number (fresh (Some h)))))
    ]
    | Absent ↦ elim outcome [
      | OutOfSlots ↦ new_handle state.slots ≡ None
      | OutOfRoom ↦ IsSome (new_handle state.slots) × LacksRoom Makes state.banks state.slots want
      | Made address last ↦ (h : Handle) × (slots : Slots) × (puts : Puts Makes state.banks state.slots want id true 0 false h slots)
          × (puts.address ≡ address) × (last ≡ with_both state id slots (Some (with_segment user number (fresh (Some h)))))
    ]
  ]
  pub answers : elim outcome as (λ one. Type 0) [
    | OutOfSlots ↦ (reply ≡ Refused NoHandle) × (next ≡ state)
    | OutOfRoom ↦ (reply ≡ Refused (NoRoom number)) × (next ≡ state)
    | Made address last ↦ (reply ≡ of address) × (next ≡ last)
  ]

-- ---- the content of a user's segment

-- the segment with a number has this content, by where the segments of the user are, and those that its table names
pub record StandsIn (held : FileMap) (state : Machine) (id number : ℕ) (bytes : List ℕ) : Type 0 where
  pub sees : Sees held state id
  pub s : Segment
  pub is : segment_at sees.segments number ≡ Some s
  pub bytes_are : bytes ≡ stands (setting_with (far_of state.slots (outlines state.users) id) id state.slots (handles_of sees.user))
      (held_at sees.user number).pokes s

-- ---- where an address lies

-- the address lies in the active segment with a number of a user that runs, among its LENGTH bytes, at this offset
pub record IsAt (held : FileMap) (state : Machine) (address id number offset : ℕ) : Type 0 where
  pub sees : Sees held state id
  pub runs : sees.user.life ≡ Running
  pub s : Segment
  pub is : segment_at sees.segments number ≡ Some s
  pub h : Handle
  pub first : ℕ
  pub active : presence_at state.slots (handles_of sees.user) number ≡ Active h first
  pub sum : first + offset ≡ address
  pub inside : offset < s.fields.length

pub data AddressPlace : Type 0 where
  Nowhere : AddressPlace
  In : (id number offset : ℕ) → AddressPlace

abbrev pub IsLocated : FileMap → Machine → ℕ → AddressPlace → Type 0
IsLocated held state address Nowhere = (id number offset : ℕ) → ¬ IsAt held state address id number offset
IsLocated held state address (In id number offset) = IsAt held state address id number offset

-- ---- jsl

-- the target of the table's entry whose code is at an offset, where the first target is that of the entry at this place
abbrev pub target_at_code : List Target → ℕ → ℕ → Option Target
target_at_code [] k offset = None
target_at_code (t ∷ targets) k offset = if entry_place k == offset then Some t else target_at_code targets (k + 1) offset

-- the first of the four bytes is that of a JSL ($22)
abbrev pub no_jsl : List ℕ → Refuse
no_jsl bytes = if slice_index bytes 0 == 0x22 then None else Some NotJsl

-- the address in a JSL's four bytes, lowest byte first
abbrev pub address_of : List ℕ → ℕ
address_of bytes = number_at 3 1 bytes

-- Four bytes of the segment's content are followed to the segment in which their address lies. It is entered there, or, if it is a table,
-- the segment of the entry at that place, of the user that the entry names, is made active, and entered at the entry's offset.
pub record StepsJsl (Makes : MakesRoom) (held : FileMap) (state : Machine) (id number at : ℕ) (reply : Reply) (next : Machine) : Type 0 where
  pub bytes : List ℕ
  pub stands : StandsIn held state id number bytes
  pub is : let four = take 4 (drop at bytes) in let address = address_of four in Decides (no_jsl four) state reply next
      ((place : AddressPlace) × IsLocated held state address place × (elim place [
        | Nowhere ↦ (reply ≡ Refused NoTarget) × (next ≡ state)
        | In id number offset ↦ (sees : Sees held state id) × (s : Segment) × (segment_at sees.segments number ≡ Some s) × Either (is_table (head_of s))
            (elim (target_at_code (targets_of s) 0 offset) [
              | None ↦ (reply ≡ Refused NotEntry) × (next ≡ state)
              | Some t ↦ (other : ℕ) × (named_by (outlines state.users) id t.file ≡ Some other)
                  × MakesActive Makes held state other t.segment (λ address. Entered other t.segment t.offset (address + t.offset)) reply next
            ])
            ((reply ≡ Entered id number offset address) × (next ≡ state))
      ]))

-- ---- shutdown and restart

-- the slots once all handles of these users were released
abbrev pub without_users : Slots → List ℕ → Slots
without_users slots [] = slots
without_users slots (id ∷ ids) = without_users (without_user slots id) ids

-- kept, every active segment of the user and of those attached to it becomes idle, and they are dormant; dropped, their handles are released,
-- and they are gone
abbrev pub StepsShutDown : Machine → ℕ → Bool → User → Machine → Type 0
StepsShutDown state id true user next = next ≡ record {
  banks = state.banks;
  slots = changed_all let_go state.slots (flat_map (handles_in (outlines state.users)) (user.attached ++ id ∷ []));
  users = with_all (λ one. record one { life = Dormant }) state.users (user.attached ++ id ∷ []);
}
StepsShutDown state id false user next = next ≡ record {
  banks = state.banks;
  slots = without_users state.slots (user.attached ++ id ∷ []);
  users = without_all state.users (user.attached ++ id ∷ []);
}

-- every static segment is there
abbrev pub are_there : Slots → List SegmentHead → List (Option Handle) → ℕ → Bool
are_there slots [] handles number = true
are_there slots (head ∷ heads) handles number =
    (if is_static head then is_there (presence_at slots handles number) else true) && are_there slots heads handles (number + 1)

-- the handles of the static segments, where the first segment has this number
abbrev pub static_handles : List SegmentHead → List (Option Handle) → ℕ → List (Option Handle)
static_handles [] handles number = []
static_handles (head ∷ heads) handles number =
    if is_static head then handle_at handles number ∷ static_handles heads handles (number + 1) else static_handles heads handles (number + 1)

-- a static segment that is read again at each restart
abbrev pub is_read_again : SegmentHead → Bool
is_read_again head = is_static head && is_reload head.kind

-- what is held of segments once those that are read again have no pokes
abbrev pub read_again : List SegmentHead → List HeldSegment → List HeldSegment
read_again [] held = held
read_again (head ∷ heads) [] = []
read_again (head ∷ heads) (one ∷ held) = (if is_read_again head then fresh one.handle else one) ∷ read_again heads held

-- Where every static segment is there it restarts in place: they become active, and those with the reload attribute lose their pokes. Else its
-- handles are released, and it begins as at a load. It keeps the users attached to it, and they run.
pub record StepsRestart (Makes : MakesRoom) (held : FileMap) (state : Machine) (id : ℕ) (reply : Reply) (next : Machine) : Type 0 where
  pub sees : Sees held state id
  pub is : let user = sees.user in let heads = map head_of sees.segments in let runs : User → User = λ one. record one { life = Running } in
      Either (are_there state.slots heads (handles_of user) 1)
      (let slots = changed_all active_block state.slots (static_handles heads (handles_of user) 1) in
      (reply ≡ Started id (entry_of id slots heads (handles_of user)))
      × (next ≡ record {
        banks = state.banks;
        slots = slots;
        users = with_all runs (with_user state.users id (Some (record user { life = Running; segments = read_again heads user.segments }))) user.attached;
      }))
      (Begins Makes state (without_user state.slots id) user.path id sees.segments
      (λ new. with_all runs (with_user state.users id (Some (record new { attached = user.attached }))) user.attached) reply next)

-- ---- the script's own blocks

-- a block is placed for the script under a new handle, unlocked or locked, and movable or not
pub data StepsAlloc (Makes : MakesRoom) (state : Machine) (want : Want) (locked : Bool) (level : ℕ) (movable : Bool) (reply : Reply) (next : Machine) : Type 0 where
  IsPlaced : (h : Handle) (slots : Slots) (puts : Puts Makes state.banks state.slots want 0 locked level movable h slots)
      → reply ≡ Placed h puts.address → next ≡ with_slots state slots → StepsAlloc Makes state want locked level movable reply next
  HasNoHandle : new_handle state.slots ≡ None → reply ≡ Refused NoHandle → next ≡ state → StepsAlloc Makes state want locked level movable reply next
  HasNoRoom : IsSome (new_handle state.slots) → LacksRoom Makes state.banks state.slots want → reply ≡ Refused (NoRoom 0) → next ≡ state
      → StepsAlloc Makes state want locked level movable reply next

-- the handle's block is changed
abbrev pub StepsChange : Machine → Handle → (Block → Block) → Reply → Machine → Type 0
StepsChange state h change reply next = Decides (change_refusal state.slots h) state reply next
    ((reply ≡ Okay) × (next ≡ with_slots state (with_block_changed change state.slots h)))

-- ---- all commands

-- In a state, over the held files, a command has this reply and leads to the next state.
abbrev pub Steps : MakesRoom → FileMap → Machine → Command → Reply → Machine → Type 0
Steps Makes held state (Banks banks) reply next = (reply ≡ Okay) × (next ≡ empty_of banks)
Steps Makes held state (Load path) reply next = StepsLoad Makes held state path reply next
Steps Makes held state (LoadSegment id number) reply next = Does held state id (λ seen. load_segment_refusal seen number) reply next
    (λ user. MakesActive Makes held state id number (MadeActive number) reply next)
Steps Makes held state (UnloadSegment id number) reply next = Does held state id (λ seen. unload_refusal state.slots seen number) reply next
    (λ user. (reply ≡ Okay) × (next ≡ with_slots state (elim (handle_at (handles_of user) number) [
      | None ↦ state.slots
      | Some h ↦ with_block_changed idle_block state.slots h
    ])))
Steps Makes held state (Jsl id number at) reply next = Does held state id (λ seen. bytes_refusal state.slots seen number at 4) reply next
    (λ user. StepsJsl Makes held state id number at reply next)
Steps Makes held state (ShutDown id keep) reply next = Does held state id (λ seen. shut_down_refusal (is_attached (outlines state.users) id) seen keep) reply next
    (λ user. (reply ≡ Okay) × StepsShutDown state id keep user next)
Steps Makes held state (Restart id) reply next = Does held state id (λ seen. restart_refusal (is_attached (outlines state.users) id) seen) reply next
    (λ user. StepsRestart Makes held state id reply next)
Steps Makes held state (Purge id) reply next = (seen : Option UserSeen) × IsSeen held state id seen × Decides (purge_refusal seen id) state reply next
    ((reply ≡ Counted (count_by (λ slot. option_map_or (can_purge_of id) (block_in slot) false) state.slots))
    × (next ≡ with_slots state (map (emptied_where (can_purge_of id)) state.slots)))
Steps Makes held state (Poke id number at byte) reply next = Does held state id (λ seen. poke_refusal state.slots seen number at) reply next
    (λ user. let was = held_at user number in
    (reply ≡ Okay) × (next ≡ with_both state id state.slots (Some (with_segment user number (record was { pokes = insert was.pokes at byte })))))
Steps Makes held state (Bytes id number at count) reply next = Does held state id (λ seen. bytes_refusal state.slots seen number at count) reply next
    (λ user. (bytes : List ℕ) × StandsIn held state id number bytes × (reply ≡ Shown (take count (drop at bytes))) × (next ≡ state))
Steps Makes held state (Where address) reply next = (place : AddressPlace) × IsLocated held state address place
    × (reply ≡ elim place [ Nowhere ↦ Nothing | In id number offset ↦ Lies id number offset ]) × (next ≡ state)
Steps Makes held state (Info id number) reply next = Does held state id (λ seen. info_refusal seen number) reply next
    (λ user. (sees : Sees held state id) × (s : Segment) × (segment_at sees.segments number ≡ Some s)
    × (reply ≡ SegmentIs (presence_at state.slots (handles_of user) number) s.fields.length s.fields.kind) × (next ≡ state))
Steps Makes held state (Alloc size attributes address) reply next =
    StepsAlloc Makes state (record {
      size = size;
      align = if has_attribute 0x0004 attributes then 0x100 else 1;
      no_cross = has_attribute 0x0010 attributes;
      no_special = has_attribute 0x0008 attributes;
      at = some_if (has_attribute 0x0002 attributes) address;
      bank = some_if (has_attribute 0x0001 attributes) (address / 0x10000);
      low = None;
    }) (has_attribute 0x8000 attributes) (attributes / 0x100 % 4)
    (not (has_attribute 0x4000 attributes) && not (has_attribute 0x0002 attributes) && not (has_attribute 0x0001 attributes)) reply next
Steps Makes held state (Free h) reply next = Decides (free_refusal state.slots h) state reply next
    ((reply ≡ Okay) × (next ≡ with_slots state (after_release state.slots h)))
Steps Makes held state (Lock h) reply next = StepsChange state h (λ block. record block { locked = true }) reply next
Steps Makes held state (Unlock h) reply next = StepsChange state h (λ block. record block { locked = false }) reply next
Steps Makes held state (Level h level) reply next = StepsChange state h (λ block. record block { level = level }) reply next
Steps Makes held state (StateOf h) reply next = Decides (state_refusal state.slots h) state reply next
    ((block : Block) × (get state.slots h ≡ Some block) × (reply ≡ BlockIs (state_of block)) × (next ≡ state))
Steps Makes held state Room reply next = (count : ℕ) × CountsBelow (IsRoom state.banks state.slots) (2 ^ 24) count × (reply ≡ RoomIs count) × (next ≡ state)
Steps Makes held state Compact reply next = (slots : Slots) × Slides state.banks state.slots slots × (reply ≡ Moved (count_moved state.slots slots))
    × (next ≡ with_slots state slots)
