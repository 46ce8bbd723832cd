-- Words of lemmas: parts of definitions, each of which says what one line of its user says.
use Rattle.omf_format.specs.Ascii as ascii
use Rattle.iigs_meaning.specs.declared.faults.PlaceFault.TheVariants as place
use Rattle.loader_machine.specs.Heads as headers
use Rattle.omf_format.specs.Header as header
use Rattle.loader_machine.specs.Presences.{Absent, Active, Idle, Purged, active_at, presence_at}
use Rattle.loader_machine.specs.Steps.{Activation, AddressPlace, Begins, Decides, Either, In, Lacks, Made, MakesActive, NoSlots, Nowhere, OutOfRoom, OutOfSlots, Put, PutIn, Sees, active_block, are_there, changed_all, entry_of, idle_block, joined_users, lost_refusal, read_again, static_handles, target_at_code, with_block_changed, with_both, with_segment, with_slots, without_users, held_of_heads, let_go}
use Rattle.loader_machine.specs.Stands.{AddressSetting, Far, over_from, far_of, setting_with}
use Rattle.loader_machine.specs.Commands.{Alloc, Banks, Bytes, Command, Compact, Entered, Jsl, Lies, Load, Nothing, Poke, Refused, Reply, Room, ShutDown, Started}
use Rattle.loader_machine.specs.Found.{AreJoined, Bad, FileFound, Good, HoldsFile, HoldsRuntime, HoldsRuntimeFault, Joined, Joins, Stops, Unread, joined_after}
use Rattle.loader_machine.specs.declared.faults.LoaderFault.TheVariants.{BadFile, CannotRead, Empty, NoHandle, NoRoom, NoSegment, NoTarget, NotEntry, TableByte}
use Rattle.loader_machine.specs.declared.script.ScriptCause.TheVariants.{BadNumber, BankTwice, BanksFirst, UnknownCommand, WrongCount}
use Rattle.iigs_meaning.specs.declared.wants.BlockState.{BlockState}
use Rattle.std.specs.Prelude.{Bool, Err, IsSome, List, None, Ok, Option, Result, Some, [], bytes_eq, codes, count_by, false, filter, if◌then◌else◌, length, map, max, nat_le, nat_lt, not, slice_get, true, ℕ, ◌%◌, ◌&&◌, ◌++◌, ◌+◌, ◌-◌, ◌/◌, ◌==◌, ◌||◌, ◌∷◌, ◌≡◌, ◌≤◌}
use Rattle.loader_machine.specs.declared.script.CommandName.{CommandName}
use Rattle.load_meaning.specs.declared.table.Entry.{Entry}
use Rattle.omf_io.specs.Files.{FileMap}
use Rattle.iigs_meaning.specs.declared.handles.Handle.{Handle}
use Rattle.iigs_meaning.specs.Puts.{IsPlaceAllRefusal, LacksRoom, MakesRoom, Puts, PutsAll, PutsAnew}
use Rattle.load_meaning.specs.declared.load.LoadFault.{LoadFault}
use Rattle.loader_machine.specs.State.{Machine, Pokes, Running, Dormant, User, UserSeen, absent, first_id, fresh, handles_of, ids_from, named_by, outlines, with_all, with_user, without_all, Outline, handles_in}
use Rattle.loader_machine.specs.declared.seen.Presence.{Presence}
use Rattle.loader_machine.specs.Refusals.{Refuse, rows_refusal}
use Rattle.loader_machine.specs.declared.script.ScriptCause.{ScriptCause}
use Rattle.omf_format.specs.File.{Segment, segment_at}
use Rattle.loader_machine.specs.Heads.{SegmentHead, at_number, head_of, some_if}
use Rattle.iigs_meaning.specs.Fits.{Slots}
use Rattle.load_meaning.specs.declared.table.Target.{Target}
use Rattle.iigs_meaning.specs.declared.wants.Want.{Want}
use Rattle.omf_format.specs.Header.{alignment_of, avoids_special, form_of, has_attribute, stays_in_bank, is_absolute_bank, is_bank_relative}
use Rattle.load_meaning.specs.Cells.{byte_of, cells}
use Rattle.loader_machine.specs.Replies.{cause_text, at_text, handle_text}
use Rattle.std.specs.List.{flat_map, list_all}
use Rattle.omf_base.specs.Digits.{hexadecimal}
use Rattle.loader_machine.specs.Alloc.{is_attributes}
use Rattle.loader_machine.specs.Script.{is_banks, is_number, is_skipped, is_word, number_of, stands_twice, words_command, words_of, command_named}
use Rattle.iigs_meaning.specs.Slots.{is_free, new_handle}
use Rattle.load_meaning.specs.LoadTable.{is_table, targets_of}
use Rattle.std.specs.Option.{option_map, option_map_or}
use Rattle.load_meaning.specs.Pathnames.{paths_of}
use Rattle.loader_machine.specs.Needs.{some_read_again}
use Rattle.load_meaning.specs.Table.{table_bytes}

-- ---- refusals, settings

-- the segment is there, and isn't skipped
abbrev pub of_head : Option SegmentHead → (SegmentHead → Refuse) → Refuse
of_head found rest = elim found [ None ↦ Some NoSegment | Some head ↦ if header.is_skipped head.kind then Some NoSegment else rest head ]

-- it is no jump table
abbrev pub of_plain : SegmentHead → Refuse → Refuse
of_plain head rest = if headers.is_table head then Some TableByte else rest

-- a block is there
abbrev pub of_there : Option ℕ → Refuse → Refuse
of_there at rest = elim at [ None ↦ Some Empty | Some address ↦ rest ]

-- the entry in memory of a table's target: it has the user's ID, and jumps to the target where that is active
abbrev pub entry_for : AddressSetting → Target → Entry
entry_for at t = record {
  user = at.id;
  file = t.file;
  segment = t.segment;
  offset = t.offset;
  loaded = option_map (λ first. first + t.offset) (at.target t.file t.segment);
}

-- the bytes of a table in memory
abbrev pub entries_bytes : AddressSetting → List Target → List ℕ
entries_bytes at targets = table_bytes (map (entry_for at) targets)

-- the bytes of a segment as it is read
abbrev pub read_bytes : AddressSetting → Segment → List ℕ
read_bytes at s = if is_table s then entries_bytes at (targets_of s) else map (byte_of at.place) (cells s)

-- bytes with the pokes over them
abbrev pub with_pokes : Pokes → List ℕ → List ℕ
with_pokes pokes bytes = over_from 0 pokes bytes

-- no such segment is active
abbrev pub no_far_segment : Far
no_far_segment file number = None

-- the address of an active segment; file 1 is the user's own
abbrev pub target_with : Far → Slots → List (Option Handle) → ℕ → ℕ → Option ℕ
target_with far slots handles file number = if file == 1 then active_at (presence_at slots handles number) else far file number

-- where the segments of the user of an ID are, and where those that its table names
abbrev pub setting_in : Machine → ℕ → User → AddressSetting
setting_in state id user = setting_with (far_of state.slots (outlines state.users) id) id state.slots (handles_of user)

-- ---- wants

-- direct page and stack
abbrev pub is_stack : SegmentHead → Bool
is_stack head = form_of head.kind == 0x12

-- ORG fixes the bank, where it asks for one and doesn't ask for a place in a bank
abbrev pub fixes_bank : SegmentHead → Bool
fixes_bank head = not (head.org == 0) && (is_absolute_bank head.kind && not (is_bank_relative head.kind))

-- ORG fixes the place in a bank, where it asks for one and doesn't ask for a bank
abbrev pub fixes_low : SegmentHead → Bool
fixes_low head = not (head.org == 0) && (is_bank_relative head.kind && not (is_absolute_bank head.kind))

-- ORG fixes the address, where it asks for both or for neither; ORG 0 fixes nothing
abbrev pub fixes_address : SegmentHead → Bool
fixes_address head = not (head.org == 0) && (not (fixes_bank head) && not (fixes_low head))

-- a stack is in bank 0, on a page at least, and asks for nothing else
abbrev pub stack_want : SegmentHead → Want
stack_want head = record {
  size = max 1 head.length;
  align = max 0x100 (alignment_of head.align);
  no_cross = stays_in_bank head.bank_size;
  no_special = false;
  at = None;
  bank = Some 0;
  low = None;
}

-- every other segment asks for what its header says
abbrev pub plain_want : SegmentHead → Want
plain_want head = record {
  size = max 1 head.length;
  align = alignment_of head.align;
  no_cross = stays_in_bank head.bank_size;
  no_special = avoids_special head.kind;
  at = some_if (fixes_address head) head.org;
  bank = some_if (fixes_bank head) (head.org / 0x10000);
  low = some_if (fixes_low head) (head.org % 0x10000);
}

-- what ATTR and the address ask of a block's place
abbrev pub alloc_want : ℕ → ℕ → ℕ → Want
alloc_want size attributes address = record {
  size = size;
  align = if has_attribute 0x0004 attributes then 0x100 else 1;
  no_cross = has_attribute 0x0010 attributes;
  no_special = has_attribute 0x0008 attributes;
  at = some_if (has_attribute 0x0002 attributes) address;
  bank = some_if (has_attribute 0x0001 attributes) (address / 0x10000);
  low = None;
}

-- the bit of ATTR for a locked block
abbrev pub is_locked : ℕ → Bool
is_locked attributes = has_attribute 0x8000 attributes

-- the purge level in ATTR
abbrev pub level_in : ℕ → ℕ
level_in attributes = attributes / 0x100 % 4

-- a block is movable that isn't asked to be fixed, at the address, or in its bank
abbrev pub is_movable : ℕ → Bool
is_movable attributes = not (has_attribute 0x4000 attributes) && not (has_attribute 0x0002 attributes) && not (has_attribute 0x0001 attributes)

-- ---- reads of files

-- what a read of a row's path finds
abbrev pub IsRowFound : FileMap → List ℕ → FileFound → Type 0
IsRowFound held path Unread = (file : List ℕ) → ¬ HoldsFile held path file
IsRowFound held path (Bad fault) = HoldsRuntimeFault held path fault
IsRowFound held path (Good segments) = HoldsRuntime held path segments

-- by what the read of the first row finds, where `Rest` holds of the outcome of the others
abbrev pub JoinsFound : FileFound → (Joined → Type 0) → Joined → Type 0
JoinsFound found Rest joined = elim found [
  | Unread ↦ joined ≡ Stops 1 CannotRead
  | Bad fault ↦ joined ≡ Stops 1 (BadFile fault)
  | Good segments ↦ (rest : Joined) × Rest rest × (joined ≡ joined_after segments rest)
]

-- how many files were read
abbrev pub reads_of : Joined → ℕ
reads_of (Stops reads why) = reads
reads_of (Joins all) = length all

-- the paths in the rows of a file's pathname segment, where its users can be made
abbrev pub rows_if : Refuse → List (List ℕ) → List (List ℕ)
rows_if refusal rows = elim refusal [ None ↦ rows | Some fault ↦ [] ]

-- the paths of the rows by what a read finds
abbrev pub rows_of : Machine → FileFound → List (List ℕ)
rows_of state Unread = []
rows_of state (Bad fault) = []
rows_of state (Good segments) = rows_if (rows_refusal (length state.users) (length (paths_of segments))) (paths_of segments)

-- a restart reads where a static segment isn't there, or one is read again
abbrev pub restart_reads : Machine → UserSeen → Bool
restart_reads state seen = not (are_there state.slots seen.heads seen.handles 1) || some_read_again seen.heads

-- ---- load

-- the outcome of placing blocks for all wants
abbrev pub IsPut : MakesRoom → List ℕ → ℕ → Slots → List Want → Put → Type 0
IsPut Makes banks user slots wants NoSlots = IsPlaceAllRefusal Makes banks user slots wants place.NoHandle
IsPut Makes banks user slots wants (Lacks i) = IsPlaceAllRefusal Makes banks user slots wants (place.NoRoom i)
IsPut Makes banks user slots wants (PutIn handles last) = (length wants ≤ count_by is_free slots) × PutsAll Makes banks user slots wants handles last

-- a running user whose static segments have these handles
abbrev pub started_user : List ℕ → List SegmentHead → List Handle → User
started_user path heads handles = record { path = path; life = Running; segments = held_of_heads heads handles; attached = [] }

-- the static segments of a program are placed, and the users are these then
abbrev pub Lands : Machine → List ℕ → ℕ → List SegmentHead → (User → List (Option User)) → Put → Reply → Machine → Type 0
Lands state path id heads users put reply next = elim put [
  | NoSlots ↦ (reply ≡ Refused NoHandle) × (next ≡ state)
  | Lacks i ↦ (reply ≡ Refused (NoRoom (headers.number_of 1 heads i))) × (next ≡ state)
  | PutIn handles last ↦ let user = started_user path heads handles in
      (reply ≡ Started id (entry_of id last heads (handles_of user)))
      × (next ≡ record { banks = state.banks; slots = last; users = users user })
]

-- a running user that is attached to another: none of its segments is there
abbrev pub joined_user : List ℕ → List SegmentHead → User
joined_user path heads = record { path = path; life = Running; segments = map (λ head. absent) heads; attached = [] }

-- the entry leads into the user's own file, or into a segment of an attached user
abbrev pub is_reached : List (List SegmentHead) → Target → Bool
is_reached attached t = nat_le t.file 1 || option_map_or (λ heads. option_map_or (λ head. nat_lt t.offset head.length) (at_number heads t.segment) false)
    (slice_get attached (t.file - 2)) false

-- the users where one more begins, and after it one for each row, attached to it
abbrev pub begun_users : Machine → List (List ℕ) → List (List Segment) → User → List (Option User)
begun_users state paths all user = state.users
    ++ Some (record user { attached = ids_from (first_id + length state.users + 1) (length paths) }) ∷ joined_users paths all

-- by the outcome of the rows: the program begins, with a user more for each row, attached to it
abbrev pub LoadsJoined : MakesRoom → Machine → List ℕ → List Segment → Joined → Reply → Machine → Type 0
LoadsJoined Makes state path segments joined reply next = elim joined [
  | Stops reads why ↦ (reply ≡ Refused why) × (next ≡ state)
  | Joins all ↦ Decides (lost_refusal (map (map head_of) all) segments) state reply next
      (Begins Makes state state.slots path (first_id + length state.users) segments (begun_users state (paths_of segments) all) reply next)
]

-- by what the read of the path finds
abbrev pub LoadsFound : MakesRoom → FileMap → Machine → List ℕ → FileFound → Reply → Machine → Type 0
LoadsFound Makes held state path found reply next = elim found [
  | Unread ↦ (reply ≡ Refused CannotRead) × (next ≡ state)
  | Bad fault ↦ (reply ≡ Refused (BadFile fault)) × (next ≡ state)
  | Good segments ↦ Decides (rows_refusal (length state.users) (length (paths_of segments))) state reply next
      ((joined : Joined) × AreJoined held (paths_of segments) joined × LoadsJoined Makes state path segments joined reply next)
]

-- ---- activation, JSL

-- a purged segment is read again and placed under its old handle
abbrev pub ComesAnew : MakesRoom → Machine → ℕ → User → ℕ → Want → Handle → Activation → Type 0
ComesAnew Makes state id user number want h OutOfSlots = ⊥
ComesAnew Makes state id user number want h OutOfRoom = LacksRoom Makes state.banks state.slots want
ComesAnew Makes state id user number want h (Made address next) = (slots : Slots) × (puts : PutsAnew Makes state.banks state.slots h want slots)
    × (puts.address ≡ address) × (next ≡ with_both state id (with_block_changed active_block slots h) (Some (with_segment user number (fresh (Some h)))))

-- an absent one is read and placed under a new handle
abbrev pub ComesFirst : MakesRoom → Machine → ℕ → User → ℕ → Want → Activation → Type 0
ComesFirst Makes state id user number want OutOfSlots = new_handle state.slots ≡ None
ComesFirst Makes state id user number want OutOfRoom = IsSome (new_handle state.slots) × LacksRoom Makes state.banks state.slots want
ComesFirst Makes state id user number want (Made address next) = (h : Handle) × (slots : Slots)
    × (puts : Puts Makes state.banks state.slots want id true 0 false h slots)
    × (puts.address ≡ address) × (next ≡ with_both state id slots (Some (with_segment user number (fresh (Some h)))))

-- a segment of a user is made active
abbrev pub Activates : MakesRoom → Machine → ℕ → User → ℕ → Want → Presence → Activation → Type 0
Activates Makes state id user number want there outcome = elim there [
  | Active h address ↦ outcome ≡ Made address state
  | Idle h address ↦ outcome ≡ Made address (with_slots state (with_block_changed active_block state.slots h))
  | Purged h ↦ ComesAnew Makes state id user number want h outcome
  | Absent ↦ ComesFirst Makes state id user number want outcome
]

-- the reply of an outcome, where that of a segment at an address is this
abbrev pub Answers : Machine → ℕ → Activation → (ℕ → Reply) → Reply → Machine → Type 0
Answers state number outcome of reply next = elim outcome [
  | OutOfSlots ↦ (reply ≡ Refused NoHandle) × (next ≡ state)
  | OutOfRoom ↦ (reply ≡ Refused (NoRoom number)) × (next ≡ state)
  | Made address last ↦ (reply ≡ of address) × (next ≡ last)
]

-- the reply that says where an address lies
abbrev pub place_reply : AddressPlace → Reply
place_reply Nowhere = Nothing
place_reply (In id number offset) = Lies id number offset

-- in a table: the entry's segment, of the user that the entry names, is made active, and entered at the entry's offset
abbrev pub EntersEntry : MakesRoom → FileMap → Machine → ℕ → Option Target → Reply → Machine → Type 0
EntersEntry Makes held state id found reply next = elim found [
  | None ↦ (reply ≡ Refused NotEntry) × (next ≡ state)
  | Some t ↦ (other : ℕ) × (named_by (outlines state.users) id t.file ≡ Some other)
      × MakesActive Makes held state other t.segment (λ address. Entered other t.segment t.offset (address + t.offset)) reply next
]

-- the segment in which the address lies: outside a table it is entered there
abbrev pub EntersSegment : MakesRoom → FileMap → Machine → ℕ → ℕ → ℕ → ℕ → Segment → Reply → Machine → Type 0
EntersSegment Makes held state address id number offset s reply next = Either (headers.is_table (head_of s))
    (EntersEntry Makes held state id (target_at_code (targets_of s) 0 offset) reply next)
    ((reply ≡ Entered id number offset address) × (next ≡ state))

-- the place of the address is entered
abbrev pub Enters : MakesRoom → FileMap → Machine → ℕ → AddressPlace → Reply → Machine → Type 0
Enters Makes held state address found reply next = elim found [
  | Nowhere ↦ (reply ≡ Refused NoTarget) × (next ≡ state)
  | In id number offset ↦ (sees : Sees held state id) × (s : Segment)
      × (segment_at sees.segments number ≡ Some s) × EntersSegment Makes held state address id number offset s reply next
]

-- ---- unloading, shutdown, restart

-- the segment with a number becomes idle, if it has a handle
abbrev pub with_segment_idle : Slots → Option Handle → Slots
with_segment_idle slots None = slots
with_segment_idle slots (Some h) = with_block_changed idle_block slots h

-- the users that are attached to a user, and it itself
abbrev pub family : ℕ → List ℕ → List ℕ
family id attached = attached ++ id ∷ []

-- the handles of all segments of these users
abbrev pub handles_of_all : List (Option Outline) → List ℕ → List (Option Handle)
handles_of_all users ids = flat_map (handles_in users) ids

-- a user that doesn't run
abbrev pub dormant_user : User → User
dormant_user user = record user { life = Dormant }

-- kept: every active segment of the user and of those attached to it becomes idle, and they are dormant
abbrev pub kept_state : Machine → ℕ → User → Machine
kept_state state id user = record {
  banks = state.banks;
  slots = changed_all let_go state.slots (handles_of_all (outlines state.users) (family id user.attached));
  users = with_all dormant_user state.users (family id user.attached);
}

-- dropped: their handles are released, and they are gone
abbrev pub dropped_state : Machine → ℕ → User → Machine
dropped_state state id user = record {
  banks = state.banks;
  slots = without_users state.slots (family id user.attached);
  users = without_all state.users (family id user.attached);
}

-- a user that runs
abbrev pub runs_again : User → User
runs_again user = record user { life = Running }

-- in place: the static segments become active, and those with the reload attribute lose their pokes
abbrev pub RestartsInPlace : Machine → ℕ → User → List SegmentHead → Reply → Machine → Type 0
RestartsInPlace state id user heads reply next =
    let slots = changed_all active_block state.slots (static_handles heads (handles_of user) 1) in
    (reply ≡ Started id (entry_of id slots heads (handles_of user)))
    × (next ≡ record {
      banks = state.banks;
      slots = slots;
      users = with_all runs_again (with_user state.users id (Some (record user { life = Running; segments = read_again heads user.segments }))) user.attached;
    })

-- the users where that of an ID begins again as this one: it keeps those attached to it, and they run
abbrev pub again_users : Machine → ℕ → User → User → List (Option User)
again_users state id was user = with_all runs_again (with_user state.users id (Some (record user { attached = was.attached }))) was.attached

-- ---- replies

-- an address in six digits, or `none`
abbrev pub entry_text : Option ℕ → List ℕ
entry_text None = codes "none"
entry_text (Some address) = hexadecimal 6 address

-- a byte in two digits, after a space
abbrev pub other_text : ℕ → List ℕ
other_text byte = codes " " ++ hexadecimal 2 byte

-- two digits for each byte, with one space between them
abbrev pub shown_text : List ℕ → List ℕ
shown_text [] = []
shown_text (byte ∷ following) = hexadecimal 2 byte ++ flat_map other_text following

-- whether and where a segment is in memory
abbrev pub presence_text : Presence → List ℕ
presence_text Absent = codes "absent"
presence_text (Purged h) = codes "purged " ++ handle_text h
presence_text (Idle h address) = codes "idle " ++ handle_text h ++ at_text address
presence_text (Active h address) = codes "active " ++ handle_text h ++ at_text address

-- whether a block is locked
abbrev pub lock_text : Bool → List ℕ
lock_text locked = if locked then codes " locked" else codes " unlocked"

-- a block that is there at an address
abbrev pub there_text : ℕ → BlockState → List ℕ
there_text address state = codes "at " ++ hexadecimal 6 address ++ codes " size " ++ hexadecimal 8 state.size
    ++ codes " level " ++ hexadecimal 1 state.level ++ lock_text state.locked

-- a block, or that it was purged
abbrev pub block_text : Option ℕ → BlockState → List ℕ
block_text at state = elim at [ None ↦ codes "empty" | Some address ↦ there_text address state ]

-- the cause of a load file's fault, the segment's number in four digits, and the place in eight
abbrev pub bad_file_text : LoadFault → List ℕ
bad_file_text bad = codes "refused BadFile " ++ cause_text bad.cause ++ codes " " ++ hexadecimal 4 bad.segment ++ codes " " ++ hexadecimal 8 bad.at

-- ---- scripts

-- a digit 0 to 9 or A to F; a to f is none
abbrev pub is_hex_digit : ℕ → Bool
is_hex_digit byte = (nat_le ascii.digit_0 byte && nat_le byte ascii.digit_9) || (nat_le ascii.capital_a byte && nat_le byte ascii.capital_f)

-- a line of at most 1,023 bytes, which are words with one space between them
abbrev pub is_well_formed : List ℕ → Bool
is_well_formed line = nat_le (length line) 1023 && list_all is_word (words_of line)

-- the lines that aren't skipped
abbrev pub written : List (List ℕ) → List (List ℕ)
written lines = filter (λ line. not (is_skipped line)) lines

-- `load PATH`
abbrev pub load_of : List (List ℕ) → Result Command ScriptCause
load_of (path ∷ []) = Ok (Load path)
load_of words = Err WrongCount

-- the numbers of `jsl`: a user, a segment, and an offset
abbrev pub are_jsl_numbers : List ℕ → List ℕ → List ℕ → Bool
are_jsl_numbers user segment at = is_number 0 0xFFFF user && is_number 0 0xFFFF segment && is_number 0 0xFFFFFFFF at

-- `jsl U S OFF`
abbrev pub jsl_of : List (List ℕ) → Result Command ScriptCause
jsl_of (user ∷ segment ∷ at ∷ []) =
    if are_jsl_numbers user segment at then Ok (Jsl (number_of user) (number_of segment) (number_of at)) else Err BadNumber
jsl_of words = Err WrongCount

-- the numbers of `poke`: a user, a segment, an offset, and a byte
abbrev pub are_poke_numbers : List ℕ → List ℕ → List ℕ → List ℕ → Bool
are_poke_numbers user segment at byte =
    is_number 0 0xFFFF user && is_number 0 0xFFFF segment && is_number 0 0xFFFFFFFF at && is_number 0 0xFF byte

-- `poke U S OFF BYTE`
abbrev pub poke_of : List (List ℕ) → Result Command ScriptCause
poke_of (user ∷ segment ∷ at ∷ byte ∷ []) =
    if are_poke_numbers user segment at byte
    then Ok (Poke (number_of user) (number_of segment) (number_of at) (number_of byte))
    else Err BadNumber
poke_of words = Err WrongCount

-- the numbers of `bytes`: a user, a segment, an offset, and a length of 1 to $100
abbrev pub are_bytes_numbers : List ℕ → List ℕ → List ℕ → List ℕ → Bool
are_bytes_numbers user segment at size =
    is_number 0 0xFFFF user && is_number 0 0xFFFF segment && is_number 0 0xFFFFFFFF at && is_number 1 0x100 size

-- `bytes U S OFF LEN`
abbrev pub bytes_of : List (List ℕ) → Result Command ScriptCause
bytes_of (user ∷ segment ∷ at ∷ size ∷ []) =
    if are_bytes_numbers user segment at size
    then Ok (Bytes (number_of user) (number_of segment) (number_of at) (number_of size))
    else Err BadNumber
bytes_of words = Err WrongCount

-- the numbers of `alloc`: a size of 1 to $1000000, ATTR, and an address
abbrev pub are_alloc_numbers : List ℕ → List ℕ → List ℕ → Bool
are_alloc_numbers size attributes address =
    is_number 1 0x1000000 size && (is_number 0 0xFFFF attributes && is_attributes (number_of attributes)) && is_number 0 0xFFFFFF address

-- `alloc SIZE ATTR ADDR`
abbrev pub alloc_of : List (List ℕ) → Result Command ScriptCause
alloc_of (size ∷ attributes ∷ address ∷ []) =
    if are_alloc_numbers size attributes address
    then Ok (Alloc (number_of size) (number_of attributes) (number_of address))
    else Err BadNumber
alloc_of words = Err WrongCount

-- how a program is shut down: kept or dropped
abbrev pub is_manner : List ℕ → Bool
is_manner word = bytes_eq word (codes "keep") || bytes_eq word (codes "drop")

-- `shutdown U keep` and `shutdown U drop`
abbrev pub shut_down_of : List (List ℕ) → Result Command ScriptCause
shut_down_of (user ∷ manner ∷ []) =
    if is_number 0 0xFFFF user && is_manner manner
    then Ok (ShutDown (number_of user) (bytes_eq manner (codes "keep")))
    else Err BadNumber
shut_down_of words = Err WrongCount

-- `room`
abbrev pub room_of : List (List ℕ) → Result Command ScriptCause
room_of [] = Ok Room
room_of words = Err WrongCount

-- `compact`
abbrev pub compact_of : List (List ℕ) → Result Command ScriptCause
compact_of [] = Ok Compact
compact_of words = Err WrongCount

-- `banks B B ..`: 1 to 256 numbers of banks, none of them twice
abbrev pub banks_of : List (List ℕ) → Result Command ScriptCause
banks_of words =
    if not (nat_le 1 (length words) && nat_le (length words) 256) then Err WrongCount
    else if not (list_all (is_number 0 0xFF) words) then Err BadNumber
    else if stands_twice (map number_of words) then Err BankTwice
    else Ok (Banks (map number_of words))

-- `banks` is the first command of a script, and no later one
abbrev pub is_in_turn : CommandName → Bool → Bool
is_in_turn name is_first = if is_banks name then is_first else not is_first

-- the command that a name and the words after it give
abbrev pub named_command : Bool → Option CommandName → List (List ℕ) → Result Command ScriptCause
named_command is_first found words = elim found [
  | None ↦ Err UnknownCommand
  | Some name ↦ if is_in_turn name is_first then words_command name words else Err BanksFirst
]

-- the command that the words give by the first of them, or the first cause against them
abbrev pub command_of : Bool → List (List ℕ) → Result Command ScriptCause
command_of is_first [] = Err UnknownCommand
command_of is_first (word ∷ words) = named_command is_first (command_named word) words
