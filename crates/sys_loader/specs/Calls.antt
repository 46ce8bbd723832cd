-- What a load does, whether the store reveals its files or not.
use Rattle.std.specs.Prelude.{◌≡◌, ◌≢◌, ◌⊎◌, ℕ, ◌+◌, ◌^◌, ◌<◌, ◌≤◌, List, [], ◌∷◌, length, map, Option, Some, None, Result, Ok, Err, slice_get}
use Rattle.omf_format.specs.File.{Segment, segment_at}
use Rattle.omf_io.specs.Counts.{IsFront, saturating_sum}
use Rattle.omf_io.specs.Files.{FileMap, StoreSeen, IsRead, IsUnread}
use Rattle.load_meaning.specs.declared.load.LoadFault.{LoadFault}
use Rattle.load_meaning.specs.Pathnames.{most_paths, paths_of}
use Rattle.load_meaning.specs.Loadable.{IsLoadable, IsFirstLoadFault}
use Rattle.load_meaning.specs.Runtime.{IsRuntime, IsFirstRuntimeFault}
use Rattle.iigs_meaning.specs.declared.handles.Handle.{Handle}
use Rattle.iigs_meaning.specs.declared.faults.PlaceFault.TheVariants as place
use Rattle.iigs_meaning.specs.Puts.{IsPlaceAllRefusal}
use Rattle.loader_machine.specs.Rule.{RoomRule}
use Rattle.iigs_meaning.specs.Memory.{Memory, bytes_at}
use Rattle.loader_machine.specs.declared.seen.SegmentHead.{SegmentHead}
use Rattle.loader_machine.specs.declared.faults.LoaderFault.{LoaderFault}
use Rattle.loader_machine.specs.declared.faults.LoaderFault.TheVariants as fault
use Rattle.loader_machine.specs.Heads.{head_of, wants_of, number_of}
use Rattle.loader_machine.specs.State.{no_pokes, first_id, max_users}
use Rattle.loader_machine.specs.Presences.{handle_at}
use Rattle.loader_machine.specs.Stands.{setting, stands}
use Rattle.loader_machine.specs.Found.{Joined, Stops, Joins, joined_after}
use Rattle.loader_machine.specs.Steps.{lost_refusal}
use Rattle.loader_agrees.specs.Agrees.{LoadedUser, Loaded}
use Rattle.loader_agrees.specs.Acts.{HasBegun, joined_kept, joined_kepts}
use Rattle.sys_loader.specs.declared.answers.Started.{Started}
use Rattle.loader_users.specs.Planned.{spread_handles}

-- ---- a program of a load file

-- why a program doesn't begin: too few slots are free; or, once the segments before it are placed, one has no room
abbrev pub IsBeginRefusal : Memory → ℕ → List SegmentHead → LoaderFault → Type 0
IsBeginRefusal memory id heads why =
    ((why ≡ fault.NoHandle) × IsPlaceAllRefusal RoomRule memory.banks id memory.slots (wants_of heads) place.NoHandle)
    ⊎ ((i : ℕ) × (why ≡ fault.NoRoom (number_of 1 heads i)) × IsPlaceAllRefusal RoomRule memory.banks id memory.slots (wants_of heads) (place.NoRoom i))

-- ---- the files of rows

-- The outcome of reading the files of these rows, one by one: the call stops at a read that is refused, or at a file that is no run-time
-- library file; or all are. The count of the store's faults rises only with a read that is refused.
abbrev pub AreRowsRead : Option FileMap → List (List ℕ) → ℕ → ℕ → Joined → Type 0
AreRowsRead held [] before now joined = (joined ≡ Joins []) × (now ≡ before)
AreRowsRead held (path ∷ paths) before now joined =
    (IsUnread held path before now × (joined ≡ Stops 1 fault.CannotRead))
    ⊎ ((file : List ℕ) × IsRead held path file
    × (((bad : LoadFault) × IsFirstRuntimeFault file bad × (joined ≡ Stops 1 (fault.BadFile bad)) × (now ≡ before))
    ⊎ ((segments : List Segment) × IsRuntime file segments × (rest : Joined) × AreRowsRead held paths before now rest × (joined ≡ joined_after segments rest))))

-- ---- a load

-- a file that was read, for which users can be made
pub record IsFileRead (held : Option FileMap) (old : Loaded) (path : List ℕ) (segments : List Segment) : Type 0 where
  pub few : length old.users < max_users
  pub file : List ℕ
  pub is_read : IsRead held path file
  pub loadable : IsLoadable file segments

-- the program of a file has begun, with a user more for each row
pub record HasStarted (held : Option FileMap) (old : Loaded) (path : List ℕ) (segments : List Segment) (started : Started) (new : Loaded) (before now rows : ℕ) : Type 0 where
  pub all : List (List Segment)
  pub read : AreRowsRead held (paths_of segments) before now (Joins all)
  pub none : lost_refusal (map (map head_of) all) segments ≡ None
  pub begun : HasBegun old path segments all started.user started.entry new
  pub rows' : rows ≡ length all

-- Why a program of a load file of these segments doesn't begin: there are too many rows; the reads of their files stop; an entry of the
-- table leads nowhere; or there are too few slots, or no room. Or the call is out of memory. The files of `rows` rows were read.
pub data IsRowsRefusal (held : Option FileMap) (old : Loaded) (segments : List Segment) (before now rows : ℕ) (why : LoaderFault) : Type 0 where
  IsCrowded : max_users < length old.users + 1 + length (paths_of segments) → why ≡ fault.TooManyUsers → now ≡ before → rows ≡ 0
      → IsRowsRefusal held old segments before now rows why
  RowStops : length old.users + 1 + length (paths_of segments) ≤ max_users → AreRowsRead held (paths_of segments) before now (Stops rows why)
      → IsRowsRefusal held old segments before now rows why
  IsLost : length old.users + 1 + length (paths_of segments) ≤ max_users → (all : List (List Segment)) → AreRowsRead held (paths_of segments) before now (Joins all)
      → lost_refusal (map (map head_of) all) segments ≡ Some why → rows ≡ length all → IsRowsRefusal held old segments before now rows why
  CantBegin : length old.users + 1 + length (paths_of segments) ≤ max_users → (all : List (List Segment)) → AreRowsRead held (paths_of segments) before now (Joins all)
      → lost_refusal (map (map head_of) all) segments ≡ None → IsBeginRefusal old.memory (first_id + length old.users) (map head_of segments) why
      → rows ≡ length all → IsRowsRefusal held old segments before now rows why
  RowsLackMemory : why ≡ fault.Memory → now ≡ before → rows ≤ most_paths → IsRowsRefusal held old segments before now rows why

-- Why a load refuses: 255 users were made; the read of the file is refused; it is no load file; or its program doesn't begin. Or the call
-- is out of memory. `reads` files were read.
pub data IsLoadRefusal (held : Option FileMap) (old : Loaded) (path : List ℕ) (before now reads : ℕ) (why : LoaderFault) : Type 0 where
  IsFull : max_users ≤ length old.users → why ≡ fault.TooManyUsers → now ≡ before → reads ≡ 0 → IsLoadRefusal held old path before now reads why
  CantRead : length old.users < max_users → IsUnread held path before now → why ≡ fault.CannotRead → reads ≡ 1 → IsLoadRefusal held old path before now reads why
  LacksMemory : length old.users < max_users → why ≡ fault.Memory → now ≡ before → reads ≡ 1 → IsLoadRefusal held old path before now reads why
  IsBad : length old.users < max_users → (file : List ℕ) → IsRead held path file → (bad : LoadFault) → IsFirstLoadFault file bad → why ≡ fault.BadFile bad → now ≡ before → reads ≡ 1
      → IsLoadRefusal held old path before now reads why
  CantStart : (segments : List Segment) → IsFileRead held old path segments → (rows : ℕ) → IsRowsRefusal held old segments before now rows why → reads ≡ 1 + rows
      → IsLoadRefusal held old path before now reads why

-- what a load did, and how many files it read
abbrev pub HasLoaded : Option FileMap → Loaded → List ℕ → Result Started LoaderFault → Loaded → ℕ → ℕ → ℕ → Type 0
HasLoaded held old path (Ok started) new before now reads = (segments : List Segment) × IsFileRead held old path segments × (rows : ℕ)
    × HasStarted held old path segments started new before now rows × (reads ≡ 1 + rows)
HasLoaded held old path (Err why) new before now reads = IsLoadRefusal held old path before now reads why × (new ≡ old)

-- ---- on the way; no public clause cites the rest

-- the static segments are written into their blocks, and nothing else is
pub record IsSettled (segments : List Segment) (user : ℕ) (hs : List Handle) (old new : Memory) : Type 0 where
  pub banks : new.banks ≡ old.banks
  pub slots : new.slots ≡ old.slots
  pub begins : (n : ℕ) (s : Segment) (h : Handle) → segment_at segments n ≡ Some s → handle_at (spread_handles segments hs) n ≡ Some h
      → IsFront (stands (setting user old.slots (spread_handles segments hs)) no_pokes s) (bytes_at new h.slot)
  pub stay : (place : ℕ) → ((i : ℕ) (h : Handle) → slice_get hs i ≡ Some h → h.slot ≢ place) → bytes_at new place ≡ bytes_at old place
  pub sizes : (place : ℕ) → length (bytes_at new place) ≡ length (bytes_at old place)

-- ---- rows, on the way

-- the user of a row, whose file was read
abbrev pub HasJoined : Option FileMap → List ℕ → LoadedUser → Type 0
HasJoined held path user = (file : List ℕ) × (segments : List Segment) × IsRead held path file × IsRuntime file segments × (length segments < 2 ^ 16)
    × (user ≡ joined_kept path (map head_of segments))

-- why there is none
abbrev pub JoinStops : Option FileMap → List ℕ → ℕ → ℕ → LoaderFault → Type 0
JoinStops held path before now why = ((why ≡ fault.CannotRead) × IsUnread held path before now)
    ⊎ (((file : List ℕ) × (bad : LoadFault) × IsRead held path file × IsFirstRuntimeFault file bad × (why ≡ fault.BadFile bad) × (now ≡ before))
    ⊎ ((why ≡ fault.Memory) × (now ≡ before)))

-- the users of rows
pub record AreJoinedUsers (paths : List (List ℕ)) (all : List (List Segment)) (users : List LoadedUser) : Type 0 where
  pub long : length all ≡ length paths
  pub shorts : (j : ℕ) (other : List Segment) → slice_get all j ≡ Some other → length other < 2 ^ 16
  pub runtimes : (j : ℕ) (other : List Segment) → slice_get all j ≡ Some other → (file : List ℕ) × IsRuntime file other
  pub users' : map (λ k. Some k) users ≡ joined_kepts paths all

-- the reads of the files of rows stop, or the call is out of memory
abbrev pub RowsStop : Option FileMap → List (List ℕ) → StoreSeen → StoreSeen → LoaderFault → Type 0
RowsStop held paths before now why =
    ((rows : ℕ) × AreRowsRead held paths before.faults now.faults (Stops rows why) × (now.asked ≡ saturating_sum rows before.asked))
    ⊎ ((why ≡ fault.Memory) × (now.faults ≡ before.faults) × (rows : ℕ) × (rows ≤ length paths) × (now.asked ≡ saturating_sum rows before.asked))

-- a load of a load file, once it was read
abbrev pub HasLoadedRows : Option FileMap → Loaded → List ℕ → List Segment → Result Started LoaderFault → Loaded → ℕ → ℕ → ℕ → Type 0
HasLoadedRows held old path segments (Ok started) new before now rows = HasStarted held old path segments started new before now rows
HasLoadedRows held old path segments (Err why) new before now rows = IsRowsRefusal held old segments before now rows why × (new ≡ old)

-- a load of a file that was read
abbrev pub HasLoadedFile : Option FileMap → Loaded → List ℕ → List ℕ → Result Started LoaderFault → Loaded → ℕ → ℕ → ℕ → Type 0
HasLoadedFile held old path file (Ok started) new before now rows =
    (segments : List Segment) × IsLoadable file segments × HasStarted held old path segments started new before now rows
HasLoadedFile held old path file (Err why) new before now rows = ((new ≡ old) × (((why ≡ fault.Memory) × (now ≡ before) × (rows ≡ 0))
    ⊎ (((bad : LoadFault) × IsFirstLoadFault file bad × (why ≡ fault.BadFile bad) × (now ≡ before) × (rows ≡ 0))
    ⊎ ((segments : List Segment) × IsLoadable file segments × IsRowsRefusal held old segments before now rows why))))
