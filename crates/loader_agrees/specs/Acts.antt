-- What the calls of a loader do, whatever files there are.
use Rattle.std.specs.Prelude.{◌≡◌, ◌≢◌, ◌⊎◌, slice_get, ◌^◌, take, drop, None, ℕ, ◌+◌, ◌<◌, ◌≤◌, [], ◌∷◌, ◌++◌, map, false, IsSome, List, length, Option, Some}
use Rattle.omf_format.specs.File.{Segment, segment_at}
use Rattle.omf_io.specs.Counts.{IsFront}
use Rattle.load_meaning.specs.Pathnames.{paths_of}
use Rattle.iigs_meaning.specs.declared.handles.Handle.{Handle}
use Rattle.iigs_meaning.specs.Slots.{get}
use Rattle.loader_machine.specs.Rule.{RoomRule}
use Rattle.iigs_meaning.specs.Memory.{Memory, AreAllPlaced, bytes_at}
use Rattle.loader_machine.specs.declared.seen.SegmentHead.{SegmentHead}
use Rattle.loader_machine.specs.declared.seen.Life.TheVariants.{Running}
use Rattle.loader_machine.specs.Heads.{head_of, at_number, wants_of}
use Rattle.loader_machine.specs.State.{no_pokes, max_users, first_id, user_of, ids_from}
use Rattle.loader_machine.specs.declared.seen.Presence.TheVariants.{Active}
use Rattle.loader_machine.specs.declared.seen.Presence.{Presence}
use Rattle.loader_machine.specs.Presences.{handle_at, presence, presence_at}
use Rattle.loader_machine.specs.Refusals.{bytes_refusal, info_refusal}
use Rattle.loader_machine.specs.Stands.{setting, stands}
use Rattle.loader_machine.specs.Steps.{entry_of, held_of_heads}
use Rattle.loader_agrees.specs.Agrees.{LoadedUser, Loaded, seen_by}

-- ---- active segments

-- the block of an active segment of a user that runs
pub record IsActive (loader : Loaded) (id number : ℕ) (h : Handle) : Type 0 where
  pub kept : LoadedUser
  pub made : user_of loader.users id ≡ Some kept
  pub runs : kept.life ≡ Running
  pub head : SegmentHead
  pub head' : at_number kept.heads number ≡ Some head
  pub handle : handle_at kept.handles number ≡ Some h
  pub address : ℕ
  pub active : presence loader.memory.slots (Some h) ≡ Active h address

-- the block of an active segment in which `count` bytes from an offset on may be read
pub record CanRead (loader : Loaded) (id number at count : ℕ) (h : Handle) : Type 0 where
  pub passes : bytes_refusal loader.memory.slots (seen_by loader id) number at count ≡ None
  pub is : IsActive loader id number h
  pub inside : at + count ≤ is.head.length

-- these bytes are borrowed
pub record HasBorrowed (loader : Loaded) (id number at count : ℕ) (bytes : List ℕ) : Type 0 where
  pub h : Handle
  pub can : CanRead loader id number at count h
  pub is : bytes ≡ take count (drop at (bytes_at loader.memory h.slot))

-- what is reported for a segment
pub record HasReported (loader : Loaded) (id number : ℕ) (presence : Presence) (length' kind : ℕ) : Type 0 where
  pub passes : info_refusal (seen_by loader id) number ≡ None
  pub kept : LoadedUser
  pub made : user_of loader.users id ≡ Some kept
  pub head : SegmentHead
  pub head' : at_number kept.heads number ≡ Some head
  pub presence_is : presence ≡ presence_at loader.memory.slots kept.handles number
  pub length_is : length' ≡ head.length
  pub kind_is : kind ≡ head.kind

-- an address lies among the LENGTH bytes of an active segment of a user that runs, at an offset
pub record LiesIn (loader : Loaded) (address id number offset : ℕ) : Type 0 where
  pub h : Handle
  pub is : IsActive loader id number h
  pub sum : is.address + offset ≡ address
  pub inside : offset < is.head.length

-- ---- load

-- a user as it is kept where its static segments have these handles
abbrev pub started_kept : List ℕ → List SegmentHead → List Handle → LoadedUser
started_kept path heads handles = record {
  path = path;
  life = Running;
  handles = map (λ held. held.handle) (held_of_heads heads handles);
  heads = heads;
  attached = [];
}

-- The static segments of a file are in new blocks, each of which begins with its segment's content, and nothing else is written.
pub record HasPlaced (old : Memory) (path : List ℕ) (segments : List Segment) (id : ℕ) (entry : Option ℕ) (new : Memory) : Type 0 where
  pub short : length segments < 2 ^ 16
  pub handles : List Handle
  pub middle : Memory
  pub placed : AreAllPlaced RoomRule old id false (wants_of (map head_of segments)) handles middle
  pub banks : new.banks ≡ old.banks
  pub slots : new.slots ≡ middle.slots
  pub entry_is : entry ≡ entry_of id new.slots (map head_of segments) (started_kept path (map head_of segments) handles).handles
  pub stay : (k : Handle) → IsSome (get old.slots k) → bytes_at new k.slot ≡ bytes_at middle k.slot
  pub begins : (n : ℕ) (s : Segment) (h : Handle) → segment_at segments n ≡ Some s
      → handle_at (started_kept path (map head_of segments) handles).handles n ≡ Some h
      → IsFront (stands (setting id new.slots (started_kept path (map head_of segments) handles).handles) no_pokes s) (bytes_at new h.slot)
  pub sizes : (slot : ℕ) → length (bytes_at new slot) ≡ length (bytes_at middle slot)

-- a user is added at a place that has none, and all others stay
pub record IsAdded (old : List (Option LoadedUser)) (place : ℕ) (kept : LoadedUser) (new : List (Option LoadedUser)) : Type 0 where
  pub few : length new ≤ max_users
  pub here : slice_get new place ≡ Some (Some kept)
  pub which : (p : ℕ) (k : LoadedUser) → slice_get new p ≡ Some (Some k) → ((p ≢ place) × (slice_get old p ≡ Some (Some k))) ⊎ ((p ≡ place) × (k ≡ kept))
  pub stay : (p : ℕ) (k : LoadedUser) → slice_get old p ≡ Some (Some k) → slice_get new p ≡ Some (Some k)

-- no segment has a handle
abbrev pub no_handle_of : SegmentHead → Option Handle
no_handle_of head = None

-- an attached user as it is kept: none of its segments is there
abbrev pub joined_kept : List ℕ → List SegmentHead → LoadedUser
joined_kept path heads = record { path = path; life = Running; handles = map no_handle_of heads; heads = heads; attached = [] }

-- an attached user as it is kept, for each row
abbrev pub joined_kepts : List (List ℕ) → List (List Segment) → List (Option LoadedUser)
joined_kepts [] all = []
joined_kepts (path ∷ paths) [] = []
joined_kepts (path ∷ paths) (segments ∷ all) = Some (joined_kept path (map head_of segments)) ∷ joined_kepts paths all

-- The static segments of a file are in new blocks, each of which begins with its segment's content; nothing else is written; and there is
-- one user more, and after it one for each row of its pathname segment, attached to it, whose file has these segments.
pub record HasBegun (old : Loaded) (path : List ℕ) (segments : List Segment) (all : List (List Segment)) (id : ℕ) (entry : Option ℕ) (new : Loaded) : Type 0 where
  pub few : length old.users + 1 + length (paths_of segments) ≤ max_users
  pub long : length all ≡ length (paths_of segments)
  pub shorts : (j : ℕ) (other : List Segment) → slice_get all j ≡ Some other → length other < 2 ^ 16
  pub id_is : id ≡ first_id + length old.users
  pub placed : HasPlaced old.memory path segments id entry new.memory
  pub users : new.users ≡ old.users
      ++ Some (record (started_kept path (map head_of segments) placed.handles) { attached = ids_from (id + 1) (length (paths_of segments)) }) ∷ joined_kepts (paths_of segments) all
