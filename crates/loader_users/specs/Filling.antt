-- Segments that are written into their blocks. No public clause cites this module.
use Rattle.std.specs.Prelude.{◌≡◌, ℕ, ◌≤◌, true, List, length, Option, Some, None, IsSome, IsSomeAnd, slice_set}
use Rattle.std.specs.List.{AllByRecursion}
use Rattle.omf_format.specs.Header.{HeaderFields}
use Rattle.omf_format.specs.File.{Segment, segment_at}
use Rattle.omf_io.specs.Counts.{IsFront}
use Rattle.load_meaning.specs.declared.table.Target.{Target}
use Rattle.load_meaning.specs.declared.table.Entry.{Entry}
use Rattle.load_meaning.specs.Loadable.{IsSoundSegment}
use Rattle.load_meaning.specs.LoadTable.{is_table, targets_of}
use Rattle.load_content.specs.Places.{address_in}
use Rattle.iigs_meaning.specs.declared.handles.Handle.{Handle}
use Rattle.iigs_meaning.specs.Slots.{get}
use Rattle.iigs_meaning.specs.Memory.{Memory, bytes_at}
use Rattle.loader_machine.specs.declared.seen.SegmentHead.{SegmentHead}
use Rattle.loader_machine.specs.Heads.{head_of, at_number}
use Rattle.loader_machine.specs.State.{no_pokes}
use Rattle.loader_machine.specs.Presences.{handle_at}
use Rattle.loader_machine.specs.Stands.{AddressSetting, stands}

-- what is kept of a header with these fields
abbrev pub head_in : HeaderFields → SegmentHead
head_in f = record {
  length = f.length;
  kind = f.kind;
  bank_size = f.bank_size;
  align = f.align;
  org = f.org;
  entry = f.entry;
}

-- the entry of a target in a user's table that isn't loaded
abbrev pub own_entry : ℕ → Target → Entry
own_entry user t = record { user = user; file = t.file; segment = t.segment; offset = t.offset; loaded = None }

-- each segment is one of a load file
abbrev pub AreSound : List Segment → Type 0
AreSound segments = (number : ℕ) (s : Segment) → segment_at segments number ≡ Some s → IsSoundSegment segments number s

-- the segment with a number has this header
abbrev pub HasHead : List Segment → ℕ → SegmentHead → Type 0
HasHead segments number head = IsSomeAnd (segment_at segments number) (λ s. head ≡ head_of s)

-- the segments lie at these places, and none is active to which the table leads
pub record IsSetting (segments : List Segment) (user : ℕ) (places : List (Option ℕ)) (at : AddressSetting) : Type 0 where
  pub id : at.id ≡ user
  pub place : (n : ℕ) → address_in places n ≡ at.place n
  pub targets : (number : ℕ) (s : Segment) → segment_at segments number ≡ Some s → is_table s ≡ true → AllByRecursion (λ t. at.target t.file t.segment ≡ None) (targets_of s)

-- the bytes begin with the content of the segment with a number
abbrev pub IsFilled : List Segment → ℕ → ℕ → List (Option ℕ) → List ℕ → Type 0
IsFilled segments number user places bytes = (at : AddressSetting) (s : Segment) → IsSetting segments user places at → segment_at segments number ≡ Some s
    → IsFront (stands at no_pokes s) bytes

-- a handle's block begins so, and nothing else is written
pub record IsWritten (segments : List Segment) (number user : ℕ) (places : List (Option ℕ)) (old : Memory) (h : Handle) (new : Memory) : Type 0 where
  pub content : List ℕ
  pub filled : IsFilled segments number user places content
  pub same : length content ≡ length (bytes_at old h.slot)
  pub new_is : new ≡ record old { bytes = slice_set old.bytes h.slot content }

-- the block of a segment is there, and has room for LENGTH bytes
pub record IsReady (memory : Memory) (head : SegmentHead) (h : Handle) : Type 0 where
  pub there : IsSomeAnd (get memory.slots h) (λ block. IsSome block.at)
  pub fits : head.length ≤ length (bytes_at memory h.slot)

-- so it is of each segment that has a handle, and no two have one slot
pub record AreReady (memory : Memory) (heads : List SegmentHead) (handles : List (Option Handle)) : Type 0 where
  pub each : (n : ℕ) (head : SegmentHead) (h : Handle) → at_number heads n ≡ Some head → handle_at handles n ≡ Some h → IsReady memory head h
  pub once : (m n : ℕ) (h k : Handle) → handle_at handles m ≡ Some h → handle_at handles n ≡ Some k → h.slot ≡ k.slot → m ≡ n

-- the blocks of the first `count` segments begin so, and nothing else is written
pub record AreFilled (segments : List Segment) (handles : List (Option Handle)) (user : ℕ) (places : List (Option ℕ)) (old new : Memory) (count : ℕ) : Type 0 where
  pub banks : new.banks ≡ old.banks
  pub slots : new.slots ≡ old.slots
  pub filled : (n : ℕ) (h : Handle) → n ≤ count → handle_at handles n ≡ Some h → IsFilled segments n user places (bytes_at new h.slot)
  pub stay : (place : ℕ) → ((n : ℕ) (h : Handle) → n ≤ count → handle_at handles n ≡ Some h → h.slot ≡ place → ⊥) → bytes_at new place ≡ bytes_at old place
  pub sizes : (place : ℕ) → length (bytes_at new place) ≡ length (bytes_at old place)
