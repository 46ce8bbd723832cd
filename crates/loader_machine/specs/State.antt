-- What a state of the loader's machine holds, and what is seen of a user. User IDs and limits are this project's own.
use Rattle.std.specs.Prelude.{ℕ, zero, suc, ◌+◌, ◌-◌, ◌==◌, Bool, true, false, List, [], ◌∷◌, map, nat_lt, Option, Some, None, is_some, slice_get, slice_set, if◌then◌else◌}
use Rattle.std.specs.Option.{option_map, option_or, option_and_then, option_map_or}
use Rattle.std.specs.FinMap.{FinMap, empty}
use Rattle.std.specs.Ordering.{nat_cmp}
use Rattle.iigs_meaning.specs.declared.handles.Handle.{Handle}
use Rattle.iigs_meaning.specs.Fits.{Slots}
use Rattle.iigs_meaning.specs.Blocks.{new_slots}
use Rattle.loader_machine.specs.Heads.{SegmentHead, at_number}
pub use Rattle.loader_machine.specs.declared.seen.Life.{Life}
pub use Rattle.loader_machine.specs.declared.seen.Life.TheVariants.{Running, Dormant}

abbrev pub is_running : Life → Bool
is_running Running = true
is_running Dormant = false

-- bytes that were written into a segment since it was read, by their places in it
abbrev pub Pokes : Type 0
Pokes = FinMap nat_cmp ℕ

abbrev pub no_pokes : Pokes
no_pokes = empty

-- what is held of a segment: its handle, if it has one, and its pokes. No other byte of memory is held: the content of a block follows from
-- the user's file.
pub record HeldSegment : Type 0 where
  pub handle : Option Handle
  pub pokes : Pokes

-- a segment without a handle
abbrev pub absent : HeldSegment
absent = record { handle = None; pokes = no_pokes }

-- a segment under this handle, as it was read
abbrev pub fresh : Option Handle → HeldSegment
fresh handle = record { handle = handle; pokes = no_pokes }

-- a program, or a run-time library file that is attached to one: the path of its file, whether it runs, for each segment of the
-- file what is held of it, and the IDs of the users that are attached to it, in the order of the rows of its pathname segment
pub record User : Type 0 where
  pub path : List ℕ
  pub life : Life
  pub segments : List HeldSegment
  pub attached : List ℕ

-- the configured banks, the slots with their blocks, and the users in the order in which they were made; None is gone
pub record Machine : Type 0 where
  pub banks : List ℕ
  pub slots : Slots
  pub users : List (Option User)

-- these banks, every slot free, and no user
abbrev pub empty_of : List ℕ → Machine
empty_of banks = record { banks = banks; slots = new_slots; users = [] }

-- users have the IDs from $1001 on, in the order in which they are made
abbrev pub first_id : ℕ
first_id = 0x1001

-- how many users can be made
abbrev pub max_users : ℕ
max_users = 255

-- the user with an ID, if it was made and isn't gone
abbrev pub user_of : {U : Type 0} → List (Option U) → ℕ → Option U
user_of users id = if nat_lt id first_id then None else option_and_then (λ user. user) (slice_get users (id - first_id))

-- the users with this one in the place of an ID's
abbrev pub with_user : {U : Type 0} → List (Option U) → ℕ → Option U → List (Option U)
with_user users id user = slice_set users (id - first_id) user

-- the handles of a user's segments
abbrev pub handles_of : User → List (Option Handle)
handles_of user = map (λ held. held.handle) user.segments

-- what of a user the machine and a loader both hold: all but headers and pokes
pub record Outline : Type 0 where
  pub path : List ℕ
  pub life : Life
  pub handles : List (Option Handle)
  pub attached : List ℕ

abbrev pub outline_of : User → Outline
outline_of user = record { path = user.path; life = user.life; handles = handles_of user; attached = user.attached }

abbrev pub outlines : List (Option User) → List (Option Outline)
outlines users = map (option_map outline_of) users

-- ---- attached users

-- the attached user of the user of an ID that has this file number, from 2 on in the order of the rows
abbrev pub attached_at : List (Option Outline) → ℕ → ℕ → Option ℕ
attached_at users id file = option_and_then (λ user. slice_get user.attached (file - 2)) (user_of users id)

-- the user whose segment an entry of a user's table names by its file number: with file 1 the user itself
abbrev pub named_by : List (Option Outline) → ℕ → ℕ → Option ℕ
named_by users id file = if file == 1 then Some id else attached_at users id file

-- the file number under which an ID is in a list of attached users, of which the first has this number
abbrev pub file_in : ℕ → List ℕ → ℕ → Option ℕ
file_in file [] id = None
file_in file (one ∷ attached) id = if one == id then Some file else file_in (file + 1) attached id

-- the user to which the user of an ID is attached, and the file number under which it is; the first of these users has this ID
abbrev pub holder_from : ℕ → List (Option Outline) → ℕ → Option (ℕ × ℕ)
holder_from owner [] id = None
holder_from owner (None ∷ users) id = holder_from (owner + 1) users id
holder_from owner (Some user ∷ users) id = option_or (option_map (λ file. (owner, file)) (file_in 2 user.attached id)) (holder_from (owner + 1) users id)

unfoldable pub holder_of : List (Option Outline) → ℕ → Option (ℕ × ℕ)
holder_of users id = holder_from first_id users id

-- the user of an ID is attached to another
abbrev pub is_attached : List (Option Outline) → ℕ → Bool
is_attached users id = is_some (holder_of users id)

-- the user whose tables lead to the segments of the user of an ID, and the file number by which they do: its own, with file 1, or those
-- of the user to which it is attached
abbrev pub led_by : List (Option Outline) → ℕ → ℕ × ℕ
led_by users id = option_map_or (λ one. one) (holder_of users id) (id, 1)

-- the handles of all segments of the user of an ID, and of the users of all these
abbrev pub handles_in : List (Option Outline) → ℕ → List (Option Handle)
handles_in users id = option_map_or (λ user. user.handles) (user_of users id) []

-- the users, with those of these IDs changed so
abbrev pub with_all : {U : Type 0} → (U → U) → List (Option U) → List ℕ → List (Option U)
with_all change users [] = users
with_all change users (id ∷ ids) = with_all change (option_map_or (λ user. with_user users id (Some (change user))) (user_of users id) users) ids

-- the users, where those of these IDs are gone
abbrev pub without_all : {U : Type 0} → List (Option U) → List ℕ → List (Option U)
without_all users [] = users
without_all users (id ∷ ids) = without_all (with_user users id None) ids

-- a given number of IDs, from one on
abbrev pub ids_from : ℕ → ℕ → List ℕ
ids_from id zero = []
ids_from id (suc more) = id ∷ ids_from (id + 1) more

-- what is held of the segment with a number
abbrev pub held_at : User → ℕ → HeldSegment
held_at user number = option_map_or (λ held. held) (at_number user.segments number) absent

-- what a loader and the machine both know of a user
pub record UserSeen : Type 0 where
  pub life : Life
  pub handles : List (Option Handle)
  pub heads : List SegmentHead
