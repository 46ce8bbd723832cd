-- Changes of what is kept of users, and the headers of their files.
use Rattle.std.specs.Prelude.{◌≡◌, ℕ, ◌-◌, List, map, Option, Some, IsSome, slice_set, [], slice_get}
use Rattle.std.specs.Option.{option_map_or}
use Rattle.iigs_meaning.specs.declared.handles.Handle.{Handle}
use Rattle.loader_machine.specs.declared.seen.SegmentHead.{SegmentHead}
use Rattle.loader_machine.specs.State.{user_of}
use Rattle.loader_agrees.specs.Agrees.{LoadedUser}
use Rattle.loader_machine.specs.declared.seen.Life.{Life}
use Rattle.load_meaning.specs.declared.load.LoadFault.{LoadFault}
use Rattle.load_meaning.specs.declared.load.LoadCause.TheVariants as cause
use Rattle.load_meaning.specs.Table.{entry_start}
use Rattle.loader_users.specs.declared.user.User.{User}

-- the user with this handle for the segment with a number
abbrev pub with_handle : LoadedUser → ℕ → Handle → LoadedUser
with_handle kept number h = record kept { handles = slice_set kept.handles (number - 1) (Some h) }

-- the user with this life
abbrev pub with_life : Life → LoadedUser → LoadedUser
with_life life kept = record kept { life = life }

-- the users that are attached to the user of an ID are there
abbrev pub HasItsUsers : List (Option LoadedUser) → ℕ → Type 0
HasItsUsers users id = (kept : LoadedUser) (place n : ℕ) → user_of users id ≡ Some kept → slice_get kept.attached place ≡ Some n → IsSome (user_of users n)

-- the headers of the files of users that are made, and of those with these IDs
abbrev pub new_heads : List User → List (List SegmentHead)
new_heads joined = map (λ user. map (λ s. s.head) user.segments.items) joined

abbrev pub heads_in : List (Option LoadedUser) → ℕ → List SegmentHead
heads_in users id = option_map_or (λ kept. kept.heads) (user_of users id) []

abbrev pub kept_heads : List (Option LoadedUser) → List ℕ → List (List SegmentHead)
kept_heads users ids = map (heads_in users) ids

-- the fault of the entry at a place of a table
abbrev pub lost_entry : ℕ → ℕ → LoadFault
lost_entry number place = record { cause = cause.NoSuchTarget; segment = number; at = entry_start place }
