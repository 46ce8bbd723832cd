-- Where an address lies among a user's segments. No public clause cites this module.
use Rattle.std.specs.Prelude.{◌≡◌, ℕ, ◌+◌, ◌-◌, ◌<◌, ◌≤◌, List, length, Option, Some, None, slice_get}
use Rattle.iigs_meaning.specs.declared.handles.Handle.{Handle}
use Rattle.iigs_meaning.specs.Fits.{Slots}
use Rattle.loader_machine.specs.declared.seen.Life.TheVariants.{Running}
use Rattle.loader_machine.specs.declared.seen.Presence.TheVariants.{Active}
use Rattle.loader_machine.specs.Heads.{at_number}
use Rattle.loader_machine.specs.State.{first_id}
use Rattle.loader_machine.specs.Presences.{presence}
use Rattle.loader_users.specs.declared.user.UserSegment.{UserSegment}
use Rattle.loader_users.specs.declared.user.User.{User}

-- the segment is active under a handle, and the address lies among its LENGTH bytes, at an offset
pub record LiesAt (slots : Slots) (s : UserSegment) (h : Handle) (address offset : ℕ) : Type 0 where
  pub first : ℕ
  pub active : presence slots s.handle ≡ Active h first
  pub sum : first + offset ≡ address
  pub inside : offset < s.head.length

-- the address lies in none of the first `count` segments under a handle
abbrev pub LiesInNone : Slots → List UserSegment → ℕ → Handle → ℕ → Type 0
LiesInNone slots segments count h address = (k : ℕ) (s : UserSegment) (offset : ℕ) → k < count → slice_get segments k ≡ Some s → ¬ LiesAt slots s h address offset

-- it lies in the segment with a number, at an offset
abbrev pub LiesInOne : Slots → List UserSegment → Handle → ℕ → ℕ → ℕ → Type 0
LiesInOne slots segments h address number offset = (s : UserSegment) × (at_number segments number ≡ Some s) × LiesAt slots s h address offset

-- a user runs, and the address lies in none of its segments under a handle
abbrev pub IsNowhereOf : Slots → Option User → Handle → ℕ → Type 0
IsNowhereOf slots None h address = Unit {0}
IsNowhereOf slots (Some user) h address = user.life ≡ Running → LiesInNone slots user.segments.items (length user.segments.items) h address

-- a user runs, and the address lies in its segment with a number, at an offset
abbrev pub IsSomewhereOf : Slots → Option User → Handle → ℕ → ℕ → ℕ → Type 0
IsSomewhereOf slots None h address number offset = ⊥
IsSomewhereOf slots (Some user) h address number offset = (user.life ≡ Running) × LiesInOne slots user.segments.items h address number offset

-- the address lies in no segment of the user of an ID under a handle
abbrev pub IsNowhereFor : Slots → List (Option User) → Handle → ℕ → ℕ → Type 0
IsNowhereFor slots users h address id = (user : Option User) → first_id ≤ id → slice_get users (id - first_id) ≡ Some user → IsNowhereOf slots user h address

-- the address lies in a segment of the user at a place, at an offset
pub record IsSomewhere (slots : Slots) (users : List (Option User)) (h : Handle) (address id number offset : ℕ) : Type 0 where
  pub place : ℕ
  pub user : Option User
  pub is : slice_get users place ≡ Some user
  pub id_is : id ≡ first_id + place
  pub lies : IsSomewhereOf slots user h address number offset
