-- The first use that wants a member.
use Rattle.std.specs.Prelude.{◌≡◌, ◌<◌, ℕ, List, length, take, slice_get, Option, Some, None}
use Rattle.link_meaning.specs.First.{first_some}
use Rattle.link_meaning.specs.Member.{Member, Offer}
use Rattle.link_meaning.specs.LinkedList.{PlacedUse, all_uses, wanted_by, wanted}

-- what a use wants
abbrev pub wanted_at : List Offer → List Member → PlacedUse → Option Member
wanted_at os list a = wanted_by os list a.place a.member a.use'

-- the first k uses want nothing
abbrev pub WantsNothing : List Offer → List Member → ℕ → Type 0
WantsNothing os list k = first_some (wanted_at os list) (take k (all_uses list)) ≡ None

-- no use wants anything; or the use with the one number is the first that does, and it wants the member of the row with the other
abbrev pub IsWanted : List Offer → List Member → Option (ℕ × ℕ) → Type 0
IsWanted os list None = wanted os list ≡ None
IsWanted os list (Some found) =
    (o : Offer) × (slice_get os found.1 ≡ Some o) × (wanted os list ≡ Some o.member) × WantsNothing os list found.0 × (found.0 < length (all_uses list))
