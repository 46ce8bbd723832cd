-- What is kept of the uses of the linked list.
use Rattle.std.specs.Prelude.{◌≡◌, ◌≤◌, ℕ, List, length, map}
use Rattle.std.specs.List.{AllByRecursion, zip}
use Rattle.omf_format.specs.Expression.{Term, Named}
use Rattle.omf_format.specs.Field.{Layout}
use Rattle.omf_format.specs.Record.{Record, IsRecord}
use Rattle.link_meaning.specs.declared.search.SearchKind.{SearchKind}
use Rattle.link_meaning.specs.Uses.{Use}
use Rattle.link_meaning.specs.LinkedList.{PlacedUse}
use Rattle.link_tables.specs.declared.uses.Use as kept
use Rattle.link_tables.specs.declared.uses.UseSite.{UseSite}

-- a use, and the place of its member: what it wants beside the rest
abbrev pub use_of_site : SearchKind × UseSite → ℕ × Use
use_of_site p = (p.1.place, record { want = p.0; name = p.1.name.now; at = p.1.at })

-- uses whose wants are kept apart
abbrev pub uses_of_sites : List SearchKind → List UseSite → List (ℕ × Use)
uses_of_sites wants sites = map use_of_site (zip wants sites)

-- a use, and the place of its member
abbrev pub use_of : kept.Use → ℕ × Use
use_of u = (u.place, record { want = u.want; name = u.name.now; at = u.at })

abbrev pub use_view : PlacedUse → ℕ × Use
use_view a = (a.place, a.use')

-- the uses of the member at this place
abbrev pub at_place : ℕ → List Use → List (ℕ × Use)
at_place place uses = map (λ u. (place, u)) uses

-- each name is one whose length fits a length byte
abbrev pub HaveShortNames : List (ℕ × Use) → Type 0
HaveShortNames uses = AllByRecursion (λ u. length u.1.name ≤ 255) uses

-- and so is the name of a term
abbrev pub IsShortTerm : Term → Type 0
IsShortTerm (Named code name) = length name ≤ 255
IsShortTerm _ = Unit {0}

-- the record is one of the format, where names have this LABLEN
abbrev pub HasSpelling : ℕ → Record → Type 0
HasSpelling lab_len rec = (l : Layout) × (l.lab_len ≡ lab_len) × IsRecord l rec
