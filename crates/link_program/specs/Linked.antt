-- What is kept of the linked list.
pub use Rattle.link_tables.specs.Usings.{names_of, usings_from, usings_at, is_among, has_using}
use Rattle.std.specs.Prelude.{◌≡◌, ℕ, zero, suc, ◌++◌, List, [], Option, Some, None, map, slice_get, option_map, nat_eq, if◌then◌else◌}
use Rattle.std.specs.List.{flat_map}
use Rattle.std.specs.Borrow.{Bor}
use Rattle.indexmap.specs.IndexMap.{IndexMap, get}
use Rattle.omf_format.specs.File.{Segment}
use Rattle.link_meaning.specs.Member.{Member}
use Rattle.object_meaning.specs.Defines.{is_data, Definition}
use Rattle.link_meaning.specs.Uses.{usings_of}
use Rattle.link_meaning.specs.Search.{FoundDefinition, entries, data_titles, only_place, finds_data}
use Rattle.link_meaning.specs.LinkedList.{all_uses}
use Rattle.link_tables.specs.declared.names.Matches.{Matches}
use Rattle.link_tables.specs.declared.names.NameTable.{NameTable}
use Rattle.link_tables.specs.declared.definitions.Origin.{Origin}
use Rattle.link_program.specs.declared.linked.Linked.{Linked}
use Rattle.link_tables.specs.Names.{Row, Indexes}
use Rattle.link_tables.specs.Definitions.{Seen, AreDefinitions, IsOf, key_of_found, founds_in}
use Rattle.link_tables.specs.Uses.{use_view, HaveShortNames}

-- the origin of a member
abbrev pub origin_of : Member → Origin
origin_of m = record { file = m.file; segment = m.number; from = m.from }

-- titles, each with its member's place
abbrev pub place_rows : List FoundDefinition → List Row
place_rows fs = map (λ f. (key_of_found f, f.place)) fs

-- the member at a place, from 1
abbrev pub member_at : List Member → ℕ → Option Member
member_at list zero = None
member_at list (suc k) = slice_get list k

-- the origin of that member, if there is one
abbrev pub OriginOf : Option Member → Option Origin → Type 0
OriginOf None None = Unit {0}
OriginOf None (Some origin) = ⊥
OriginOf (Some m) None = ⊥
OriginOf (Some m) (Some origin) = IsOf m origin

-- the names of USING of a member, if there is one
abbrev pub usings_in : Option Member → List (List ℕ)
usings_in None = []
usings_in (Some m) = usings_of m.segment

-- the name of a data segment
abbrev pub title_of_data : Segment → Option (List ℕ)
title_of_data s = if is_data s then Some s.fields.name else None

-- that of a member, if there is one
abbrev pub title_in : Option Member → Option (List ℕ)
title_in None = None
title_in (Some m) = title_of_data m.segment

-- the name that is kept of the data segment at a place
abbrev pub name_at : {S : Type 0} → IndexMap ℕ (Bor (List ℕ)) S → ℕ → Option (List ℕ)
name_at names place = option_map (λ name. name.now) (get nat_eq names place)

-- this is the list
pub record Holds (list : List Member) (kept : Linked) : Type 0 where
  pub members : kept.members.items ≡ map origin_of list
  pub names : (place : ℕ) → name_at kept.names place ≡ title_in (member_at list place)
  pub usings : (place : ℕ) → usings_at kept.usings place ≡ usings_in (member_at list place)
  pub each : (place : ℕ) (name : List ℕ) → has_using kept.usings place name ≡ is_among name (usings_in (member_at list place))
  pub definitions : AreDefinitions (entries list) kept.definitions
  pub titles : Indexes (place_rows (data_titles list)) kept.titles
  pub uses : kept.uses ≡ map use_view (all_uses list)
  pub short : HaveShortNames kept.uses

-- what a table of titles gains
abbrev pub GainsTitle : NameTable → NameTable → Origin → ℕ → List Definition → Type 0
GainsTitle old new origin place ds = (fs : List FoundDefinition) (m : Member) → IsOf m origin → Indexes (place_rows fs) old → Indexes (place_rows (fs ++ founds_in place m ds)) new

-- what a look-up answers that reports places
abbrev pub SeesPlace : List FoundDefinition → Matches → Type 0
SeesPlace found answer = Seen (λ f number. number ≡ f.place) found answer

-- the data segments that these names of USING find
abbrev pub used_places : List Member → Member → List (List ℕ) → List ℕ
used_places list m names = flat_map (λ name. only_place (finds_data list m name)) names
