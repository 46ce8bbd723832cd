-- The names of USING, by the members that have them.
use Rattle.std.specs.Prelude.{ℕ, Bool, ◌&&◌, List, [], map, drop, nat_eq}
use Rattle.std.specs.List.{list_any, flat_map}
use Rattle.std.specs.Option.{option_map_or}
use Rattle.std.specs.Str.{bytes_eq}
use Rattle.std.specs.Borrow.{Bor}
use Rattle.indexmap.specs.IndexMap.{get}
use Rattle.indexmap.specs.IndexSet.{IndexSet}
use Rattle.link_meaning.specs.Uses.{Use}
use Rattle.link_meaning.specs.laws.Steps.{data_name}
use Rattle.link_tables.specs.declared.usings.Used.{Used}
use Rattle.link_tables.specs.declared.usings.Usings.{Usings}

-- names without where they lie
abbrev pub names_of : List (Bor (List ℕ)) → List (List ℕ)
names_of names = map (λ name. name.now) names

-- the names of USING among the uses from a number on, counted from 0
abbrev pub usings_from : List (ℕ × Use) → ℕ → List (List ℕ)
usings_from uses from = flat_map (λ u. data_name u.1) (drop from uses)

-- the names that are kept of the member at a place
abbrev pub usings_at : Usings → ℕ → List (List ℕ)
usings_at usings place = option_map_or (λ names. names_of names.items) (get nat_eq usings.names place) []

-- whether a name is one of these
abbrev pub is_among : List ℕ → List (List ℕ) → Bool
is_among name names = list_any (λ n. bytes_eq n name) names

-- whether a set has a name for the member at a place
abbrev pub holds_name : {S : Type 0} → IndexSet Used S → ℕ → List ℕ → Bool
holds_name each place name = list_any (λ u. nat_eq place u.place && bytes_eq name u.name.now) each.keys

-- whether a name is kept of the member at a place
abbrev pub has_using : Usings → ℕ → List ℕ → Bool
has_using usings place name = holds_name usings.each place name
