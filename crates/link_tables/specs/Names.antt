-- Tables of names: what each step of a search finds.
use Rattle.std.specs.Prelude.{◌≡◌, ◌==◌, ℕ, Bool, ◌&&◌, List, [], ◌∷◌, Option, Some, None, filter, if◌then◌else◌}
use Rattle.std.specs.Str.{bytes_eq}
use Rattle.indexmap.specs.IndexMap.{get_by}
use Rattle.link_meaning.specs.declared.search.SearchStep.{SearchStep}
use Rattle.link_meaning.specs.declared.search.SearchStep.TheVariants.{Within, OfUnit, Everyone}
use Rattle.link_meaning.specs.Search.{is_step}
use Rattle.link_tables.specs.declared.names.Key.{Key}
use Rattle.link_tables.specs.declared.names.Matches.{Matches}
use Rattle.link_tables.specs.declared.names.Matches.TheVariants.{Nothing, One, Several}
use Rattle.link_tables.specs.declared.names.NameTable.{NameTable}

-- a step and a name, without where it lies
pub record Named : Type 0 where
  pub step : SearchStep
  pub name : List ℕ

abbrev pub key_of : Key → Named
key_of key = record { step = key.step; name = key.name.now }

-- a name that a step sees, and the number of what it names
abbrev pub Row : Type 0
Row = Named × ℕ

abbrev pub is_key : Named → Named → Bool
is_key a b = is_step a.step b.step && bytes_eq a.name b.name

abbrev pub is_row : Named → Row → Bool
is_row key row = is_key key row.0

-- what was found, and one more
abbrev pub with_one_more : Matches → ℕ → Matches
with_one_more Nothing number = One number
with_one_more (One first) number = Several first
with_one_more (Several first) number = Several first

-- the first of these, and whether it is the only one
abbrev pub seen_of : List Row → Matches
seen_of [] = Nothing
seen_of (row ∷ []) = One row.1
seen_of (row ∷ other ∷ more) = Several row.1

-- what a key finds
abbrev pub outcome : List Row → Named → Matches
outcome rows key = seen_of (filter (is_row key) rows)

abbrev pub found_or : Option Matches → Matches
found_or None = Nothing
found_or (Some found) = found

-- what a table keeps under a name that a step sees
abbrev pub kept_under : SearchStep → List ℕ → NameTable → Option Matches
kept_under (Within place) name names = get_by (λ k. place == k.place && bytes_eq name k.name.now) names.own
kept_under (OfUnit file from) name names = get_by (λ k. file == k.file && (from == k.from && bytes_eq name k.name.now)) names.units
kept_under Everyone name names = get_by (λ k. bytes_eq name k.name.now) names.public

-- a table keeps this under a key, and all else as before
abbrev pub Keeps : NameTable → NameTable → Named → Matches → Type 0
Keeps old new k found = (key : Named) → kept_under key.step key.name new ≡ (if is_key k key then Some found else kept_under key.step key.name old)

-- each key finds in the table what it finds in the rows
abbrev pub Indexes : List Row → NameTable → Type 0
Indexes rows names = (key : Named) → found_or (kept_under key.step key.name names) ≡ outcome rows key
