-- What a table of definitions holds of those of the linked list.
pub use Rattle.link_tables.specs.Listed.{DefinitionRow, definition_of}
use Rattle.std.specs.Prelude.{◌≡◌, ℕ, ◌+◌, Bool, List, [], ◌∷◌, Some, map, filter, slice_get}
use Rattle.std.specs.List.{flat_map}
use Rattle.link_meaning.specs.declared.search.SearchStep.{SearchStep}
use Rattle.link_meaning.specs.declared.search.SearchStep.TheVariants.{Within, OfUnit, Everyone}
use Rattle.link_meaning.specs.Member.{Member}
use Rattle.object_meaning.specs.Defines.{Definition}
use Rattle.link_meaning.specs.Search.{FoundDefinition, step_of, is_step, with_this_name}
use Rattle.link_tables.specs.declared.names.Matches.{Matches}
use Rattle.link_tables.specs.declared.names.Matches.TheVariants.{Nothing, One, Several}
use Rattle.link_tables.specs.declared.definitions.Definitions.{Definitions}
use Rattle.link_tables.specs.declared.definitions.Origin.{Origin}
use Rattle.link_tables.specs.Names.{Named, Row, Indexes, is_key}

abbrev pub definition_view : FoundDefinition → DefinitionRow
definition_view f = record { member = f.place; at = f.definition.place; expr = f.definition.expr; length = f.definition.size; form = f.definition.form }

-- the step that sees a definition, and its name
abbrev pub key_of_found : FoundDefinition → Named
key_of_found f = record { step = step_of f; name = f.definition.name }

abbrev pub is_found : Named → FoundDefinition → Bool
is_found key f = is_key key (key_of_found f)

-- definitions with their numbers, where the first has this one
abbrev pub numbered_rows : ℕ → List FoundDefinition → List Row
numbered_rows n [] = []
numbered_rows n (f ∷ fs) = (key_of_found f, n) ∷ numbered_rows (n + 1) fs

-- a name that a segment has for itself, as one that all see, with the member's place
abbrev pub local_under : SearchStep → List ℕ → List Row
local_under (Within place) name = (record { step = Everyone; name = name }, place) ∷ []
local_under (OfUnit file from) name = []
local_under Everyone name = []

-- what segments have for themselves
abbrev pub local_rows : List FoundDefinition → List Row
local_rows fs = flat_map (λ f. local_under (step_of f) f.definition.name) fs

-- these are the definitions of a table
pub record AreDefinitions (fs : List FoundDefinition) (table : Definitions) : Type 0 where
  pub names : Indexes (numbered_rows 0 fs) table.names
  pub locals : Indexes (local_rows fs) table.locals
  pub items : table.items ≡ map definition_view fs

-- what a look-up answers where these are found, of which a number reports the first
abbrev pub Seen : (FoundDefinition → ℕ → Type 0) → List FoundDefinition → Matches → Type 0
Seen Reports [] answer = answer ≡ Nothing
Seen Reports (f ∷ []) answer = (number : ℕ) × (answer ≡ One number) × Reports f number
Seen Reports (f ∷ g ∷ more) answer = (number : ℕ) × (answer ≡ Several number) × Reports f number

-- a number is a place among all
abbrev pub Sees : List FoundDefinition → List FoundDefinition → Matches → Type 0
Sees all found answer = Seen (λ f number. slice_get all number ≡ Some f) found answer

-- of the places that an answer reports, this isn't one: it reports none, or another alone
abbrev pub IsElsewhere : ℕ → Matches → Type 0
IsElsewhere place Nothing = Unit {0}
IsElsewhere place (One other) = other ≡ place → ⊥
IsElsewhere place (Several first) = ⊥

-- a member that this doesn't report has nothing of that name for itself
abbrev pub AreHolders : List FoundDefinition → List ℕ → Matches → Type 0
AreHolders fs name answer = (place : ℕ) → IsElsewhere place answer → filter (λ f. is_step (Within place) (step_of f)) (with_this_name name fs) ≡ []

-- the member has this origin
abbrev pub IsOf : Member → Origin → Type 0
IsOf m origin = (m.file ≡ origin.file) × (m.number ≡ origin.segment) × (m.from ≡ origin.from)

-- what a member at a place of the list defines
abbrev pub founds_in : ℕ → Member → List Definition → List FoundDefinition
founds_in place m definitions = map (λ d. record { place = place; member = m; definition = d }) definitions
