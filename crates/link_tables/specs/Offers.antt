-- What is kept of the rows of libraries.
use Rattle.std.specs.Prelude.{◌≡◌, ℕ, ◌+◌, Bool, List, [], ◌∷◌, Option, Some, None, map, if◌then◌else◌, slice_get}
use Rattle.std.specs.Option.{option_or}
use Rattle.link_meaning.specs.declared.search.SearchStep.{SearchStep}
use Rattle.link_meaning.specs.declared.search.SearchStep.TheVariants.{OfUnit, Everyone}
use Rattle.link_meaning.specs.Member.{Member, Offer}
use Rattle.link_meaning.specs.LinkedList.{has_title}
use Rattle.link_tables.specs.declared.names.Matches.{Matches}
use Rattle.link_tables.specs.declared.names.Matches.TheVariants.{Nothing, One, Several}
use Rattle.link_tables.specs.declared.definitions.Origin.{Origin}
use Rattle.link_tables.specs.declared.offers.Offers as kept
use Rattle.link_tables.specs.Names.{Named, Row, Indexes, outcome}

-- whom a row serves: its member's unit, or all
abbrev pub step_of_offer : Offer → SearchStep
step_of_offer o = if o.private then OfUnit o.member.file o.member.from else Everyone

abbrev pub key_of_offer : Offer → Named
key_of_offer o = record { step = step_of_offer o; name = o.name }

-- its segment is a data segment of that name
abbrev pub is_titled : Offer → Bool
is_titled o = has_title o.member.segment o.name o.private

-- rows with their numbers, where the first has this one
abbrev pub offer_rows : ℕ → List Offer → List Row
offer_rows n [] = []
offer_rows n (o ∷ os) = (key_of_offer o, n) ∷ offer_rows (n + 1) os

abbrev pub titled_rows : ℕ → List Offer → List Row
titled_rows n [] = []
titled_rows n (o ∷ os) = if is_titled o then (key_of_offer o, n) ∷ titled_rows (n + 1) os else titled_rows (n + 1) os

-- the origin of the member that a row would bring in
abbrev pub origin_view : Offer → Origin
origin_view o = record { file = o.member.file; segment = o.member.number; from = o.member.from }

-- these are the rows
pub record AreOffers (os : List Offer) (table : kept.Offers) : Type 0 where
  pub origins : table.origins.items ≡ map origin_view os
  pub names : Indexes (offer_rows 0 os) table.names
  pub titles : Indexes (titled_rows 0 os) table.titles

-- the row has this name and privacy, would bring in this member, and is or isn't one of a data segment
pub record IsOfferOf (o : Offer) (name : List ℕ) (private : Bool) (origin : Origin) (titled : Bool) : Type 0 where
  pub name' : o.name ≡ name
  pub private' : o.private ≡ private
  pub origin' : origin_view o ≡ origin
  pub titled' : is_titled o ≡ titled

abbrev pub number_of : Matches → Option ℕ
number_of Nothing = None
number_of (One number) = Some number
number_of (Several number) = Some number

-- the number of the first row of the one key, or else of the other
abbrev pub first_number : List Row → Named → Named → Option ℕ
first_number rows own every = option_or (number_of (outcome rows own)) (number_of (outcome rows every))

-- the number is that of the row whose member is wanted
abbrev pub IsRow : List Offer → Option Member → Option ℕ → Type 0
IsRow os wanted None = wanted ≡ None
IsRow os wanted (Some number) = (o : Offer) × (slice_get os number ≡ Some o) × (wanted ≡ Some o.member)
