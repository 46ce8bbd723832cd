-- The linked list: which segments are linked, and in which order.
use Rattle.std.specs.Prelude.{◌≡◌, ℕ, ◌+◌, Bool, true, false, not, ◌&&◌, List, [], ◌∷◌, ◌++◌, Option, Some, None, map, ◌==◌, if◌then◌else◌}
use Rattle.std.specs.List.{list_any}
use Rattle.std.specs.Option.{option_or}
use Rattle.std.specs.Str.{bytes_eq}
use Rattle.link_meaning.specs.First.{first_some}
use Rattle.link_meaning.specs.Member.{LinkSetting, Member, Input, Offer, objects, library_offers}
use Rattle.omf_format.specs.Header.{is_private}
use Rattle.omf_format.specs.File.{Segment}
use Rattle.object_meaning.specs.Defines.{data_title_of}
use Rattle.link_meaning.specs.declared.search.SearchKind.TheVariants.{Data, One, Any}
use Rattle.link_meaning.specs.Uses.{Use, uses_of}
use Rattle.link_meaning.specs.Search.{FoundDefinition, finds, finds_data}

-- the data segment defines the name by its SEGNAME with this privacy
abbrev pub has_title : Segment → List ℕ → Bool → Bool
has_title s name private = list_any (λ d. bytes_eq name d.name) (data_title_of s) && (if private then is_private s.fields.kind else not (is_private s.fields.kind))

-- whether a row counts for a use: it has the name, and for USING its segment is that data segment
abbrev pub counts_for : Use → Offer → Bool
counts_for u o = bytes_eq u.name o.name && (elim u.want [
  | Data ↦ has_title o.member.segment u.name o.private
  | One ↦ true
  | Any ↦ false
])

-- the first row of these for which a test holds
abbrev pub first_offer : (Offer → Bool) → List Offer → Option Member
first_offer test [] = None
first_offer test (o ∷ library_offers) = if test o then Some o.member else first_offer test library_offers

-- the row for a use of the member: a private one of its own library, with the member's file number, first, else one that isn't private
unfoldable pub row_for : List Offer → Member → Use → Option Member
row_for library_offers m u = option_or
    (first_offer (λ o. counts_for u o && (o.private && m.file == o.member.file && m.from == o.member.from)) library_offers)
    (first_offer (λ o. counts_for u o && not o.private) library_offers)

-- what a use finds; content without a definition, a weak name asks for none
abbrev pub found_for : List Member → ℕ → Member → Use → List FoundDefinition
found_for list place m u = elim u.want [
  | Data ↦ finds_data list m u.name
  | One ↦ finds list place m u.name
  | Any ↦ finds list place m u.name
]

-- the row's segment, where the use finds nothing
abbrev pub wanted_by : List Offer → List Member → ℕ → Member → Use → Option Member
wanted_by library_offers list place m u = elim (found_for list place m u) [ [] ↦ row_for library_offers m u | f ∷ found ↦ None ]

-- a use of the member at a place of the list
pub record PlacedUse : Type 0 where
  pub place : ℕ
  pub member : Member
  pub use' : Use

abbrev pub asked_from : ℕ → List Member → List PlacedUse
asked_from place [] = []
asked_from place (m ∷ members) = map (λ u. record { place = place; member = m; use' = u }) (uses_of m.segment) ++ asked_from (place + 1) members

-- all uses, in list and record order
unfoldable pub all_uses : List Member → List PlacedUse
all_uses list = asked_from 1 list

-- the member that the first use brings in that no step finds and that has a row
unfoldable pub wanted : List Offer → List Member → Option Member
wanted library_offers list = first_some (λ a. wanted_by library_offers list a.place a.member a.use') (all_uses list)

-- each of these is wanted by those before it, and after the last nothing is wanted
abbrev pub Follow : List Offer → List Member → List Member → Type 0
Follow library_offers before [] = wanted library_offers before ≡ None
Follow library_offers before (m ∷ members) = (wanted library_offers before ≡ Some m) × Follow library_offers (before ++ m ∷ []) members

-- the list begins with the segments of the object files, and each further member was wanted by the members before it
pub record IsLinked (setting : LinkSetting) (inputs : List Input) (list : List Member) : Type 0 where
  pub added : List Member
  pub parts : list ≡ objects setting inputs ++ added
  pub follow : Follow (library_offers setting inputs) (objects setting inputs) added
