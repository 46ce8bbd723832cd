-- What is gathered of inputs.
use Rattle.std.specs.Prelude.{◌≡◌, ℕ, ◌++◌, List, [], Ok, map, if◌then◌else◌}
use Rattle.std.specs.List.{filter_map}
use Rattle.omf_format.specs.File.{Segment}
use Rattle.lib_dict.specs.Library.{LibraryRow, row_view}
use Rattle.link_meaning.specs.First.{IsIn}
use Rattle.link_meaning.specs.Member.{OfferedRow, Input, LinkSetting, Member, Offer, is_library, members_from, offer_of, objects, library_offers}
use Rattle.link_meaning.specs.Dictionary.{rows_of}
use Rattle.link_resolve.specs.declared.gather.Gathered as kept
use Rattle.link_program.specs.Linked.{Holds}
use Rattle.link_tables.specs.Offers.{AreOffers}
use Rattle.link_resolve.specs.Libraries.{StartsAscend}
use Rattle.link_program.specs.Inputs.{AllStand, IsSoundInput}

-- what was read of these inputs, with whatever they are linked
pub record IsGathered (inputs : List Input) (kept : kept.Gathered) : Type 0 where
  pub files : kept.files.items ≡ map (λ i. i.segments) inputs
  pub objects' : (setting : LinkSetting) → Holds (objects setting inputs) kept.linked
  pub offers' : (setting : LinkSetting) → AreOffers (library_offers setting inputs) kept.offers
  pub sound : (input : Input) → IsIn inputs input → IsSoundInput input

-- these rows are reported of a library
pub record AreRows (segments : List Segment) (reported : List LibraryRow) : Type 0 where
  pub rows : List OfferedRow
  pub read : rows_of segments ≡ Ok rows
  pub reported' : reported ≡ map (row_view segments) rows
  pub stand : AllStand segments rows
  pub ascend : StartsAscend segments

-- what the input with this number adds: an object file's segments to the list, a library's rows to the offers
abbrev pub AddsInput : ℕ → Input → kept.Gathered → kept.Gathered → Type 0
AddsInput file input old new =
    ((setting : LinkSetting) (before : List Member) → Holds before old.linked
    → Holds (before ++ (if is_library input.segments then [] else members_from setting file 1 input.segments)) new.linked)
    × ((setting : LinkSetting) (os : List Offer) → AreOffers os old.offers → AreOffers (os ++ filter_map (offer_of setting file input.segments) input.rows) new.offers)
