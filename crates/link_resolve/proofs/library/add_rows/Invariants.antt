use Rattle.std.proofs.Common.{◌≡◌, ◌-◌, ◌≤◌, ◌++◌, List, length, map, take}
use Rattle.std.specs.List.{filter_map}
use Rattle.lib_dict.specs.Library.{row_view}
use Rattle.link_meaning.specs.Member.{OfferedRow, LinkSetting, Offer, offer_of}
use Rattle.link_tables.specs.Offers.{AreOffers}
use Rattle.link_program.specs.Inputs.{AllStand}
use Rattle.link_resolve.proofs.library.add_rows.Given as goal

-- the rows so far were added
abbrev pub invariant-rows : goal.invariant-rows
invariant-rows l =
    (l.place ≤ length l.dictionary)
    × ((setting : LinkSetting) (os : List Offer) (rows : List OfferedRow) → l.dictionary ≡ map (row_view l.segments) rows → AllStand l.segments rows → AreOffers os l.fn.offers
    → AreOffers (os ++ filter_map (offer_of setting l.file l.segments) (take l.place rows)) l.offers)

abbrev pub decreases-rows : goal.decreases-rows
decreases-rows l = length l.dictionary - l.place
