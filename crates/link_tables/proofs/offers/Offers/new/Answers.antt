use Rattle.link_tables.specs.declared.offers.Offers.{Offers}
use Rattle.link_tables.proofs.OfferLaws.{offered_none}
use Rattle.link_tables.proofs.offers.Offers.new.Goals as goal

pub returns : goal.returns
returns c =
    let new : Offers = record { origins = c.new.result; names = c.new-2.result; titles = c.new-3.result } in
    offered_none new c.new.ensures.items c.new-2.ensures c.new-3.ensures
