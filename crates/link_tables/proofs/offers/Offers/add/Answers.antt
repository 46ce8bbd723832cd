use Rattle.std.proofs.Common.{List, length, ap}
use Rattle.link_tables.specs.declared.definitions.Origin.{Origin}
use Rattle.link_tables.specs.declared.offers.Offers.{Offers}
use Rattle.link_tables.proofs.OfferLaws.{offered_more}
use Rattle.link_tables.proofs.offers.Offers.add.Goals as goal

pub returns : goal.returns
returns c = λ os o are is.
    let new : Offers = record { origins = c.push.new.self; names = c.add.new.self; titles = c.add_title.new.titles } in
    offered_more os o c.args.self.now new c.args.name.now c.args.private c.args.origin c.args.titled c.outer_step.result (length c.as_slice-number.result.now) are is c.outer_step.ensures
    (ap (λ (l : List Origin). length l) c.as_slice-number.ensures.value) c.in_ok-add_title.ensures c.in_ok-add.ensures c.in_ok-push.ensures.items
