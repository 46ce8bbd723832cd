use Rattle.std.proofs.Common.{◌∙◌}
use Rattle.link_tables.specs.Offers.{offer_rows}
use Rattle.link_tables.proofs.offers.Offers.reserve.Goals as goal

pub returns-in_err-reserve : goal.returns-in_err-reserve
returns-in_err-reserve c = λ os are. record { origins = c.reserve.ensures.items ∙ are.origins; names = are.names; titles = are.titles }

pub returns : goal.returns
returns c = λ os are. record { origins = c.reserve.ensures.items ∙ are.origins; names = c.reserve-2.ensures (offer_rows 0 os) are.names; titles = are.titles }
