use Rattle.std.proofs.Common.{◌-◌, List, length}
use Rattle.link_meaning.specs.Member.{Member, Offer}
use Rattle.link_program.specs.Linked.{Holds}
use Rattle.link_tables.specs.Offers.{AreOffers}
use Rattle.link_program.specs.Outside.{IsOutsideOf}
use Rattle.link_program.specs.Wanted.{WantsNothing}
use Rattle.link_program.proofs.linked.Linked.wanted.Given as goal

-- the uses so far want nothing
abbrev pub invariant-uses : goal.invariant-uses
invariant-uses l = (list : List Member) (os : List Offer) → Holds list l.self → IsOutsideOf list l.outside → AreOffers os l.offers → WantsNothing os list l.fn.from → WantsNothing os list l.number

abbrev pub decreases-uses : goal.decreases-uses
decreases-uses l = length l.self.uses - l.number
