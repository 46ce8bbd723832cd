use Rattle.std.proofs.Common.{◌-◌, List, length, take}
use Rattle.link_meaning.specs.First.{HasNone}
use Rattle.link_meaning.specs.Member.{Member}
use Rattle.link_meaning.specs.LinkedList.{all_uses}
use Rattle.link_program.specs.Linked.{Holds}
use Rattle.link_program.specs.Outside.{IsOutsideOf}
use Rattle.link_program.specs.Resolving.{FailsToResolve}
use Rattle.link_program.proofs.linked.Linked.first_unresolved_use.Given as goal

-- the uses so far resolve
abbrev pub invariant-uses : goal.invariant-uses
invariant-uses l = (list : List Member) → Holds list l.self → IsOutsideOf list l.outside → HasNone (FailsToResolve list) (take l.number (all_uses list))

abbrev pub decreases-uses : goal.decreases-uses
decreases-uses l = length l.self.uses - l.number
