use Rattle.std.proofs.Common.{◌-◌, take, length}
use Rattle.link_program.specs.Outside.{all_found}
use Rattle.link_values.specs.Equates.{AreRows}
use Rattle.link_values.proofs.leads.leads_of.Given as goal

-- the definitions so far have their rows
abbrev pub invariant-definitions : goal.invariant-definitions
invariant-definitions l = AreRows l.program (take (length l.edges) (all_found l.program)) l.edges

abbrev pub decreases-definitions : goal.decreases-definitions
decreases-definitions l = length (all_found l.program) - length l.edges
