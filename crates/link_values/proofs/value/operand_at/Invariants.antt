use Rattle.std.proofs.Common.{◌≡◌, length}
use Rattle.link_values.specs.Operands.{operand_in}
use Rattle.link_values.proofs.value.operand_at.Given as goal

-- the operand isn't among the terms so far
abbrev pub invariant-terms : goal.invariant-terms
invariant-terms l = operand_in l.at l.terms ≡ operand_in l.at l.initial.terms

abbrev pub decreases-terms : goal.decreases-terms
decreases-terms l = length l.terms
