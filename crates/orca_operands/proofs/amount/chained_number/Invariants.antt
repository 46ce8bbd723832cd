use Rattle.std.proofs.Common.{◌≡◌, ◌∷◌, [], map, length}
use Rattle.asm_meaning.specs.Constant.{Number}
use Rattle.orca_operands.specs.NamesView.{constants}
use Rattle.orca_text.specs.View.{term}
use Rattle.orca_operands.proofs.Chains.{after_terms}
use Rattle.orca_operands.proofs.amount.chained_number.Given as goal

abbrev pub invariant-left : goal.invariant-left
invariant-left l = after_terms (constants l.known) (map term l.left) (Number l.number ∷ []) ≡ after_terms (constants l.known) (map term l.others) (Number l.first ∷ [])

abbrev pub decreases-left : goal.decreases-left
decreases-left l = length l.left
