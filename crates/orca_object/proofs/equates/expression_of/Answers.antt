use Rattle.orca_object.proofs.EquateLaws.{tree_fine}
use Rattle.orca_operands.proofs.After.{then_if}
use Rattle.orca_object.proofs.equates.expression_of.Goals as goal

pub returns-in-Written-clause-fine : goal.returns-in-Written-clause-fine
returns-in-Written-clause-fine c =
    let fine = rw c.in-Written.is at c.requires in
    then_if c.shift_and_end.result (λ v k. tree_fine fine.0 v.items fine.1 fine.2 (k fine.0 fine.3)) c.shift_and_end.ensures
