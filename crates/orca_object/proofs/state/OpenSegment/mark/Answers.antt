use Rattle.orca_object.specs.StateView.{with_defined_name}
use Rattle.orca_operands.proofs.After.{then_ok}
use Rattle.orca_object.proofs.state.OpenSegment.mark.Goals as goal

pub returns-clause-segment : goal.returns-clause-segment
returns-clause-segment c = then_ok c.put_local.result (λ k s shows. k (with_defined_name c.args.label.now _ s) (c.in_ok-define.ensures.segment s shows)) c.put_local.ensures.segment
