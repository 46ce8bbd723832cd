use Rattle.orca_object.specs.StateView.{with_defined_name}
use Rattle.orca_operands.proofs.After.{then_ok}
use Rattle.orca_object.proofs.state.OpenSegment.name_record.Goals as goal

pub returns : goal.returns
returns c = record { segment = then_ok c.put.result (λ k s shows. k (with_defined_name c.args.label.now _ s) (c.in_ok-define.ensures.segment s shows)) c.put.ensures.segment }
