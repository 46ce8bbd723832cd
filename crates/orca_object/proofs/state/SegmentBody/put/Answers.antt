use Rattle.std.proofs.Common.{refl}
use Rattle.omf_records.specs.View.{view}
use Rattle.orca_operands.proofs.After.{then_ok}
use Rattle.orca_object.proofs.Bodies.{one_more}
use Rattle.orca_object.proofs.state.SegmentBody.put.Goals as goal

pub returns-clause-body : goal.returns-clause-body
returns-clause-body c = then_ok c.put.result (λ grows room records shows. one_more c.args.self.now _ (view c.args.rec.now) grows refl c.requires.none room records shows) c.put.ensures
