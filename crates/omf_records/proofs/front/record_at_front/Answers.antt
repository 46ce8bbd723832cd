use Rattle.omf_records.specs.View.{view, view_layout}
use Rattle.omf_records.proofs.Formed.{front-formed}
use Rattle.omf_records.proofs.front.record_at_front.Goals as goal

pub returns-in-Ok-clause-formed : goal.returns-in-Ok-clause-formed
returns-in-Ok-clause-formed c = front-formed (view_layout c.args.layout) c.args.bytes.now (view c.in-Ok.rec, c.in-Ok.rest.now) c.type_inv.bytes c.in-Ok.ensures.gives
