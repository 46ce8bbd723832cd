use Rattle.omf_making.proofs.Readings.{few_read}
use Rattle.omf_making.proofs.making.make_all.Goals as goal

pub make-requires-clause-few : goal.make-requires-clause-few
make-requires-clause-few g c = few_read _ c.args.inputs.now c.in-All.all.items c.in-All.ensures.0 c.requires
