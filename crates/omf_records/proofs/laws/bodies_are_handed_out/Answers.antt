use Rattle.omf_format.specs.laws.BodyLaws.{handed_out}
use Rattle.omf_records.proofs.laws.bodies_are_handed_out.Goals as goal

pub returns : goal.returns
returns c = handed_out
