use Rattle.omf_format.specs.laws.BodyLaws.{segment_is}
use Rattle.omf_records.proofs.laws.segments_are_shown.Goals as goal

pub returns : goal.returns
returns c = segment_is
