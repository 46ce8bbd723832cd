use Rattle.omf_compact.specs.laws.ReplacedLaws.{answer_is_not_seen}
use Rattle.omf_compact.proofs.laws.canonical_files_are_not_seen.Goals as goal

pub returns : goal.returns
returns c = answer_is_not_seen
