use Rattle.answers.specs.laws.CompactAnswers.{load_files_are_compacted}
use Rattle.answers.proofs.laws.load_files_are_compacted.Goals as goal

pub returns : goal.returns
returns c = load_files_are_compacted
