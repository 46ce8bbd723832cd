use Rattle.answers.specs.laws.ListAnswers.{sources_are_listed}
use Rattle.answers.proofs.laws.sources_are_listed.Goals as goal

pub returns : goal.returns
returns c = sources_are_listed
