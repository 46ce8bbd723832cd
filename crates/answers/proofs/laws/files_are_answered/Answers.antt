use Rattle.answers.specs.laws.FileAnswers.{files_are_answered}
use Rattle.answers.proofs.laws.files_are_answered.Goals as goal

pub returns : goal.returns
returns c = files_are_answered
