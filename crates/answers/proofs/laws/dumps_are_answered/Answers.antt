use Rattle.answers.specs.laws.LibraryAnswers.{dumps_are_answered}
use Rattle.answers.proofs.laws.dumps_are_answered.Goals as goal

pub returns : goal.returns
returns c = dumps_are_answered
