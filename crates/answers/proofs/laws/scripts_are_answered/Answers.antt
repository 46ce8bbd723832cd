use Rattle.answers.specs.laws.ScriptAnswers.{scripts_are_answered}
use Rattle.answers.proofs.laws.scripts_are_answered.Goals as goal

pub returns : goal.returns
returns c = scripts_are_answered
