use Rattle.answers.proofs.CommandReplies.{commands_are_answered}
use Rattle.answers.proofs.laws.commands_are_answered.Goals as goal

pub returns : goal.returns
returns c = commands_are_answered
