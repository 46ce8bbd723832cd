use Rattle.loader_agrees.specs.laws.Apart.{steps_once_there}
use Rattle.loader_agrees.proofs.laws.commands_have_one_reply.Goals as goal

pub returns : goal.returns
returns c = steps_once_there
