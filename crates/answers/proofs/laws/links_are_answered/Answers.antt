use Rattle.answers.specs.laws.LinkAnswers.{links_are_answered}
use Rattle.answers.proofs.laws.links_are_answered.Goals as goal

pub returns : goal.returns
returns c = links_are_answered c.rows_are_laid_out.ensures.laid_out
