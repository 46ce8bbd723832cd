use Rattle.list_meaning.specs.laws.Examples.{worked}
use Rattle.list_meaning.proofs.laws.listings_are_worked.Goals as goal

pub returns : goal.returns
returns c = worked
