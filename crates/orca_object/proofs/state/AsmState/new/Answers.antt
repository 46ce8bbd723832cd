use Rattle.orca_object.proofs.States.{shows_start}
use Rattle.orca_object.proofs.state.AsmState.new.Goals as goal

pub returns-clause-state : goal.returns-clause-state
returns-clause-state c = shows_start c.new.result c.new-2.result c.new-3.result c.new.ensures c.new-2.ensures c.new-3.ensures
