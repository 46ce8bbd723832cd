use Rattle.sys_loader.proofs.Script.{can_change, cant_change}
use Rattle.sys_loader.proofs.loader.Loader.changeable.Goals as goal

pub returns-in-Some-clause-ok : goal.returns-in-Some-clause-ok
returns-in-Some-clause-ok c = can_change c.args.self.now.memory.slots c.args.h c.in_ok-state.state c.in-Some.field-0 c.in_ok-state.ensures.ok c.in-Some.is

pub returns-in-None-clause-err : goal.returns-in-None-clause-err
returns-in-None-clause-err c = cant_change c.args.self.now.memory.slots c.args.h c.in_ok-state.state c.in_ok-state.ensures.ok c.in-None.is
