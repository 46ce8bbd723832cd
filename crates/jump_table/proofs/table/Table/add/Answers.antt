use Rattle.std.proofs.Common.{◌∙◌}
use Rattle.jump_table.proofs.Places.{with_new}
use Rattle.jump_table.proofs.table.Table.add.Goals as goal

pub returns-clause-ok : goal.returns-clause-ok
returns-clause-ok c = rw (← c.self.view_is) (c.in-Ok.ensures.keys ∙ with_new c.self.inside.targets.keys c.args.target (rw c.self.view_is c.requires))
