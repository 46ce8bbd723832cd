use Rattle.jump_table.proofs.Places.{found_in, found_none}
use Rattle.jump_table.proofs.table.Table.place_of.Goals as goal

pub returns-clause-found : goal.returns-clause-found
returns-clause-found c = rw (← c.self.view_is) (found_in c.self.inside.targets.keys c.args.target c.get_index_of.result c.get_index_of.ensures.index)

pub returns-clause-none : goal.returns-clause-none
returns-clause-none c = rw (← c.self.view_is) (found_none c.self.inside.targets.keys c.args.target c.get_index_of.result c.get_index_of.ensures.found)
