use Rattle.omf_cells.proofs.LoadShows.{few_more}
use Rattle.omf_cells.proofs.load.LoadFile.table.Goals as goal

pub table_of-requires : goal.table_of-requires
table_of-requires c = few_more c.self.inside.views.items c.self.inside.contents.items c.self.invariant.views'
