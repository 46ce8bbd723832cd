use Rattle.omf_cells.proofs.LoadShows.{few_more}
use Rattle.omf_cells.proofs.load.LoadFile.kind_fault.Goals as goal

pub check_kinds-requires : goal.check_kinds-requires
check_kinds-requires c = few_more c.self.inside.views.items c.self.inside.contents.items c.self.invariant.views'
