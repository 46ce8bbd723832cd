use Rattle.omf_cells.proofs.LoadShows.{few_more}
use Rattle.omf_cells.proofs.load.LoadFile.pathnames.Goals as goal

pub pathnames_of-requires : goal.pathnames_of-requires
pathnames_of-requires c = few_more c.self.inside.views.items c.self.inside.contents.items c.self.invariant.views'
