use Rattle.std.proofs.Common.{arith}
use Rattle.omf_cells.proofs.LoadShows.{few_views}
use Rattle.omf_cells.proofs.load.LoadFile.count.Goals as goal

pub overflow_cast-result : goal.overflow_cast-result
overflow_cast-result c = omega (arith, few_views c.self.inside.views.items c.self.inside.contents.items c.self.invariant.views', c.len.ensures, c.self.inside.views.ok)
