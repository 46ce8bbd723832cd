use Rattle.std.proofs.Common.{map, arith}
use Rattle.omf_records.specs.Segments.{segment_of_view}
use Rattle.omf_cells.proofs.PathFew.{few_kept}
use Rattle.omf_cells.proofs.load.LoadFile.paths.Goals as goal

pub overflow_cast-result : goal.overflow_cast-result
overflow_cast-result c =
    omega (arith, few_kept c.self.inside.paths.items (map segment_of_view c.self.inside.views.items) c.self.invariant.paths', c.len.ensures, c.self.inside.paths.ok)
