use Rattle.std.specs.Prelude.{pos}
use Rattle.load_content.specs.declared.spots.PatchSpot.{PatchSpot}
use Rattle.omf_cells.proofs.EndLists.{last_more}
use Rattle.omf_cells.proofs.ends.last_end.Goals as goal

abbrev no_spot : PatchSpot
no_spot = record { at = 0; offset = 0; segment = 0; shift = pos 0; first = 0; end = 0 }

pub spots-preserved : goal.spots-preserved
spots-preserved c = last_more c.args.spots.now c.spots.spot-index no_spot c.spots.end c.end_of.result c.max-end.result c.spots-test.true c.spots.invariant c.end_of.ensures c.max-end.ensures
