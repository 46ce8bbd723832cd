use Rattle.std.proofs.Common.{◌+◌, arith}
use Rattle.omf_cells.proofs.EndLists.{spot_ends}
use Rattle.omf_cells.proofs.ends.end_of.Goals as goal

pub returns : goal.returns
returns c = spot_ends c.args.spot.now (c.args.spot.now.at + c.from.result) (omega (arith, c.from.ensures, c.size_of-size.ensures.value)) (omega (arith, c.size_of-size.ensures.value, c.if-size-eq0.false))
