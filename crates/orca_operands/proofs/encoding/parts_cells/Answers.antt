use Rattle.std.proofs.Common.{◌+◌, ◌*◌, drop}
use Rattle.orca_operands.specs.PutView.{pieces_size, parts_size}
use Rattle.orca_operands.proofs.Listed.{next_is}
use Rattle.orca_operands.proofs.Sizes.{sum_starts, sum_more}
use Rattle.orca_operands.proofs.encoding.parts_cells.Goals as goal

pub parts-init : goal.parts-init
parts-init c = sum_starts (parts_size c.args.parts.now)

pub parts-preserved : goal.parts-preserved
parts-preserved c =
    let parts = c.args.parts.now in
    let i = c.parts.part-index in
    let part = c.part-item.result in
    sum_more c.parts.total (part.count * pieces_size part.pieces.items) (parts_size (drop (i + 1) parts)) (parts_size (drop i parts)) (parts_size parts) c.part_cells.result c.cap_cells-total.result c.parts.invariant
    (next_is parts_size parts i part c.parts-test.true c.part-item.is) c.part_cells.ensures c.cap_cells-total.ensures
