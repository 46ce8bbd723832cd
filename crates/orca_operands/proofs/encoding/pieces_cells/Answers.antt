use Rattle.std.proofs.Common.{◌+◌, drop}
use Rattle.orca_operands.specs.PutView.{piece_size, pieces_size}
use Rattle.orca_operands.proofs.Listed.{next_is}
use Rattle.orca_operands.proofs.Sizes.{sum_starts, sum_more}
use Rattle.orca_operands.proofs.encoding.pieces_cells.Goals as goal

pub pieces-init : goal.pieces-init
pieces-init c = sum_starts (pieces_size c.args.pieces.now)

pub pieces-preserved : goal.pieces-preserved
pieces-preserved c =
    let pieces = c.args.pieces.now in
    let i = c.pieces.piece-index in
    let piece = c.piece-item.result in
    sum_more c.pieces.total (piece_size piece) (pieces_size (drop (i + 1) pieces)) (pieces_size (drop i pieces)) (pieces_size pieces) c.piece_cells.result c.cap_cells-total.result c.pieces.invariant
    (next_is pieces_size pieces i piece c.pieces-test.true c.piece-item.is) c.piece_cells.ensures c.cap_cells-total.ensures
