use Rattle.std.proofs.Common.{[], arith}
use Rattle.load_content.specs.declared.pieces.BytePiece.{BytePiece}
use Rattle.load_content.proofs.Splits.{get_there}
use Rattle.omf_cells.proofs.EndLists.{is_max, have_more, all_kept}
use Rattle.omf_cells.proofs.ends.end_from.Goals as goal

abbrev no_piece : BytePiece
no_piece = record { start = 0; bytes = record { ref_ptr = (0, 0); now = [] } }

pub pieces-preserved : goal.pieces-preserved
pieces-preserved c =
    have_more c.args.pieces.now c.pieces.piece-index c.args.low c.pieces.end c.end_of_nonzero.result c.max-end.result _ c.pieces.invariant
    (get_there c.args.pieces.now c.pieces.piece-index no_piece c.pieces-test.true) c.end_of_nonzero.ensures (is_max c.pieces.end c.end_of_nonzero.result c.max-end.result c.max-end.ensures)

pub returns : goal.returns
returns c = λ bytes are fits. all_kept c.args.pieces.now c.pieces.piece-index c.args.low c.pieces.end bytes c.pieces.invariant (omega (arith, c.pieces-test.false)) are fits
