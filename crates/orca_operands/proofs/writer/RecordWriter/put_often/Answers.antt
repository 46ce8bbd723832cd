use Rattle.std.proofs.Common.{map, ◌-◌, arith}
use Rattle.asm_meaning.specs.Pieces.{copies}
use Rattle.orca_operands.specs.PieceView.{piece}
use Rattle.orca_operands.specs.TextView.{kept_text}
use Rattle.orca_operands.proofs.Putting.{left_more, copies_next}
use Rattle.orca_operands.proofs.writer.RecordWriter.put_often.Goals as goal

pub copies-preserved : goal.copies-preserved
copies-preserved c =
    let own = map piece c.args.pieces.now in
    left_more (kept_text c.args.self.now.text) (kept_text c.copies.self.text) (kept_text c.put_pieces.new.self.text) c.args.self.now.waiting.items c.copies.self.waiting.items c.put_pieces.new.self.waiting.items (copies c.args.count own)
    (copies c.copies.left own) own (copies (c.copies.left - 1) own) c.copies.invariant (copies_next c.copies.left (c.copies.left - 1) own (omega arith)) c.in_ok-put_pieces.ensures
