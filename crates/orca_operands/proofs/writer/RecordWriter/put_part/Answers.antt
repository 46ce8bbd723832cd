use Rattle.std.proofs.Common.{map, sym, ap, ◌∙◌}
use Rattle.orca_operands.specs.PieceView.{piece}
use Rattle.orca_operands.specs.TextView.{kept_text}
use Rattle.orca_operands.proofs.Putting.{wrote_only}
use Rattle.orca_operands.proofs.writer.RecordWriter.put_part.Goals as goal

pub returns-in_ok-put_copies-in-Some : goal.returns-in_ok-put_copies-in-Some
returns-in_ok-put_copies-in-Some c = λ whole rest w.
    wrote_only whole (kept_text c.args.self.now.text) c.args.self.now.waiting.items c.put_copies.new.out.items c.in-Some.bytes.now (map piece c.args.part.now.pieces.items) c.args.part.now.count rest
    (ap (map piece) (sym c.as_slice.ensures.value) ∙ c.in-Some.ensures) c.in_ok-put_copies-in-Some.ensures w
