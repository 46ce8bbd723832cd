use Rattle.std.proofs.Common.{◌+◌, drop}
use Rattle.orca_operands.specs.GivenView.{part_pieces, all_pieces}
use Rattle.orca_operands.specs.TextView.{kept_text}
use Rattle.orca_operands.proofs.Putting.{left_more, parts_next, plain_part}
use Rattle.orca_operands.proofs.writer.RecordWriter.put_parts.Goals as goal

pub put_part-requires : goal.put_part-requires
put_part-requires c = plain_part c.args.parts.now c.parts.part-index c.part-item.result c.parts-test.true c.part-item.is c.parts.invariant.plain

pub parts-preserved : goal.parts-preserved
parts-preserved c =
    let parts = c.args.parts.now in
    let i = c.parts.part-index in
    let part = c.part-item.result in
    left_more (kept_text c.args.self.now.text) (kept_text c.parts.self.text) (kept_text c.put_part.new.self.text) c.args.self.now.waiting.items c.parts.self.waiting.items c.put_part.new.self.waiting.items (all_pieces parts) (all_pieces (drop i parts))
    (part_pieces part) (all_pieces (drop (i + 1) parts)) c.parts.invariant (parts_next parts i part c.parts-test.true c.part-item.is) c.in_ok-put_part.ensures
