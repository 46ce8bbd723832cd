use Rattle.std.proofs.Common.{map}
use Rattle.asm_meaning.specs.Pieces.{copies}
use Rattle.orca_operands.specs.PieceView.{piece}
use Rattle.orca_operands.specs.TextView.{kept_text}
use Rattle.orca_operands.proofs.Putting.{PutLeft}
use Rattle.orca_operands.proofs.writer.RecordWriter.put_often.Given as goal

abbrev pub invariant-copies : goal.invariant-copies
invariant-copies l = PutLeft (kept_text l.initial.self.text) l.initial.self.waiting.items (copies l.count (map piece l.pieces)) (kept_text l.self.text) l.self.waiting.items (copies l.left (map piece l.pieces))

abbrev pub decreases-copies : goal.decreases-copies
decreases-copies l = l.left
