use Rattle.std.proofs.Common.{map, drop}
use Rattle.orca_operands.specs.PieceView.{piece}
use Rattle.orca_operands.specs.TextView.{kept_text}
use Rattle.orca_operands.proofs.Putting.{PutLeft}
use Rattle.orca_operands.proofs.writer.RecordWriter.put_pieces.Given as goal

abbrev pub invariant-pieces : goal.invariant-pieces
invariant-pieces l = PutLeft (kept_text l.initial.self.text) l.initial.self.waiting.items (map piece l.pieces) (kept_text l.self.text) l.self.waiting.items (map piece (drop l.piece-index l.pieces))
