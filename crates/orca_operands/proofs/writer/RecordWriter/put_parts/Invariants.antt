use Rattle.std.proofs.Common.{drop}
use Rattle.orca_operands.specs.GivenView.{all_pieces}
use Rattle.orca_operands.specs.TextView.{kept_text}
use Rattle.orca_operands.proofs.Putting.{PutLeft}
use Rattle.orca_operands.proofs.writer.RecordWriter.put_parts.Given as goal

abbrev pub invariant-parts : goal.invariant-parts
invariant-parts l = PutLeft (kept_text l.initial.self.text) l.initial.self.waiting.items (all_pieces l.parts) (kept_text l.self.text) l.self.waiting.items (all_pieces (drop l.part-index l.parts))
