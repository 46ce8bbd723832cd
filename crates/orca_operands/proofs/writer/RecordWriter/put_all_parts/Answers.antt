use Rattle.orca_operands.specs.GivenView.{all_pieces}
use Rattle.orca_operands.specs.TextView.{kept_text}
use Rattle.orca_operands.proofs.Putting.{put_all}
use Rattle.orca_operands.proofs.writer.RecordWriter.put_all_parts.Goals as goal

pub returns : goal.returns
returns c = λ text is.
    put_all text (kept_text c.args.self.now.text) (kept_text c.put_parts.new.self.text) (kept_text c.flush.new.self.text) c.clear.new.self.items c.put_parts.new.self.waiting.items (all_pieces c.args.parts.now) c.in_ok-put_parts.ensures
    c.in_ok-flush.ensures.text c.clear.ensures.items is
