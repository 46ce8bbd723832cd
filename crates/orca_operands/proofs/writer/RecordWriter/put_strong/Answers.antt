use Rattle.std.proofs.Common.{arith}
use Rattle.omf_format.specs.Record.{Strong}
use Rattle.orca_operands.specs.TextView.{kept_text}
use Rattle.orca_operands.proofs.Putting.{wrote_record}
use Rattle.orca_operands.proofs.writer.RecordWriter.put_strong.Goals as goal

pub put-requires : goal.put-requires
put-requires c = c.requires.spelled 0 (omega arith)

pub returns : goal.returns
returns c = λ whole rest w.
    wrote_record whole (kept_text c.args.self.now.text) (kept_text c.flush.new.self.text) (kept_text c.put.new.self) c.args.self.now.waiting.items c.flush.new.self.waiting.items (Strong c.args.name.now) rest c.in_ok-flush.ensures.text c.in_ok-put.ensures
    c.in_ok-flush.ensures.none w
