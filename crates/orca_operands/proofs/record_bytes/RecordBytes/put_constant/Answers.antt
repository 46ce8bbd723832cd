use Rattle.orca_operands.specs.TextView.{kept_text}
use Rattle.orca_operands.proofs.Putting.{put_short, put_long, put_too_long}
use Rattle.orca_operands.proofs.record_bytes.RecordBytes.put_constant.Goals as goal

pub returns-then-bytes-le223 : goal.returns-then-bytes-le223
returns-then-bytes-le223 c = put_short c.args.bytes.now (kept_text c.args.self.now) (kept_text c.put.new.self) c.requires c.if-bytes-le223.true c.in_ok-put.ensures

pub returns-then-bytes-gt-MAX_FILE : goal.returns-then-bytes-gt-MAX_FILE
returns-then-bytes-gt-MAX_FILE c = put_too_long c.args.bytes.now (kept_text c.args.self.now) (kept_text c.give_up.new.self) c.if-bytes-gt-MAX_FILE.true c.give_up.ensures

pub returns : goal.returns
returns c = put_long c.args.bytes.now (kept_text c.args.self.now) (kept_text c.put-2.new.self) c.if-bytes-le223.false c.in_ok-put-2.ensures
