use Rattle.loader_replies.proofs.OneCommand.{okay_text, done_text}
use Rattle.loader_replies.proofs.replies.done_line.Goals as goal

pub returns-in-Ok : goal.returns-in-Ok
returns-in-Ok c = rw c.in-Ok.is (okay_text c.okay_line.result c.okay_line.ensures)

pub returns-in-Err : goal.returns-in-Err
returns-in-Err c = rw c.in-Err.is (done_text c.refusal_line.result c.in-Err.fault c.refusal_line.ensures)
