use Rattle.std.proofs.Common.{refl}
use Rattle.loader_machine.specs.Commands as commands
use Rattle.loader_machine.specs.Refusals.{shut_down_refusal}
use Rattle.loader_machine.specs.State.{is_attached}
use Rattle.loader_agrees.specs.Agrees.{kept_outlines, seen_by}
use Rattle.sys_loader.specs.Replies.{done_reply}
use Rattle.loader_replies.proofs.OneCommand.{idle_line, line_text}
use Rattle.loader_replies.proofs.Refusals.{shut_down_safe, shut_down_why, done_safe}
use Rattle.loader_replies.proofs.calls.shut_down.Goals as goal

pub returns : goal.returns
returns c store =
    let old = c.args.loader.now in
    let result = c.shut_down.result in
    let attached = is_attached (kept_outlines old.users) c.args.user in
    idle_line c.done_line.result store (commands.ShutDown c.args.user c.args.keep) old c.shut_down.new.self (done_reply result) (line_text c.done_line.result (done_reply result) c.done_line.ensures)
    (done_safe result (shut_down_refusal attached (seen_by old c.args.user) c.args.keep) (shut_down_safe attached (seen_by old c.args.user) c.args.keep) (shut_down_why old c.shut_down.new.self c.args.user c.args.keep result c.shut_down.ensures.did)) refl refl c.shut_down.ensures.meets
