use Rattle.loader_replies.proofs.Reading.{restarted, not_restarted}
use Rattle.loader_replies.proofs.calls.restart.Goals as goal

pub returns-in-Ok : goal.returns-in-Ok
returns-in-Ok g c =
    restarted c.args.loader.now c.restart.new.self c.args.user (g.F.Files.seen c.args.files.now) (g.F.Files.seen c.restart.new.files) c.restart.ensures.held c.restart.ensures.asked c.restart.ensures.unasked c.restart.ensures.refused_unasked c.restart.ensures.needed
    c.started_line.result c.in-Ok.started c.started_line.ensures c.in-Ok.ensures.did c.in-Ok.ensures.meets

pub returns-in-Err : goal.returns-in-Err
returns-in-Err g c =
    not_restarted c.args.loader.now c.restart.new.self c.args.user (g.F.Files.seen c.args.files.now) (g.F.Files.seen c.restart.new.files) c.restart.ensures.held c.restart.ensures.asked c.restart.ensures.unasked c.restart.ensures.refused_unasked c.restart.ensures.needed
    c.refusal_line.result c.in-Err.fault c.refusal_line.ensures c.in-Err.ensures.did c.in-Err.ensures.meets
