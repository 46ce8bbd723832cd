use Rattle.loader_replies.proofs.Reading.{entered, not_entered}
use Rattle.loader_replies.proofs.calls.jsl.Goals as goal

pub returns-in-Ok : goal.returns-in-Ok
returns-in-Ok g c =
    entered c.args.loader.now c.jsl.new.self c.args.user c.args.segment c.args.at (g.F.Files.seen c.args.files.now) (g.F.Files.seen c.jsl.new.files) c.jsl.ensures.held c.jsl.ensures.asked c.jsl.ensures.needed
    c.entered_line.result c.in-Ok.place c.entered_line.ensures c.in-Ok.ensures.did c.in-Ok.ensures.meets

pub returns-in-Err : goal.returns-in-Err
returns-in-Err g c =
    not_entered c.args.loader.now c.jsl.new.self c.args.user c.args.segment c.args.at (g.F.Files.seen c.args.files.now) (g.F.Files.seen c.jsl.new.files) c.jsl.ensures.held c.jsl.ensures.asked c.jsl.ensures.needed
    c.refusal_line.result c.in-Err.fault c.refusal_line.ensures c.in-Err.ensures.did c.in-Err.ensures.meets
