use Rattle.loader_replies.proofs.Reading.{active_segment, no_segment}
use Rattle.loader_replies.proofs.calls.load_segment.Goals as goal

pub returns-in-Ok : goal.returns-in-Ok
returns-in-Ok g c =
    active_segment c.args.loader.now c.load_segment.new.self c.args.user c.args.segment (g.F.Files.seen c.args.files.now) (g.F.Files.seen c.load_segment.new.files) c.load_segment.ensures.held c.load_segment.ensures.asked c.load_segment.ensures.unasked c.load_segment.ensures.refused_unasked c.load_segment.ensures.needed
    c.active_line.result c.in-Ok.address c.active_line.ensures c.in-Ok.ensures.did c.in-Ok.ensures.meets

pub returns-in-Err : goal.returns-in-Err
returns-in-Err g c =
    no_segment c.args.loader.now c.load_segment.new.self c.args.user c.args.segment (g.F.Files.seen c.args.files.now) (g.F.Files.seen c.load_segment.new.files) c.load_segment.ensures.held c.load_segment.ensures.asked c.load_segment.ensures.unasked c.load_segment.ensures.refused_unasked c.load_segment.ensures.needed
    c.refusal_line.result c.in-Err.fault c.refusal_line.ensures c.in-Err.ensures.did c.in-Err.ensures.meets
