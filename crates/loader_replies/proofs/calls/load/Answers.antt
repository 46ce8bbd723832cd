use Rattle.loader_replies.proofs.Loads.{load_started, load_refused}
use Rattle.loader_replies.proofs.calls.load.Goals as goal

pub returns-in-Ok : goal.returns-in-Ok
returns-in-Ok g c =
    rw (← c.path_of.ensures)
    (load_started c.args.loader.now c.load.new.self c.path_of.result.now (g.F.Files.seen c.args.files.now) (g.F.Files.seen c.load.new.files) c.load.ensures.held
    c.started_line.result c.in-Ok.started c.started_line.ensures c.in-Ok.ensures.loaded c.in-Ok.ensures.needed)

pub returns-in-Err : goal.returns-in-Err
returns-in-Err g c =
    rw (← c.path_of.ensures)
    (load_refused c.args.loader.now c.load.new.self c.path_of.result.now (g.F.Files.seen c.args.files.now) (g.F.Files.seen c.load.new.files) c.load.ensures.held
    c.refusal_line.result c.in-Err.fault c.refusal_line.ensures c.in-Err.ensures.loaded c.in-Err.ensures.needed)
