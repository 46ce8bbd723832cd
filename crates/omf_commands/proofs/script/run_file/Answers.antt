use Rattle.omf_making.specs.Words.{words_of}
use Rattle.omf_io.specs.Outside.{outside}
use Rattle.omf_commands.proofs.Completes.{script_completes}
use Rattle.omf_commands.proofs.script.run_file.Goals as goal

pub returns-clause-completes : goal.returns-clause-completes
returns-clause-completes g c =
    script_completes (words_of c.args.inputs.now) c.read_and_run.result c.read_and_run.new.last
    (outside (g.F.Files.seen c.args.files.now) (g.F.Files.seen c.read_and_run.new.files) (g.S.Sink.seen c.args.out.now) (g.S.Sink.seen c.read_and_run.new.out))
    c.read_and_run.ensures
