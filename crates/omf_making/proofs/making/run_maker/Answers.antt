use Rattle.omf_making.specs.Words.{words_of}
use Rattle.omf_io.specs.Outside.{outside}
use Rattle.omf_making.proofs.Runs.{makes_run}
use Rattle.omf_making.proofs.Completes.{completes}
use Rattle.omf_making.proofs.making.run_maker.Goals as goal

pub returns-clause-run : goal.returns-clause-run
returns-clause-run g c =
    makes_run (g.M.Maker.makes c.args.maker.now) _ (words_of c.args.inputs.now) c.make_all-end.result c.report.result
    (outside (g.F.Files.seen c.args.files.now) (g.F.Files.seen c.make_all-end.new.files) (g.S.Sink.seen c.args.out.now) (g.S.Sink.seen c.report.new.out))
    c.make_all-end.ensures c.report.ensures

pub returns-clause-completes : goal.returns-clause-completes
returns-clause-completes g c =
    completes (g.M.Maker.makes c.args.maker.now) _ (words_of c.args.inputs.now) c.report.result
    (outside (g.F.Files.seen c.args.files.now) (g.F.Files.seen c.make_all-end.new.files) (g.S.Sink.seen c.args.out.now) (g.S.Sink.seen c.report.new.out))
    (makes_run (g.M.Maker.makes c.args.maker.now) _ (words_of c.args.inputs.now) c.make_all-end.result c.report.result
    (outside (g.F.Files.seen c.args.files.now) (g.F.Files.seen c.make_all-end.new.files) (g.S.Sink.seen c.args.out.now) (g.S.Sink.seen c.report.new.out))
    c.make_all-end.ensures c.report.ensures)
