use Rattle.std.proofs.Common.{Option, None, refl, sym, subst}
use Rattle.loader_agrees.specs.Agrees.{Loaded}
use Rattle.omf_making.specs.declared.status.Status.TheVariants.{Done}
use Rattle.omf_cli.specs.Stress.{HasEnded}
use Rattle.omf_cli.proofs.Stressing.{ended_done, ended_other, ended_completes}
use Rattle.omf_cli.proofs.stress.run_stress.Goals as goal

pub returns-in-Done-clause-run : goal.returns-in-Done-clause-run
returns-in-Done-clause-run g c =
    let worked = c.in-Ok.run'.1 in
    ended_done c.args.n c.args.seed c.in-Ok.run'.0 worked.entered worked.refused worked.sum worked.loader (g.S.Sink.seen c.args.out.now) (g.S.Sink.seen c.print.new.out) c.in-Ok.ensures
    c.worked_line-line.result Done c.worked_line-line.ensures c.in-Done.ensures refl

pub returns-in_default : goal.returns-in_default
returns-in_default g c =
    let worked = c.in-Ok.run'.1 in
    let before = g.S.Sink.seen c.args.out.now in
    let now = g.S.Sink.seen c.print.new.out in
    let ended : HasEnded c.print.result c.args.n c.args.seed None before now =
    ended_other c.args.n c.args.seed c.in-Ok.run'.0 worked.entered worked.refused worked.sum worked.loader before now c.in-Ok.ensures c.worked_line-line.result c.print.result c.worked_line-line.ensures
    c.print.ensures c.in_default.not-Done in
    record {
      run = subst (λ (l : Option Loaded). HasEnded c.print.result c.args.n c.args.seed l before now) (sym c.requires.none) ended;
      completes = λ calm. ended_completes c.print.result c.args.n c.args.seed None before now ended calm;
    }
