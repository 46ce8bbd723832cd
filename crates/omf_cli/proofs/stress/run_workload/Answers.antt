use Rattle.std.proofs.Common.{ℕ, sym, subst}
use Rattle.omf_cli.specs.Stress.{RunsTo}
use Rattle.omf_cli.proofs.Stressing.{runs_to}
use Rattle.omf_cli.proofs.stress.run_workload.Goals as goal

pub returns : goal.returns
returns c =
    let worked = c.in_ok-worked.worked in
    subst (λ (k : ℕ). RunsTo c.args.n c.args.seed worked.loader k worked.entered worked.refused worked.sum) (sym c.from.ensures)
    (runs_to c.args.n c.args.seed c.in_ok-files.count worked.entered worked.refused worked.sum c.object.new.draws.last worked.loader c.in_ok-object.object.items c.in_ok-files.files.files
    c.in_ok-object.ensures.made c.in_ok-files.ensures.store c.in_ok-object.ensures.following c.in_ok-worked.ensures)
