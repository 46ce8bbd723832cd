use Rattle.std.proofs.Common.{refl, sym, subst}
use Rattle.omf_io.specs.Files.{FileMap}
use Rattle.workload.specs.declared.rounds.Counts.{Counts}
use Rattle.workload.specs.Answering.{AreDone, front_of}
use Rattle.workload.proofs.Steps.{first_done}
use Rattle.workload.proofs.working.work.Goals as goal

pub rounds-requires-clause-loaded : goal.rounds-requires-clause-loaded
rounds-requires-clause-loaded c =
    let none : Counts = record { entered = 0; refused = 0 } in
    subst (λ (files : FileMap). AreDone files (front_of c.args.n c.args.draws.now.last 0) c.count.new.self c.load.new.loader) (sym c.load.ensures.held)
    (first_done c.args.files.now.files c.args.n c.args.draws.now.last none c.count.new.self c.in_ok-loader.loader c.load.new.loader c.in_ok-outcome.outcome refl refl
    (c.in_ok-loader.ensures c.args.files.now.files) c.in_ok-outcome.ensures.done c.count.ensures.counted)
