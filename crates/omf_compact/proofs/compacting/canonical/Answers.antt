use Rattle.omf_compact.proofs.Refusals.{refused_by}
use Rattle.omf_compact.proofs.compacting.canonical.Goals as goal

pub returns-in-Err-clause-refused : goal.returns-in-Err-clause-refused
returns-in-Err-clause-refused c = refused_by c.in-Err.fault c.args.file.now c.of_load.result c.of_load.ensures c.in-Err.ensures.refused
