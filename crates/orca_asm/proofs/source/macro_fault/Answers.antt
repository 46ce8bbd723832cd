use Rattle.orca_asm.proofs.Sources.{expansion_fault}
use Rattle.orca_asm.proofs.source.macro_fault.Goals as goal

pub returns-clause-reported : goal.returns-clause-reported
returns-clause-reported c = λ source macros e. expansion_fault source macros c.args.fault c.cause_of.result c.cause_of.ensures e
