use Rattle.std.proofs.Common.{arith}
use Rattle.omf_cli.proofs.Stressing.{short_file, few_segments, no_fault}
use Rattle.omf_cli.proofs.stress.count_of.Goals as goal

pub segments-requires : goal.segments-requires
segments-requires c = short_file c.args.object.now c.args.file.now c.requires

pub overflow_cast-result : goal.overflow_cast-result
overflow_cast-result c = omega (arith, c.count.ensures, few_segments c.args.object.now c.args.file.now _ c.recall_bytes.ensures c.requires c.in-Ok.ensures.found)

pub returns-in-Ok-clause-few : goal.returns-in-Ok-clause-few
returns-in-Ok-clause-few c = omega (arith, c.count.ensures, few_segments c.args.object.now c.args.file.now _ c.recall_bytes.ensures c.requires c.in-Ok.ensures.found)

pub unreachable-requires : goal.unreachable-requires
unreachable-requires c = no_fault c.args.object.now c.args.file.now c.in-Err.fault c.recall_bytes.ensures c.requires c.in-Err.ensures.refused c.in_default.not-Memory
