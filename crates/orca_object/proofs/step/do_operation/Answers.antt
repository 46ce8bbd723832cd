use Rattle.std.proofs.Common.{Some, ap, ◌∙◌}
use Rattle.orca_meaning.specs.Line.{part}
use Rattle.orca_object.proofs.StepLaws.{instruct_is}
use Rattle.orca_object.proofs.step.do_operation.Goals as goal

pub do_instruct-requires-clause-mnemonic : goal.do_instruct-requires-clause-mnemonic
do_instruct-requires-clause-mnemonic c = instruct_is (part c.args.of.now.line.text c.args.of.now.line.operation) c.in-Instruct.mnemonic (c.requires.is ∙ ap Some c.in-Instruct.is)
