use Rattle.std.proofs.Common.{sym}
use Rattle.omf_c_files.proofs.Runtimes.{callable_more, callable_not}
use Rattle.omf_c_files.proofs.parts.is_runtime.Goals as goal

pub returns-then-not-is_callable : goal.returns-then-not-is_callable
returns-then-not-is_callable c = sym (callable_not c.args.load.now c.loop-k.k c.is_callable.result c.is_callable.ensures c.if-not-is_callable.true)

pub loop-k-preserved : goal.loop-k-preserved
loop-k-preserved c = callable_more c.args.load.now c.loop-k.k c.is_callable.result c.is_callable.ensures c.if-not-is_callable.false c.loop-k.invariant
