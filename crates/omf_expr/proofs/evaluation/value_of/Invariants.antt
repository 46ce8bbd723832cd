use Rattle.std.proofs.Common.{length}
use Rattle.omf_expr.proofs.Evaluating.{Going}
use Rattle.omf_expr.proofs.evaluation.value_of.Given as goal

abbrev pub invariant-terms : goal.invariant-terms
invariant-terms g l = Going (g.E.Env.meaning l.env) l.lab_len l.bytes l.left l.pending

abbrev pub decreases-terms : goal.decreases-terms
decreases-terms g l = length l.left
