use Rattle.omf_expr.proofs.TermRuns.{left_all}
use Rattle.omf_expr.proofs.terms.Terms.of.Goals as goal

pub invariant_of-result : goal.invariant_of-result
invariant_of-result c = left_all c.args.lab_len c.args.text.now c.requires
