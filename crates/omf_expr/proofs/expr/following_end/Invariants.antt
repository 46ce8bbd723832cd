use Rattle.std.proofs.Common.{length}
use Rattle.omf_expr.proofs.ReadTerms.{Reads}
use Rattle.omf_expr.proofs.expr.following_end.Given as goal

abbrev pub invariant-terms : goal.invariant-terms
invariant-terms l = Reads l.lab_len l.bytes l.left l.pending

abbrev pub decreases-terms : goal.decreases-terms
decreases-terms l = length l.left
