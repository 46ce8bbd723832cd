use Rattle.std.proofs.Common.{length}
use Rattle.w65_list.specs.RunView.{IsOn, widths_view}
use Rattle.w65_list.proofs.run.put_rest.Given as goal

-- the lines of what is left are the lines that are left
abbrev pub invariant-instructions : goal.invariant-instructions
invariant-instructions l = IsOn (widths_view l.fn.widths) l.fn.run l.fn.out (widths_view l.widths) l.left l.out

abbrev pub decreases-instructions : goal.decreases-instructions
decreases-instructions l = length l.left
