use Rattle.std.proofs.Common.{arith, refl}
use Rattle.orca_text.specs.View.{line}
use Rattle.orca_macro.proofs.Sources.{to_all, to_more}
use Rattle.orca_macro.proofs.untouched.are_untouched.Goals as goal

pub returns : goal.returns
returns c = λ _.
    to_all c.args.lines.now c.lines.at c.lines.invariant (omega (arith, c.count-count.ensures, c.lines-test.false)) (omega (arith, c.count-count.ensures, c.if-count-gt-MOST_VISITS.false))

pub lines-preserved : goal.lines-preserved
lines-preserved c = to_more c.args.lines.now c.lines.at (line c.in-Some.line.now) c.lines.invariant c.in-Some.ensures.line (c.if-not-is_untouched.ensures refl)
