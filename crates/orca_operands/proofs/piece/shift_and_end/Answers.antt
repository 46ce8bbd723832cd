use Rattle.std.proofs.Common.{arith}
use Rattle.orca_operands.proofs.Ends.{end_plain, end_shifted}
use Rattle.orca_operands.proofs.piece.shift_and_end.Goals as goal

pub returns-then-shift-eq0 : goal.returns-then-shift-eq0
returns-then-shift-eq0 c = end_plain c.args.text.items c.push.new.self.items c.args.shift c.if-shift-eq0.true c.in_ok-push.ensures.items

pub returns : goal.returns
returns c =
    end_shifted c.args.text.items c.put_constant.new.out.items c.put_operator.new.out.items c.push-2.new.self.items c.args.shift _ c.if-shift-eq0.false (omega (arith, c.from.ensures, c.ranges.shift.fits, c.if-shift-eq0.false))
    c.in_ok-put_constant.ensures c.in_ok-put_operator.ensures c.in_ok-push-2.ensures.items
