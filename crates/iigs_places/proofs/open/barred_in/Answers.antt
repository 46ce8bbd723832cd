use Rattle.std.proofs.Common.{arith}
use Rattle.iigs_places.proofs.Bars.{barred_none, barred_from, barred_to, clear_in}
use Rattle.iigs_places.proofs.open.barred_in.Goals as goal

pub returns-in_default : goal.returns-in_default
returns-in_default c = barred_none c.args.map.now c.args.want.now c.args.bank c.args.at c.args.end
    (record { small = c.requires.bank; ends = c.requires.end; first = c.requires.first; last = c.requires.last; some = c.requires.some }) c.in_default.ensures

pub returns-then-max-start : goal.returns-then-max-start
returns-then-max-start c = barred_from c.args.map.now c.args.want.now c.args.bank c.args.at c.args.end
    (record { small = c.requires.bank; ends = c.requires.end; first = c.requires.first; last = c.requires.last; some = c.requires.some })
    c.in-Some.span c.in-Some.ensures (omega (arith, c.max.ensures))

pub returns-then-start-span : goal.returns-then-start-span
returns-then-start-span c = barred_to c.args.map.now c.args.want.now c.args.bank c.args.at c.args.end
    (record { small = c.requires.bank; ends = c.requires.end; first = c.requires.first; last = c.requires.last; some = c.requires.some })
    c.in-Some.span c.in-Some.ensures (omega (arith, c.min.ensures))

pub returns : goal.returns
returns c = clear_in c.args.map.now c.args.want.now c.args.bank c.args.at c.args.end
    (record { small = c.requires.bank; ends = c.requires.end; first = c.requires.first; last = c.requires.last; some = c.requires.some })
    c.in-Some.span c.in-Some.ensures (omega (arith, c.max.ensures)) (omega (arith, c.min.ensures))
