use Rattle.std.proofs.Common.{◌+◌, add-one, arith}
use Rattle.iigs_places.proofs.Sliding.{mark_sized}
use Rattle.iigs_places.proofs.NoSlide.{fixed_later, fixed_more}
use Rattle.iigs_places.proofs.fixed.add_fixed.Goals as goal

pub is_fixed-requires-clause-fixed : goal.is_fixed-requires-clause-fixed
is_fixed-requires-clause-fixed c = rw c.deref.ensures.value c.requires.fixed

pub returns-then-not-is_fixed-clause-fixed : goal.returns-then-not-is_fixed-clause-fixed
returns-then-not-is_fixed-clause-fixed c = fixed_later c.args.map.now c.args.table.now c.args.mark.at (c.args.mark.at + 1) (omega arith) c.args.fixed.now.items c.requires.fixed

pub add_run-requires-clause-runs : goal.add_run-requires-clause-runs
add_run-requires-clause-runs c = c.requires.fixed.are

pub add_run-requires-clause-some : goal.add_run-requires-clause-some
add_run-requires-clause-some c = (mark_sized c.args.table.now c.args.layout.now.marks.items c.requires.arranged.bounded c.requires.laid.have c.args.mark c.requires.marked).0

pub add_run-requires-clause-ends : goal.add_run-requires-clause-ends
add_run-requires-clause-ends c = (mark_sized c.args.table.now c.args.layout.now.marks.items c.requires.arranged.bounded c.requires.laid.have c.args.mark c.requires.marked).1

pub returns-clause-fixed : goal.returns-clause-fixed
returns-clause-fixed c = rw add-one (fixed_more c.args.map.now c.args.table.now c.args.layout.now.marks.items c.requires.laid.have c.args.mark c.requires.marked (c.is_fixed.ensures c.if-not-is_fixed.false)
    c.args.fixed.now.items c.add_run.new.runs.items c.requires.fixed c.add_run.ensures.runs c.add_run.ensures.added)
