use Rattle.std.proofs.Common.{◌∙◌, sym, arith}
use Rattle.iigs_places.proofs.Marked.{is_marked}
use Rattle.iigs_places.proofs.Sliding.{mark_there, held_want, held_at, held_stays, held_fits, held_low, held_small, held_here, held_sinks, held_arranged}
use Rattle.iigs_places.proofs.slide.slide_block.Goals as goal

pub held_in-held-requires-clause-place : goal.held_in-held-requires-clause-place
held_in-held-requires-clause-place c = (is_marked c.args.map.now c.args.table.now c.args.layout.now c.requires.arranged c.requires.laid).small c.args.mark c.requires.marked

pub held_in-held-requires-clause-there : goal.held_in-held-requires-clause-there
held_in-held-requires-clause-there c = mark_there c.args.table.now c.args.layout.now.marks.items c.requires.laid.have c.args.mark c.requires.marked

pub returns-then-not-can_be_moved-clause-sinks : goal.returns-then-not-can_be_moved-clause-sinks
returns-then-not-can_be_moved-clause-sinks c = held_stays c.args.map.now c.args.table.now c.requires.arranged c.requires.settled c.args.layout.now.marks.items c.requires.laid.have c.args.mark c.requires.marked c.held_in-held.result.generation c.held_in-held.result.block c.held_in-held.ensures
    (sym c.can_be_moved.ensures ∙ c.if-not-can_be_moved.true)

pub least_among-requires-clause-want : goal.least_among-requires-clause-want
least_among-requires-clause-want c = held_want c.args.map.now c.args.table.now c.requires.arranged c.requires.settled c.args.layout.now.marks.items c.requires.laid.have c.args.mark c.requires.marked c.held_in-held.result.generation c.held_in-held.result.block c.held_in-held.ensures

pub least_among-requires-clause-order : goal.least_among-requires-clause-order
least_among-requires-clause-order c = c.requires.passed.are.order

pub least_among-requires-clause-ends : goal.least_among-requires-clause-ends
least_among-requires-clause-ends c = c.requires.passed.are.ends

pub unreachable-requires : goal.unreachable-requires
unreachable-requires c = c.in_default.ensures c.args.mark.at (held_fits c.args.map.now c.args.table.now c.requires.arranged c.requires.settled c.args.layout.now.marks.items c.requires.laid.have c.args.mark c.requires.marked c.held_in-held.result.generation c.held_in-held.result.block c.held_in-held.ensures
    c.args.passed.now c.requires.passed)

pub returns-then-to-mark-clause-sinks : goal.returns-then-to-mark-clause-sinks
returns-then-to-mark-clause-sinks c = held_here c.args.map.now c.args.table.now c.requires.arranged c.requires.settled c.args.layout.now.marks.items c.requires.laid.have c.args.mark c.requires.marked c.held_in-held.result.generation c.held_in-held.result.block c.held_in-held.ensures
    c.args.passed.now c.requires.passed c.in-Some.to c.in-Some.ensures (sym c.can_be_moved.ensures ∙ c.if-not-can_be_moved.false) (omega (arith, c.if-to-mark.true))

pub move_to-requires-clause-live : goal.move_to-requires-clause-live
move_to-requires-clause-live c = c.held_in-held.ensures

pub move_to-requires-clause-there : goal.move_to-requires-clause-there
move_to-requires-clause-there c = held_at c.args.map.now c.args.table.now c.requires.arranged c.requires.settled c.args.layout.now.marks.items c.requires.laid.have c.args.mark c.requires.marked c.held_in-held.result.generation c.held_in-held.result.block c.held_in-held.ensures

pub move_to-requires-clause-small : goal.move_to-requires-clause-small
move_to-requires-clause-small c = held_small c.args.map.now c.args.table.now c.requires.arranged c.requires.settled c.args.layout.now.marks.items c.requires.laid.have c.args.mark c.requires.marked c.held_in-held.result.generation c.held_in-held.result.block c.held_in-held.ensures
    c.args.passed.now c.requires.passed c.in-Some.to c.in-Some.ensures

pub returns-clause-sinks : goal.returns-clause-sinks
returns-clause-sinks c = held_sinks c.args.map.now c.args.table.now c.requires.arranged c.requires.settled c.args.layout.now.marks.items c.requires.laid.have c.args.mark c.requires.marked c.held_in-held.result.generation c.held_in-held.result.block c.held_in-held.ensures
    c.args.passed.now c.requires.passed c.in-Some.to c.in-Some.ensures (sym c.can_be_moved.ensures ∙ c.if-not-can_be_moved.false) c.move_to.new.table c.move_to.ensures.table

pub returns-clause-low : goal.returns-clause-low
returns-clause-low c = held_low c.args.map.now c.args.table.now c.requires.arranged c.requires.settled c.args.layout.now.marks.items c.requires.laid.have c.args.mark c.requires.marked c.held_in-held.result.generation c.held_in-held.result.block c.held_in-held.ensures
    c.args.passed.now c.requires.passed c.in-Some.to c.in-Some.ensures

pub returns-clause-arranged : goal.returns-clause-arranged
returns-clause-arranged c = held_arranged c.args.map.now c.args.table.now c.requires.arranged c.requires.settled c.args.layout.now.marks.items c.requires.laid.have c.args.mark c.requires.marked c.held_in-held.result.generation c.held_in-held.result.block c.held_in-held.ensures
    c.args.passed.now c.requires.passed c.in-Some.to c.in-Some.ensures c.move_to.new.table c.move_to.ensures.table
