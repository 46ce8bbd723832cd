use Rattle.std.proofs.Common.{◌∙◌, sym, arith}
use Rattle.iigs_places.proofs.Changed.{live_block}
use Rattle.iigs_places.proofs.Marked.{is_marked}
use Rattle.iigs_places.proofs.Sliding.{mark_there}
use Rattle.iigs_places.proofs.TriedSlide.{mark_stays_slid, mark_none_slid, mark_least_slid}
use Rattle.iigs_places.proofs.tried.slid_address.Goals as goal

pub held_in-requires-clause-place : goal.held_in-requires-clause-place
held_in-requires-clause-place c = (is_marked c.args.map.now c.args.table.now c.args.layout.now c.requires.arranged c.requires.laid).small c.args.mark c.requires.marked

pub held_in-requires-clause-there : goal.held_in-requires-clause-there
held_in-requires-clause-there c = mark_there c.args.table.now c.args.layout.now.marks.items c.requires.laid.have c.args.mark c.requires.marked

pub returns-then-not-can_be_moved-clause-slid : goal.returns-then-not-can_be_moved-clause-slid
returns-then-not-can_be_moved-clause-slid c = mark_stays_slid c.args.map.now c.args.table.now c.requires.arranged c.requires.settled c.args.layout.now.marks.items c.requires.laid.have c.args.mark c.requires.marked c.held_in.result.block
    (live_block c.args.table.now (record { slot = c.args.mark.slot; generation = c.held_in.result.generation }) c.held_in.result.block c.held_in.ensures) (sym c.can_be_moved.ensures ∙ c.if-not-can_be_moved.true)

pub returns-in-Some-clause-slid : goal.returns-in-Some-clause-slid
returns-in-Some-clause-slid c = mark_least_slid c.args.map.now c.args.table.now c.requires.arranged c.requires.settled c.args.layout.now.marks.items c.requires.laid.have c.args.mark c.requires.marked c.held_in.result.block
    (live_block c.args.table.now (record { slot = c.args.mark.slot; generation = c.held_in.result.generation }) c.held_in.result.block c.held_in.ensures) (sym c.can_be_moved.ensures ∙ c.if-not-can_be_moved.false)
    c.args.passed.now c.requires.passed c.in-Some.least c.in-Some.ensures c.min.result (omega (arith, c.min.ensures))

pub returns-in-None-clause-slid : goal.returns-in-None-clause-slid
returns-in-None-clause-slid c = mark_none_slid c.args.map.now c.args.table.now c.requires.arranged c.requires.settled c.args.layout.now.marks.items c.requires.laid.have c.args.mark c.requires.marked c.held_in.result.block
    (live_block c.args.table.now (record { slot = c.args.mark.slot; generation = c.held_in.result.generation }) c.held_in.result.block c.held_in.ensures) (sym c.can_be_moved.ensures ∙ c.if-not-can_be_moved.false)
    c.args.passed.now c.requires.passed c.in-None.ensures
