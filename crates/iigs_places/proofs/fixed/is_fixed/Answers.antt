use Rattle.std.proofs.Common.{◌∙◌, sym}
use Rattle.std.proofs.lemmas.Bool.{eqb-true}
use Rattle.iigs_places.proofs.Changed.{live_block}
use Rattle.iigs_places.proofs.Marked.{is_marked}
use Rattle.iigs_places.proofs.Sliding.{mark_there}
use Rattle.iigs_places.proofs.NoSlide.{mark_stays, mark_least}
use Rattle.iigs_places.proofs.fixed.is_fixed.Goals as goal

pub held_in-requires-clause-place : goal.held_in-requires-clause-place
held_in-requires-clause-place c = (is_marked c.args.map.now c.args.table.now c.args.layout.now c.requires.arranged c.requires.laid).small c.args.mark c.requires.marked

pub held_in-requires-clause-there : goal.held_in-requires-clause-there
held_in-requires-clause-there c = mark_there c.args.table.now c.args.layout.now.marks.items c.requires.laid.have c.args.mark c.requires.marked

pub returns-then-not-can_be_moved : goal.returns-then-not-can_be_moved
returns-then-not-can_be_moved c = λ yes. mark_stays c.args.map.now c.args.table.now c.requires.arranged.bounded c.args.layout.now.marks.items c.requires.laid.have c.args.mark c.requires.marked c.held_in.result.block
    (live_block c.args.table.now (record { slot = c.args.mark.slot; generation = c.held_in.result.generation }) c.held_in.result.block c.held_in.ensures) (sym c.can_be_moved.ensures ∙ c.if-not-can_be_moved.true)

pub returns-in-Some : goal.returns-in-Some
returns-in-Some c = λ yes. mark_least c.args.map.now c.args.table.now c.requires.arranged.bounded c.args.layout.now.marks.items c.requires.laid.have c.args.mark c.requires.marked c.held_in.result.block
    (live_block c.args.table.now (record { slot = c.args.mark.slot; generation = c.held_in.result.generation }) c.held_in.result.block c.held_in.ensures) (sym c.can_be_moved.ensures ∙ c.if-not-can_be_moved.false)
    c.args.fixed.now c.requires.fixed c.in-Some.least c.in-Some.ensures (eqb-true c.in-Some.least c.args.mark.at yes)
