use Rattle.std.proofs.Common.{[], add-one, sym, arith}
use Rattle.iigs_compact_memory.proofs.Moved.{count_none}
use Rattle.iigs_compact_memory.proofs.Carrying.{there_before, carried_none, can_carry, carried_step, carried_count, carried_all}
use Rattle.iigs_compact_memory.proofs.Making.{kept_same, kept_twice}
use Rattle.iigs_compact_memory.proofs.carry.carry_out.Goals as goal

pub loop-first-init : goal.loop-first-init
loop-first-init c = record {
  carried = carried_none c.args.banks.now.slots c.args.plan.now.slots;
  kept = kept_same c.args.banks.now;
  count = sym (count_none c.args.banks.now.slots);
  small = omega arith;
  within = omega arith;
}

pub carry-moved-requires : goal.carry-moved-requires
carry-moved-requires c = record {
  can = rw c.loop-first.invariant.kept.banks (can_carry c.args.banks.now.banks c.args.banks.now.slots c.args.plan.now.slots c.loop-first.banks.slots c.requires.apart c.requires.settled c.requires.planned
      c.loop-first.limit c.loop-first.invariant.carried c.in-Some.first (rw c.places.ensures at c.in-Some.ensures.found));
}

pub loop-first-preserved : goal.loop-first-preserved
loop-first-preserved c =
    let first = rw c.places.ensures at c.in-Some.ensures.found in
    record {
      carried = rw (add-one, c.carry-moved.ensures.carried) (carried_step c.args.banks.now.banks c.args.banks.now.slots c.args.plan.now.slots c.loop-first.banks.slots c.requires.apart c.requires.settled c.requires.planned
          c.loop-first.limit c.loop-first.invariant.carried c.in-Some.first first);
      kept = kept_twice c.args.banks.now c.loop-first.banks c.carry-moved.new.banks [] c.loop-first.invariant.kept c.carry-moved.ensures.kept
          (λ place out some. there_before c.args.banks.now.banks c.loop-first.banks.slots c.args.plan.now.slots c.in-Some.first.handle c.in-Some.first.at
          (can_carry c.args.banks.now.banks c.args.banks.now.slots c.args.plan.now.slots c.loop-first.banks.slots c.requires.apart c.requires.settled c.requires.planned
          c.loop-first.limit c.loop-first.invariant.carried c.in-Some.first first) place (rw c.carry-moved.ensures.carried at some));
      count = rw (c.carry-moved.ensures.moved, c.loop-first.invariant.count, c.carry-moved.ensures.carried) (sym (carried_count c.args.banks.now.banks c.args.banks.now.slots c.args.plan.now.slots c.loop-first.banks.slots
          c.requires.apart c.requires.settled c.requires.planned c.loop-first.limit c.loop-first.invariant.carried c.in-Some.first first));
      small = omega (arith, c.loop-first.invariant.small, c.carry-moved.ensures.one, first.from);
      within = omega (arith, c.in-Some.ensures.small);
    }

pub loop-first-smaller : goal.loop-first-smaller
loop-first-smaller c =
    let first = rw c.places.ensures at c.in-Some.ensures.found in
    omega (arith, c.in-Some.ensures.small, first.from)

pub returns-clause-slots : goal.returns-clause-slots
returns-clause-slots c = carried_all c.args.banks.now.banks c.args.banks.now.slots c.args.plan.now.slots c.loop-first.banks.slots c.requires.apart c.requires.settled c.requires.planned
    c.loop-first.limit c.loop-first.invariant.carried (rw c.places.ensures at c.in_default.ensures.found)
