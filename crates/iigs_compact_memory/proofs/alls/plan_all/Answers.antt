use Rattle.std.proofs.Common.{◌∙◌, arith}
use Rattle.std.proofs.lemmas.List.Sums.{count_by-le-length}
use Rattle.iigs_meaning.specs.Slots.{is_free}
use Rattle.iigs_compact_memory.proofs.Planning.{plan_handle, plan_more, plan_free, plan_lacks}
use Rattle.iigs_compact_memory.proofs.alls.plan_all.Goals as goal

pub plan_one-requires-clause-handle : goal.plan_one-requires-clause-handle
plan_one-requires-clause-handle c = plan_handle c.loop-place.plan.slots c.args.wants.now c.loop-place.place c.loop-place-test.true c.loop-place.invariant.free

pub overflow_cast-result : goal.overflow_cast-result
overflow_cast-result c = omega (arith, c.requires.free, count_by-le-length is_free c.args.plan.now.slots, c.know_arranged.ensures.count, c.loop-place-test.true)

pub returns-then-not-plan_one-clause-refused : goal.returns-then-not-plan_one-clause-refused
returns-then-not-plan_one-clause-refused c = (
  c.requires.free,
  plan_lacks c.args.plan.now.banks c.args.user c.args.plan.now.slots c.loop-place.plan.slots c.args.wants.now c.loop-place.place _ c.loop-place-test.true c.loop-place.invariant.done
      (rw c.loop-place.invariant.banks at (c.plan_one.ensures.no c.if-not-plan_one.true)),
)

pub loop-place-preserved : goal.loop-place-preserved
loop-place-preserved c =
    let one = rw c.loop-place.invariant.banks at (c.plan_one.ensures.yes c.if-not-plan_one.false) in
    record {
      done = plan_more c.args.plan.now.banks c.args.user c.args.plan.now.slots c.loop-place.plan.slots c.args.wants.now c.loop-place.place _ c.loop-place-test.true c.loop-place.invariant.done c.plan_one.new.plan.slots one;
      settled = c.plan_one.ensures.settled;
      free = plan_free c.args.plan.now.banks c.args.user c.args.plan.now.slots c.loop-place.plan.slots c.args.wants.now c.loop-place.place _ c.loop-place-test.true c.loop-place.invariant.free c.plan_one.new.plan.slots one;
      banks = c.plan_one.ensures.banks.0 ∙ c.loop-place.invariant.banks;
      trial = c.plan_one.ensures.banks.1 ∙ c.loop-place.invariant.banks;
    }
