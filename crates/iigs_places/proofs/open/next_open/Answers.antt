use Rattle.std.proofs.Common.{arith}
use Rattle.iigs_places.proofs.Bars.{none_open_to, none_open_past}
use Rattle.iigs_places.proofs.open.next_open.Goals as goal

pub returns-then-from : goal.returns-then-from
returns-then-from c = none_open_past c.args.map.now c.args.want.now c.args.from c.loop-place.at c.in-Some.place
    c.loop-place.invariant.2 c.in-Some.ensures c.limit-limit.ensures.banks c.requires.want.some (omega (arith, c.limit-limit.ensures.value))

pub loop-place-preserved : goal.loop-place-preserved
loop-place-preserved c = (
  omega (arith, c.in-Some.ensures.after, c.in-Some-next_clear_address.ensures.after),
  c.in-Some-next_clear_address.ensures.limit,
  none_open_to c.args.map.now c.args.want.now c.args.from c.loop-place.at c.in-Some.place c.in-Some-next_clear_address.later
      c.loop-place.invariant.2 c.in-Some.ensures c.in-Some-next_clear_address.ensures,
)
