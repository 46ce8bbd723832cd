use Rattle.std.proofs.Common.{arith, subst, ℕ}
use Rattle.iigs_places.specs.Spots.{IsLeastAmong}
use Rattle.iigs_places.proofs.Fewest.{limit_zero, fits_with_none, some_turns, fewest_here, fewest_none}
use Rattle.iigs_places.proofs.search.fewest_purges.Goals as goal

pub returns-in-Some : goal.returns-in-Some
returns-in-Some c = fewest_none c.args.map.now c.args.want.now c.args.spots.now c.args.turns.now c.in-Some.at c.in-Some.ensures

pub returns-in_default-least_among : goal.returns-in_default-least_among
returns-in_default-least_among c = fits_with_none c.args.map.now c.args.want.now c.args.spots.now c.args.turns.now c.limit_at-all.result
    c.requires.rises c.limit_at-all.ensures c.in_default-least_among.ensures

pub loop-count-init : goal.loop-count-init
loop-count-init c = (
  omega arith,
  some_turns c.args.map.now c.args.want.now c.args.spots.now c.args.turns.now c.limit_at-all.result c.in-Some-least_among.at c.limit_at-all.ensures c.in-Some-least_among.ensures.fits c.in_default.ensures,
  subst (λ (l : ℕ). IsLeastAmong c.args.map.now c.args.want.now c.args.spots.now l c.in-Some-least_among.at) c.limit_at-all.ensures c.in-Some-least_among.ensures,
  rw limit_zero c.in_default.ensures,
)

pub returns : goal.returns
returns c = fewest_here c.args.map.now c.args.want.now c.args.spots.now c.args.turns.now c.loop-count.none c.loop-count.count c.limit_at-2.result c.loop-count.at
    c.requires.rises c.limit_at-2.ensures c.loop-count.invariant.0 (omega (arith, c.loop-count-test.false)) c.loop-count.invariant.1 c.loop-count.invariant.2 c.loop-count.invariant.3
