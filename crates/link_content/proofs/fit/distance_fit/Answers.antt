use Rattle.std.proofs.Common.{◌+◌, ◌-◌, arith}
use Rattle.std.proofs.Math.Nat.{mod-lt}
use Rattle.link_content.proofs.fit.distance_fit.Goals as goal

pub overflow_add-result : goal.overflow_add-result
overflow_add-result c = omega (arith, c.ranges.to.fits, c.from-to.ensures, c.numbers_of-numbers.ensures.fits)

pub overflow_cast-result : goal.overflow_cast-result
overflow_cast-result c =
    omega (arith, mod-lt (c.from-to.result + c.numbers_of-numbers.result - c.args.from) c.numbers_of-numbers.ensures.some, c.numbers_of-numbers.ensures.fits)
