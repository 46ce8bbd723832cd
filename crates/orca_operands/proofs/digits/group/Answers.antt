use Rattle.std.proofs.Common.{◌-◌, arith}
use Rattle.orca_operands.proofs.Packed.{group_more, value_small, product_small}
use Rattle.orca_operands.proofs.digits.group.Goals as goal

pub digits-preserved-in-Some : goal.digits-preserved-in-Some
digits-preserved-in-Some c =
    group_more c.args.base c.args.each c.args.digits.now c.digits.left.now c.in-Some.following.now c.in-Some.byte.now c.digits.value c.digits.count (c.digits.count - 1) c.digit_of-more.result (omega arith) c.in-Some.ensures.cases.0
    c.digit_of-more.ensures.value c.digits.invariant

pub overflow_mul-value-in-None : goal.overflow_mul-value-in-None
overflow_mul-value-in-None c =
    let most = product_small c.args.base c.args.each c.args.digits.now c.digits.left.now c.digits.value c.digits.count c.requires.base c.requires.whole c.requires.digits c.digits.invariant in
    record { fits = omega (arith, most) }

pub overflow_cast-result : goal.overflow_cast-result
overflow_cast-result c =
    let small = value_small c.args.base c.args.each c.args.digits.now c.digits.left.now c.digits.value c.digits.count c.requires.base.0 c.requires.whole c.requires.digits c.digits.invariant in
    record { fits = omega (arith, small) }

pub overflow_mul-value : goal.overflow_mul-value
overflow_mul-value c =
    let most = product_small c.args.base c.args.each c.args.digits.now c.digits.left.now c.digits.value c.digits.count c.requires.base c.requires.whole c.requires.digits c.digits.invariant in
    record { fits = omega (arith, most) }

pub overflow_add-value : goal.overflow_add-value
overflow_add-value c =
    let most = product_small c.args.base c.args.each c.args.digits.now c.digits.left.now c.digits.value c.digits.count c.requires.base c.requires.whole c.requires.digits c.digits.invariant in
    record { fits = omega (arith, most, c.digit_of-more.ensures.small) }
