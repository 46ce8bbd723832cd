use Rattle.std.proofs.Common.{arith}
use Rattle.script_text.proofs.Digits.{digits_fit, one_more}
use Rattle.script_text.proofs.numbers.hex_number.Goals as goal

pub overflow_mul-value : goal.overflow_mul-value
overflow_mul-value c = omega (arith, digits_fit c.args.word.now c.digits.byte-index c.digits.value c.digits.invariant c.digits-test.true c.requires)

pub overflow_add-value : goal.overflow_add-value
overflow_add-value c =
    omega (arith, digits_fit c.args.word.now c.digits.byte-index c.digits.value c.digits.invariant c.digits-test.true c.requires, c.in_ok-digit.ensures.small)

pub digits-preserved : goal.digits-preserved
digits-preserved c =
    one_more c.args.word.now c.digits.byte-index c.digits.value c.in_ok-digit.digit c.digits.invariant c.digits-test.true
    c.in_ok-digit.ensures.value.0 c.in_ok-digit.ensures.value.1 c.in_ok-digit.ensures.small
