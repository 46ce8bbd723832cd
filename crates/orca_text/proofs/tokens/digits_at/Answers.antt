use Rattle.std.proofs.Common.{◌≡◌, ◌+◌, ◌*◌}
use Rattle.std.specs.Char.{digit_value}
use Rattle.orca_text.proofs.Digits.{digits_step, digits_too_large}
use Rattle.orca_text.proofs.tokens.digits_at.Goals as goal

pub returns-then-next-gt4294967295 : goal.returns-then-next-gt4294967295
returns-then-next-gt4294967295 c =
    let digit : c.in-Some-digit.digit ≡ digit_value c.in-Some.byte.now = c.in-Some-digit.ensures.1 in
    let sum : c.from.result * c.from-in-Some.result + c.from-in-Some-2.result ≡ c.digits.value * c.args.base + digit_value c.in-Some.byte.now = cc in
    digits_too_large _ _ _ _ _ c.in-Some.byte.now c.digits.value _ c.requires.some c.digits.invariant c.in-Some.ensures.cases.0 c.in-Some-digit.ensures.0 sum c.if-next-gt4294967295.true c.after_digits.ensures

pub digits-preserved : goal.digits-preserved
digits-preserved c =
    let digit : c.in-Some-digit.digit ≡ digit_value c.in-Some.byte.now = c.in-Some-digit.ensures.1 in
    let sum : c.from.result * c.from-in-Some.result + c.from-in-Some-2.result ≡ c.digits.value * c.args.base + digit_value c.in-Some.byte.now = cc in
    digits_step _ _ _ _ c.in-Some.byte.now c.digits.value _ c.digits.invariant c.in-Some.ensures.cases.0 c.in-Some-digit.ensures.0 sum c.if-next-gt4294967295.false
