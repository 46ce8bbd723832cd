use Rattle.omf_base.proofs.Hex.{first_digit, not_first, next_digit, all_digits}
use Rattle.std.proofs.Common.{◌-◌, ◌<◌, arith}
use Rattle.omf_base.proofs.line.hex_places.Goals as goal

pub digits-init : goal.digits-init
digits-init c = first_digit c.args.value c.hex_digit.result c.ranges.value.fits c.hex_digit.ensures

pub digits-preserved : goal.digits-preserved
digits-preserved c =
    let holds = c.digits.invariant in
    let above : 0 < c.digits.from = not_first holds c.digits-test.true in
    next_digit (c.digits.from - 1) c.hex_digit-in-digits.result (omega arith) holds c.digits-test.true c.hex_digit-in-digits.ensures

pub returns-clause-shown : goal.returns-clause-shown
returns-clause-shown c = all_digits c.digits.invariant c.digits-test.false
