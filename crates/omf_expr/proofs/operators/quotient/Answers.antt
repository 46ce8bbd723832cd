use Rattle.omf_expr.proofs.Quotient.{quotient_is}
use Rattle.omf_expr.proofs.operators.quotient.Goals as goal

pub returns : goal.returns
returns c =
    quotient_is c.args.a c.args.b c.cast_unsigned.result c.cast_signed.result c.cast_signed-2.result c.wrapping_div-quotient.result
    c.ranges.a c.ranges.b c.cast_signed.ensures c.cast_signed-2.ensures c.wrapping_div-quotient.ensures c.cast_unsigned.ensures
