-- What a formula of a directive amounts to.
use Rattle.std.specs.Prelude.{ℕ, Ok, Err}
use Rattle.omf_format.specs.Expression.{Tree}
use Rattle.omf_format.specs.Field.{◌>>=◌}
use Rattle.asm_meaning.specs.Answer.{Answer}
use Rattle.asm_meaning.specs.Constant.{Constants, Amount, amount}
use Rattle.asm_meaning.specs.declared.faults.AsmCause.TheVariants.{UnknownConstant}
use Rattle.asm_meaning.specs.Formulas.{checked_formula}
use Rattle.orca_operands.specs.AmountView.{AmountBytes, Number, Text}

-- the amount of a formula that isn't too deep and has no number that is too large
abbrev pub judged_amount : Constants → Tree → Answer Amount
judged_amount constants tree = checked_formula tree >>= amount constants

-- the number, where one is needed
abbrev pub needed_kept : AmountBytes → Answer ℕ
needed_kept (Number n) = Ok n
needed_kept (Text bytes) = Err UnknownConstant
