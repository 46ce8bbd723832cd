-- Texts whose value rests on no symbol.
use Rattle.std.specs.Prelude.{ℕ, List, Ok}
use Rattle.macro_meaning.specs.Condition.{IsNumber}
use Rattle.macro_meaning.specs.Symbol.{Values}

-- whatever is declared, the text is a formula of this value
pub record HasNumber (text : List ℕ) (n : ℕ) : Type 0 where
  pub is : (values : Values) → IsNumber values text (Ok n)
