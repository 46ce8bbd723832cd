-- Short formulas: their tokens, and what they mean.
use Rattle.std.specs.Prelude.{ℕ, ◌<◌, ◌^◌, true, List, [], ◌∷◌}
use Rattle.omf_format.specs.Expression.{Tree, Leaf, Binary, Constant}
use Rattle.orca_meaning.specs.declared.operators.Operands.TheVariants.{Symbols}
use Rattle.orca_meaning.specs.Token.{Token, Value, Number, Between, Stand}
use Rattle.orca_meaning.specs.Formula.{operator_code, operator_level}
use Rattle.orca_text.specs.declared.short.ShortFormula.{ShortFormula}
use Rattle.orca_text.specs.declared.short.ShortFormula.TheVariants.{One, Two, Three}

-- what a short formula means
abbrev pub tree_of : ShortFormula → Tree
tree_of (One n) = Leaf (Constant n)
tree_of (Two operator a b) = Binary (operator_code operator) (Leaf (Constant a)) (Leaf (Constant b))
tree_of (Three operator a second b c) = Binary (operator_code operator) (Leaf (Constant a)) (Binary (operator_code second) (Leaf (Constant b)) (Leaf (Constant c)))

-- its tokens, in order
abbrev pub tokens_of : ShortFormula → List Token
tokens_of (One n) = Value (Number n) ∷ []
tokens_of (Two operator a b) = Value (Number a) ∷ Between operator ∷ Value (Number b) ∷ []
tokens_of (Three operator a second b c) = Value (Number a) ∷ Between operator ∷ Value (Number b) ∷ Between second ∷ Value (Number c) ∷ []

-- its numbers are at most 4,294,967,295
abbrev pub HasSmall : ShortFormula → Type 0
HasSmall (One n) = n < 2 ^ 32
HasSmall (Two operator a b) = (a < 2 ^ 32) × (b < 2 ^ 32)
HasSmall (Three operator a second b c) = (a < 2 ^ 32) × (b < 2 ^ 32) × (c < 2 ^ 32)

-- of two operators the second binds closer
abbrev pub BindsCloser : ShortFormula → Type 0
BindsCloser (One n) = Unit {0}
BindsCloser (Two operator a b) = Unit {0}
BindsCloser (Three operator a second b c) = operator_level second < operator_level operator

-- the tokens of the short formula are the whole text
pub record IsShort (text : List ℕ) (f : ShortFormula) : Type 0 where
  pub tokens : Stand Symbols true text (tokens_of f) []
  pub small : HasSmall f
  pub closer : BindsCloser f
