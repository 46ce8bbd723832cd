-- Formulas (ORCA/M reference manual, "Expressions"). The levels of the operators are this project's choice.
use Rattle.std.specs.Prelude.{◌≡◌, ℕ, ◌+◌, ◌^◌, ◌<◌, ◌≤◌, max, Bool, true, false, nat_le, List, [], ◌∷◌, ◌++◌, None}
use Rattle.std.specs.List.{list_any}
use Rattle.omf_format.specs.Expression as expression
use Rattle.orca_meaning.specs.declared.operators.Operands.{Operands}
use Rattle.orca_meaning.specs.declared.operators.Operator.{Operator}
use Rattle.orca_meaning.specs.declared.operators.Operator.TheVariants.{Multiply, Divide, Shift, Add, Subtract, Less, Greater, LessOrEqual, GreaterOrEqual, NotEqual, Equal, And, Or, Eor}
use Rattle.orca_meaning.specs.declared.operators.Sign.{Sign}
use Rattle.orca_meaning.specs.declared.operators.Sign.TheVariants.{Negate, Not}
use Rattle.orca_meaning.specs.Token.{Operand, Here, Number, Label, LengthOf, CountOf, Token, Value, Before, Between, Opens, Closes, Stand, operator_at}

-- ---- operators

-- what an operator is in an expression
abbrev pub sign_code : Sign → ℕ
sign_code Negate = 0x06
sign_code Not = 0x0B

-- what an operator between two operands is in an expression
abbrev pub operator_code : Operator → ℕ
operator_code Multiply = 0x03
operator_code Divide = 0x04
operator_code Shift = 0x07
operator_code Add = 0x01
operator_code Subtract = 0x02
operator_code Less = 0x0F
operator_code Greater = 0x10
operator_code LessOrEqual = 0x0C
operator_code GreaterOrEqual = 0x0D
operator_code NotEqual = 0x0E
operator_code Equal = 0x11
operator_code And = 0x08
operator_code Or = 0x09
operator_code Eor = 0x0A

-- the level of an operator between two operands; one before an operand has level 1
abbrev pub operator_level : Operator → ℕ
operator_level Multiply = 2
operator_level Divide = 2
operator_level Shift = 2
operator_level Add = 3
operator_level Subtract = 3
operator_level Less = 4
operator_level Greater = 4
operator_level LessOrEqual = 4
operator_level GreaterOrEqual = 4
operator_level NotEqual = 4
operator_level Equal = 4
operator_level And = 5
operator_level Or = 6
operator_level Eor = 6

-- ---- formulas

-- a formula: an operand, one in parentheses, an operator before one, or an operator between two
pub data Formula : Type 0 where
  Single : (operand : Operand) → Formula
  Group : (inner : Formula) → Formula
  Signed : (sign : Sign) (operand : Formula) → Formula
  Joined : (operator : Operator) (left right : Formula) → Formula

-- the level of its outermost operator; one that shows none has level 0
abbrev pub level_of : Formula → ℕ
level_of (Single operand) = 0
level_of (Group inner) = 0
level_of (Signed sign operand) = 1
level_of (Joined operator left right) = operator_level operator

-- the operators of a formula bind by level: a lower one binds tighter, and within a level the left binds first
abbrev pub BindsByLevel : Formula → Type 0
BindsByLevel (Single operand) = Unit {0}
BindsByLevel (Group inner) = BindsByLevel inner
BindsByLevel (Signed sign operand) = (level_of operand ≤ 1) × BindsByLevel operand
BindsByLevel (Joined operator left right) =
    (level_of left ≤ operator_level operator) × (level_of right < operator_level operator) × BindsByLevel left × BindsByLevel right

-- how it is written
abbrev pub tokens_of : Formula → List Token
tokens_of (Single operand) = Value operand ∷ []
tokens_of (Group inner) = Opens ∷ (tokens_of inner ++ Closes ∷ [])
tokens_of (Signed sign operand) = Before sign ∷ tokens_of operand
tokens_of (Joined operator left right) = tokens_of left ++ Between operator ∷ tokens_of right

-- a formula is at the start of a text, where no operator follows it
pub record StandsAt (operands : Operands) (text : List ℕ) (formula : Formula) (rest : List ℕ) : Type 0 where
  pub formed : BindsByLevel formula
  pub spelled : Stand operands true text (tokens_of formula) rest
  pub ends : operator_at rest ≡ None

-- ---- what they mean

-- what an operand is in an expression
abbrev pub term_of : Operand → expression.Term
term_of Here = expression.Location
term_of (Number n) = expression.Constant n
term_of (Label name) = expression.Named 0x83 name
term_of (LengthOf name) = expression.Named 0x84 name
term_of (CountOf name) = expression.Named 0x86 name

-- the expression that a formula means; parentheses leave no trace
abbrev pub tree_of : Formula → expression.Tree
tree_of (Single operand) = expression.Leaf (term_of operand)
tree_of (Group inner) = tree_of inner
tree_of (Signed sign operand) = expression.Unary (sign_code sign) (tree_of operand)
tree_of (Joined operator left right) = expression.Binary (operator_code operator) (tree_of left) (tree_of right)

-- a formula that means this is at the start of a text
pub record MeansAt (operands : Operands) (text : List ℕ) (tree : expression.Tree) (rest : List ℕ) : Type 0 where
  pub formula : Formula
  pub stands : StandsAt operands text formula rest
  pub means : tree_of formula ≡ tree

-- the most values that are pending at once, where the location counter counts as a given number of them
abbrev pub pending : ℕ → expression.Tree → ℕ
pending here (expression.Leaf term) = elim term [ expression.Location ↦ here | _ ↦ 1 ]
pending here (expression.Unary code operand) = pending here operand
pending here (expression.Binary code left right) = max (pending here left) (pending here right + 1)

-- the expression with the location counter less a number in place of each location counter, as instructions have it
abbrev pub with_location_less : ℕ → expression.Tree → expression.Tree
with_location_less back (expression.Leaf (expression.Operator code)) = expression.Leaf (expression.Operator code)
with_location_less back (expression.Leaf expression.Location) = expression.Binary 0x02 (expression.Leaf expression.Location) (expression.Leaf (expression.Constant back))
with_location_less back (expression.Leaf (expression.Constant n)) = expression.Leaf (expression.Constant n)
with_location_less back (expression.Leaf (expression.Named code name)) = expression.Leaf (expression.Named code name)
with_location_less back (expression.Leaf (expression.Offset n)) = expression.Leaf (expression.Offset n)
with_location_less back (expression.Unary code operand) = expression.Unary code (with_location_less back operand)
with_location_less back (expression.Binary code left right) = expression.Binary code (with_location_less back left) (with_location_less back right)

-- whether a number above 4,294,967,295 is in it
abbrev pub has_large : expression.Tree → Bool
has_large tree = list_any (λ term. elim term [ expression.Constant n ↦ nat_le (2 ^ 32) n | _ ↦ false ]) (expression.terms_of tree)
