-- Formulas of one or two numbers.
use Rattle.std.proofs.Common.{◌≡◌, ◌≢◌, ℕ, ◌<◌, ◌^◌, Bool, true, false, cond, ltb, eqb, List, [], ◌∷◌, length, Option, Some, None, refl, ap, arith}
use Rattle.std.proofs.lemmas.Bool.{eqb-true}
use Rattle.omf_format.specs.Expression.{Leaf, Binary, Constant}
use Rattle.orca_meaning.specs.declared.operators.Operands.TheVariants.{Symbols}
use Rattle.orca_meaning.specs.declared.operators.Operator.{Operator}
use Rattle.orca_meaning.specs.declared.operators.Operator.TheVariants.{Multiply, Divide, Shift, Add, Subtract, Less, Greater, LessOrEqual, GreaterOrEqual, NotEqual, Equal, And, Or, Eor}
use Rattle.orca_meaning.specs.Formula.{Single, Joined, MeansAt, operator_code, operator_level}
use Rattle.orca_meaning.specs.Token.{Found, Token, Value, Number, Between, Opens, byte_at, sign_at, operator_at, spelled_at, number_at, operand_at, operand_token_at, operator_token_at, seen_as}
use Rattle.orca_text.specs.Kept.{fitting}

pub not_open : (text : List ℕ) → ((following : List ℕ) → text ≢ 0x28 ∷ following) → byte_at 0x28 Opens text ≡ None
unfolding byte_at
not_open [] other = refl
not_open (byte ∷ following) other = by_test (eqb byte 0x28) refl
  where
    by_test : (b : Bool) → eqb byte 0x28 ≡ b → cond {A = Found Token} b (Some (Opens, following)) None ≡ None
    by_test true is = absurd (other following (ap (λ (first : ℕ). first ∷ following) (eqb-true byte 0x28 is)))
    by_test false is = refl

-- a number that fits, as one
abbrev lowered : Found (Option ℕ) → Found ℕ
lowered None = None
lowered (Some (None, following)) = None
lowered (Some (Some n, following)) = Some (n, following)

fitting_is : (found : Found ℕ) (n : ℕ) (rest : List ℕ) → seen_as fitting found ≡ Some (Some n, rest) → found ≡ Some (n, rest)
fitting_is None n rest is = absurd cc
fitting_is (Some (m, following)) n rest is = by_test (ltb m (2 ^ 32)) is
  where
    by_test : (b : Bool) → ◌≡◌ {A = Found (Option ℕ)} (Some (cond b (Some m) None, following)) (Some (Some n, rest)) → ◌≡◌ {A = Found ℕ} (Some (m, following)) (Some (n, rest))
    by_test true e = ap lowered e
    by_test false e = let none : ◌≡◌ {A = Found ℕ} None (Some (n, rest)) = ap lowered e in absurd cc

-- a number is at the start, and no parenthesis and no sign
pub number_token : (text : List ℕ) (n : ℕ) (rest : List ℕ) → ((following : List ℕ) → text ≢ 0x28 ∷ following) → sign_at text ≡ None → seen_as fitting (number_at text) ≡ Some (Some n, rest)
    → operand_token_at Symbols text ≡ Some (Value (Number n), rest)
unfolding operand_token_at operand_at
number_token text n rest other no_sign found = rw (not_open text other, no_sign, fitting_is (number_at text) n rest found) refl

nothing : (rest : List ℕ) → eqb (length rest) 0 ≡ true → [] ≡ rest
nothing [] none = refl
nothing (byte ∷ rest) none = absurd (omega (arith, eqb-true (length (byte ∷ rest)) 0 none))

pub one_means : (text : List ℕ) (n : ℕ) (rest : List ℕ) → operand_token_at Symbols text ≡ Some (Value (Number n), rest) → eqb (length rest) 0 ≡ true
    → MeansAt Symbols text (Leaf (Constant n)) []
unfolding operator_at spelled_at
one_means text n rest token none =
    record { formula = Single (Number n); stands = record { formed = tt; spelled = (rest, token, nothing rest none); ends = refl }; means = refl }

positive : (operator : Operator) → 0 < operator_level operator
positive Multiply = omega arith
positive Divide = omega arith
positive Shift = omega arith
positive Add = omega arith
positive Subtract = omega arith
positive Less = omega arith
positive Greater = omega arith
positive LessOrEqual = omega arith
positive GreaterOrEqual = omega arith
positive NotEqual = omega arith
positive Equal = omega arith
positive And = omega arith
positive Or = omega arith
positive Eor = omega arith

pub two_mean : (text : List ℕ) (operator : Operator) (a b : ℕ) (rest following last : List ℕ) → operand_token_at Symbols text ≡ Some (Value (Number a), rest)
    → operator_token_at rest ≡ Some (Between operator, following) → operand_token_at Symbols following ≡ Some (Value (Number b), last) → eqb (length last) 0 ≡ true
    → MeansAt Symbols text (Binary (operator_code operator) (Leaf (Constant a)) (Leaf (Constant b))) []
unfolding operator_at spelled_at
two_mean text operator a b rest following last first between second none =
    record {
      formula = Joined operator (Single (Number a)) (Single (Number b));
      stands = record { formed = (omega arith, positive operator, tt, tt); spelled = (rest, first, (following, between, (last, second, nothing last none))); ends = refl };
      means = refl;
    }

pub three_mean : (text : List ℕ) (operator second : Operator) (a b c : ℕ) (rest following last more end : List ℕ) → operand_token_at Symbols text ≡ Some (Value (Number a), rest)
    → operator_token_at rest ≡ Some (Between operator, following) → operand_token_at Symbols following ≡ Some (Value (Number b), last)
    → operator_token_at last ≡ Some (Between second, more) → operand_token_at Symbols more ≡ Some (Value (Number c), end) → eqb (length end) 0 ≡ true
    → operator_level second < operator_level operator
    → MeansAt Symbols text (Binary (operator_code operator) (Leaf (Constant a)) (Binary (operator_code second) (Leaf (Constant b)) (Leaf (Constant c)))) []
unfolding operator_at spelled_at
three_mean text operator second a b c rest following last more end first between number between_too third none closer =
    record {
      formula = Joined operator (Single (Number a)) (Joined second (Single (Number b)) (Single (Number c)));
      stands = record {
        formed = (omega arith, closer, tt, (omega arith, positive second, tt, tt));
        spelled = (rest, first, (following, between, (last, number, (more, between_too, (end, third, nothing end none)))));
        ends = refl;
      };
      means = refl;
    }
