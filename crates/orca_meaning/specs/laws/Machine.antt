-- A formula read token by token, with the operators that still wait for an operand. No clause names it: it is the way from
-- tokens to formulas by which the laws are proved.
use Rattle.std.specs.Prelude.{ℕ, Bool, true, false, List, [], ◌∷◌, ◌++◌, Option, Some, None, nat_le, if◌then◌else◌}
use Rattle.omf_format.specs.Expression.{Term, Operator}
use Rattle.orca_meaning.specs.Token.{Token, Value, Before, Between, Opens, Closes}
use Rattle.orca_meaning.specs.Formula.{sign_code, operator_code, operator_level, term_of}

-- what waits for an operand or for its closing parenthesis: an operator by its level and its code
pub data Wait : Type 0 where
  Bracket : Wait
  Pending : (level code : ℕ) → Wait

-- the terms so far, what waits, the last first, and whether an operand is expected
pub record State : Type 0 where
  pub out : List Term
  pub waiting : List Wait
  pub expects : Bool

abbrev pub state : List Term → List Wait → Bool → State
state out waiting expects = record { out = out; waiting = waiting; expects = expects }

-- the operators on top that are as tight go out
unfoldable pub reduced : ℕ → List Term → List Wait → List Term × List Wait
reduced level out [] = (out, [])
reduced level out (Bracket ∷ ws) = (out, Bracket ∷ ws)
reduced level out (Pending m code ∷ ws) =
    if nat_le m level then reduced level (out ++ Operator code ∷ []) ws else (out, Pending m code ∷ ws)

unfoldable pub closed : List Term × List Wait → Option State
closed (out, []) = None
closed (out, Bracket ∷ ws) = Some (state out ws false)
closed (out, Pending m code ∷ ws) = None

unfoldable pub step : State → Token → Option State
step s (Value operand) = if s.expects then Some (state (s.out ++ term_of operand ∷ []) s.waiting false) else None
step s (Before sign) = if s.expects then Some (state s.out (Pending 1 (sign_code sign) ∷ s.waiting) true) else None
step s Opens = if s.expects then Some (state s.out (Bracket ∷ s.waiting) true) else None
step s Closes = if s.expects then None else closed (reduced 6 s.out s.waiting)
step s (Between operator) =
    let level = operator_level operator in
    if s.expects then None
    else Some (state (reduced level s.out s.waiting).0 (Pending level (operator_code operator) ∷ (reduced level s.out s.waiting).1) true)

unfoldable pub and_then : Option State → (State → Option State) → Option State
and_then None f = None
and_then (Some s) f = f s

unfoldable pub run : State → List Token → Option State
run s [] = Some s
run s (t ∷ ts) = and_then (step s t) (λ s'. run s' ts)

unfoldable pub ended : List Term × List Wait → Option (List Term)
ended (out, []) = Some out
ended (out, w ∷ ws) = None

unfoldable pub finish : Option State → Option (List Term)
finish None = None
finish (Some s) = if s.expects then None else ended (reduced 6 s.out s.waiting)

abbrev pub start : State
start = state [] [] true

unfoldable pub postfix : List Token → Option (List Term)
postfix tokens = finish (run start tokens)
