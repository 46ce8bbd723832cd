-- What reading one more token of a formula makes of the terms so far and what waits.
use Rattle.std.specs.Prelude.{◌≡◌, ℕ, Bool, true, false, ◌||◌, List, Some, None}
use Rattle.omf_format.specs.Expression.{Term}
use Rattle.orca_meaning.specs.declared.operators.Operands.{Operands}
use Rattle.orca_meaning.specs.Token.{Token, Closes, operator_token_at, operand_token_at, token_at}
use Rattle.orca_meaning.specs.laws.Machine.{Wait, State, state, reduced, closed, step, ended}
use Rattle.orca_text.specs.declared.formula.Next.{Next}
use Rattle.orca_text.specs.declared.formula.Next.TheVariants.{Goes, Ends, Fails}
use Rattle.orca_text.specs.Kept.{kept_token}

-- a token is there, and was taken; a number in it may be too large
pub record Steps (o : Operands) (old new : State) (large larger : Bool) (left following : List ℕ) : Type 0 where
  pub token : Token
  pub found : token_at o old.expects left ≡ Some (token, following)
  pub steps : step old (kept_token token).0 ≡ Some new
  pub grows : larger ≡ (large || (kept_token token).1)

-- no token is there, or a parenthesis that closes none
pub data Stops (s : State) (left : List ℕ) : Type 0 where
  NoToken : operator_token_at left ≡ None → Stops s left
  Unmatched : (following : List ℕ) → operator_token_at left ≡ Some (Closes, following) → closed (reduced 6 s.out s.waiting) ≡ None → Stops s left

-- a formula ends there
pub record IsEnd (s : State) (left : List ℕ) (terms : List Term) : Type 0 where
  pub expects : s.expects ≡ false
  pub stops : Stops s left
  pub whole : ended (reduced 6 s.out s.waiting) ≡ Some terms

-- none can
pub data IsStuck (o : Operands) (s : State) (left : List ℕ) : Type 0 where
  NoOperand : s.expects ≡ true → operand_token_at o left ≡ None → IsStuck o s left
  NotWhole : s.expects ≡ false → Stops s left → ended (reduced 6 s.out s.waiting) ≡ None → IsStuck o s left

-- what is answered of the next token: another was read, the formula ends there, or none is there
abbrev pub IsNext : Operands → State → Bool → List ℕ → Next → List Term → List Wait → Bool → Type 0
IsNext o old large left (Goes again following) out waiting larger = Steps o old (state out waiting again) large larger left following.now
IsNext o old large left Ends out waiting larger = IsEnd old left out × (larger ≡ large)
IsNext o old large left Fails out waiting larger = IsStuck o old left
