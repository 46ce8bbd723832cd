-- The most values that are pending at once, counted term by term.
use Rattle.std.specs.Prelude.{ℕ, ◌+◌, ◌-◌, max, List, [], ◌∷◌}
use Rattle.omf_format.specs.Expression as expression

-- how many values are pending after a term, given how many are before it
abbrev pub now_after : ℕ → expression.Term → ℕ
now_after now (expression.Operator code) = now - expression.operand_count code + 1
now_after now expression.Location = now + 1
now_after now (expression.Constant n) = now + 1
now_after now (expression.Named code name) = now + 1
now_after now (expression.Offset n) = now + 1

-- how many are pending at it
abbrev pub now_at : ℕ → ℕ → expression.Term → ℕ
now_at here now (expression.Operator code) = 0
now_at here now expression.Location = now + here
now_at here now (expression.Constant n) = now + 1
now_at here now (expression.Named code name) = now + 1
now_at here now (expression.Offset n) = now + 1

-- the most at one of these terms, given how many are pending before them and the most so far
abbrev pub peak : ℕ → ℕ → ℕ → List expression.Term → ℕ
peak here now most [] = most
peak here now most (term ∷ terms) = peak here (now_after now term) (max most (now_at here now term)) terms
