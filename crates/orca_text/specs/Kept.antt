-- What is kept of a formula whose numbers may be too large.
use Rattle.std.specs.Prelude.{ℕ, ◌^◌, Bool, true, false, nat_lt, List, map, Option, Some, None, if◌then◌else◌}
use Rattle.omf_format.specs.Expression as expression
use Rattle.orca_meaning.specs.Token.{Operand, Here, Number, Label, LengthOf, CountOf, Token, Value, Before, Between, Opens, Closes}

-- a number, where it is at most 4,294,967,295
abbrev pub fitting : ℕ → Option ℕ
fitting n = if nat_lt n (2 ^ 32) then Some n else None

-- 0 represents a number that is too large
abbrev pub kept_number : ℕ → ℕ
kept_number n = if nat_lt n (2 ^ 32) then n else 0

-- an operand with its number, and whether that is too large
abbrev pub kept_operand : Operand → Operand × Bool
kept_operand Here = (Here, false)
kept_operand (Number n) = if nat_lt n (2 ^ 32) then (Number n, false) else (Number 0, true)
kept_operand (Label name) = (Label name, false)
kept_operand (LengthOf name) = (LengthOf name, false)
kept_operand (CountOf name) = (CountOf name, false)

-- an operand as a token, and whether its number is too large
abbrev pub kept_value : Operand × Bool → Token × Bool
kept_value (operand, large) = (Value operand, large)

-- a token with its number, and whether that is too large
abbrev pub kept_token : Token → Token × Bool
kept_token (Value operand) = kept_value (kept_operand operand)
kept_token (Before sign) = (Before sign, false)
kept_token (Between operator) = (Between operator, false)
kept_token Opens = (Opens, false)
kept_token Closes = (Closes, false)

-- a term, with 0 for a number that is too large
abbrev pub kept_term : expression.Term → expression.Term
kept_term (expression.Operator code) = expression.Operator code
kept_term expression.Location = expression.Location
kept_term (expression.Constant n) = expression.Constant (kept_number n)
kept_term (expression.Named code name) = expression.Named code name
kept_term (expression.Offset n) = expression.Offset n

-- these terms, each so
abbrev pub kept_terms : List expression.Term → List expression.Term
kept_terms terms = map kept_term terms
