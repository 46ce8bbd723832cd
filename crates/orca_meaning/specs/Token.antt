-- The tokens of formulas (ORCA/M reference manual, "Expressions" and "Constants").
use Rattle.std.specs.Prelude.{◌≡◌, ℕ, ◌+◌, Bool, true, false, ◌&&◌, ◌||◌, ◌==◌, nat_lt, nat_le, List, [], ◌∷◌, length, take, drop, codes, bytes_eq, Option, Some, None, if◌then◌else◌}
use Rattle.std.specs.Char.{is_digit, to_ascii_uppercase}
use Rattle.std.specs.List.{prefix_len, position_or_len}
use Rattle.std.specs.Option.{option_map, option_or}
use Rattle.std.specs.Str.Parse.{digits_value}
use Rattle.omf_format.specs.Ascii as ascii
use Rattle.byteorder.specs.Endian.{little_number}
use Rattle.orca_meaning.specs.declared.operators.Operands.{Operands}
use Rattle.orca_meaning.specs.declared.operators.Operands.TheVariants.{Labels, Symbols}
use Rattle.orca_meaning.specs.declared.operators.Operator.{Operator}
use Rattle.orca_meaning.specs.declared.operators.Operator.TheVariants.{Multiply, Divide, Shift, Add, Subtract, Less, Greater, LessOrEqual, GreaterOrEqual, NotEqual, Equal, And, Or, Eor}
use Rattle.orca_meaning.specs.declared.operators.Sign.{Sign}
use Rattle.orca_meaning.specs.declared.operators.Sign.TheVariants.{Negate, Not}
use Rattle.orca_meaning.specs.Characters.{is_name_start, is_name_byte, folded}

-- an operand of a formula: the location counter, a number, a label, or the length or the count of a label or symbol
pub data Operand : Type 0 where
  Here : Operand
  Number : (n : ℕ) → Operand
  Label : (name : List ℕ) → Operand
  LengthOf : (name : List ℕ) → Operand
  CountOf : (name : List ℕ) → Operand

-- a token of a formula: an operand, an operator before one, an operator between two, a parenthesis
pub data Token : Type 0 where
  Value : (operand : Operand) → Token
  Before : (sign : Sign) → Token
  Between : (operator : Operator) → Token
  Opens : Token
  Closes : Token

-- what was found at the start of a text, and the bytes after it
abbrev pub Found : Type 0 → Type 0
Found A = Option (A × List ℕ)

-- what was found, seen as something else, with the same bytes after it
abbrev pub seen_as : {A B : Type 0} → (A → B) → Found A → Found B
seen_as f found = option_map (λ x. (f x.0, x.1)) found

-- ---- numbers

-- the number that the digits of a base at the start write
unfoldable pub digits_at : ℕ → List ℕ → Found ℕ
digits_at base text =
    let n = prefix_len (λ byte. is_digit byte base) text in
    if n == 0 then None else Some (digits_value base (take n text), drop n text)

-- the number of one to four bytes up to the closing quote, the first of them lowest
unfoldable pub quoted_number_at : ℕ → List ℕ → Found ℕ
quoted_number_at quote following =
    let n = position_or_len (λ byte. byte == quote) following in
    if nat_le 1 n && nat_le n 4 && nat_lt n (length following) then Some (little_number n following, drop (n + 1) following) else None

-- a number: hexadecimal after `$`, binary after `%`, octal after `@`, a text in quotes, or decimal
unfoldable pub number_at : List ℕ → Found ℕ
number_at [] = None
number_at (byte ∷ following) =
    if byte == ascii.dollar then digits_at 16 following
    else if byte == ascii.percent then digits_at 2 following
    else if byte == ascii.at_sign then digits_at 8 following
    else if byte == ascii.apostrophe || byte == ascii.double_quote then quoted_number_at byte following
    else digits_at 10 (byte ∷ following)

-- ---- names

-- the longest name at the start, in upper case
unfoldable pub name_at : List ℕ → Found (List ℕ)
name_at [] = None
name_at (byte ∷ following) =
    let n = prefix_len is_name_byte following in
    if is_name_start byte then Some (folded (byte ∷ take n following), drop n following) else None

-- the name of a symbol after `&`
unfoldable pub symbol_at : List ℕ → Found (List ℕ)
symbol_at [] = None
symbol_at (byte ∷ following) = if byte == ascii.ampersand then name_at following else None

-- what is asked of a name by this letter before a colon
abbrev pub asked_by : ℕ → Found (List ℕ) → Found Operand
asked_by letter name =
    if to_ascii_uppercase letter == ascii.capital_l then seen_as LengthOf name
    else if to_ascii_uppercase letter == ascii.capital_c then seen_as CountOf name
    else None

-- `L:` or `C:` before what a reader finds
unfoldable pub attribute_at : (List ℕ → Found (List ℕ)) → List ℕ → Found Operand
attribute_at name [] = None
attribute_at name (letter ∷ []) = None
attribute_at name (letter ∷ colon ∷ following) = if colon == ascii.colon then asked_by letter (name following) else None

-- ---- operands

-- the location counter `*`
unfoldable pub location_at : List ℕ → Found Operand
location_at [] = None
location_at (byte ∷ following) = if byte == ascii.star then Some (Here, following) else None

-- the operand at the start
unfoldable pub operand_at : Operands → List ℕ → Found Operand
operand_at operands text = option_or (seen_as Number (number_at text)) (elim operands [
  | Labels ↦ option_or (location_at text) (option_or (attribute_at name_at text) (seen_as Label (name_at text)))
  | Symbols ↦ attribute_at symbol_at text
])

-- ---- operators

-- the first row of a table whose spelling is at the start, in upper or lower case
unfoldable pub spelled_at : {A : Type 0} → List (List ℕ × A) → List ℕ → Found A
spelled_at [] text = None
spelled_at (row ∷ rows) text =
    if bytes_eq row.0 (folded (take (length row.0) text)) then Some (row.1, drop (length row.0) text) else spelled_at rows text

-- the operator before an operand at the start
unfoldable pub sign_at : List ℕ → Found Sign
sign_at text = spelled_at ((codes "-", Negate) ∷ (codes ".NOT.", Not) ∷ []) text

-- the operator between two operands at the start; the longer spellings are listed first
unfoldable pub operator_at : List ℕ → Found Operator
operator_at text = spelled_at (
    (codes "<=", LessOrEqual) ∷ (codes ">=", GreaterOrEqual) ∷ (codes "<>", NotEqual) ∷ (codes "<", Less) ∷ (codes ">", Greater) ∷
    (codes "=", Equal) ∷ (codes "*", Multiply) ∷ (codes "/", Divide) ∷ (codes "|", Shift) ∷ (codes "+", Add) ∷
    (codes "-", Subtract) ∷ (codes ".AND.", And) ∷ (codes ".OR.", Or) ∷ (codes ".EOR.", Eor) ∷ []) text

-- ---- tokens

-- this token, where this byte is at the start
unfoldable pub byte_at : ℕ → Token → List ℕ → Found Token
byte_at wanted token [] = None
byte_at wanted token (byte ∷ following) = if byte == wanted then Some (token, following) else None

-- the token at the start where an operand is expected: a parenthesis, an operator before an operand, or an operand
unfoldable pub operand_token_at : Operands → List ℕ → Found Token
operand_token_at operands text =
    option_or (byte_at ascii.opening_round Opens text) (option_or (seen_as Before (sign_at text)) (seen_as Value (operand_at operands text)))

-- the token after an operand: a parenthesis, or an operator between two
unfoldable pub operator_token_at : List ℕ → Found Token
operator_token_at text = option_or (byte_at ascii.closing_round Closes text) (seen_as Between (operator_at text))

-- the token at the start, where an operand is expected or where none is
abbrev pub token_at : Operands → Bool → List ℕ → Found Token
token_at operands true text = operand_token_at operands text
token_at operands false text = operator_token_at text

-- whether an operand is expected after a token
abbrev pub expects_following : Token → Bool
expects_following (Value operand) = false
expects_following (Before sign) = true
expects_following (Between operator) = true
expects_following Opens = true
expects_following Closes = false

-- these tokens follow one another from the start of the text on, and then the rest follows
abbrev pub Stand : Operands → Bool → List ℕ → List Token → List ℕ → Type 0
Stand operands expects text [] rest = rest ≡ text
Stand operands expects text (token ∷ tokens) rest =
    (following : List ℕ) × (token_at operands expects text ≡ Some (token, following)) × Stand operands (expects_following token) following tokens rest
