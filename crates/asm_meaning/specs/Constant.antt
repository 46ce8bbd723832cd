-- Constants: formulas whose value the assembler knows (ORCA/M reference manual, "Expressions" and "EQU").
use Rattle.std.specs.Prelude.{◌≡◌, ◌<◌, ◌^◌, ℕ, ◌&&◌, ◌==◌, List, Option, Some, None, Ok, Err, if◌then◌else◌}
use Rattle.omf_format.specs.Expression.{Term, Operator, Location, Constant, Named, Offset, Tree, Leaf, Unary, Binary}
use Rattle.omf_format.specs.Value.{number_of_one, number_of_two, divides}
use Rattle.asm_meaning.specs.declared.faults.AsmCause.TheVariants.{UnknownConstant, DivideByZero}
use Rattle.asm_meaning.specs.Answer.{Answer}

-- the names whose values are known, with their values
abbrev pub Constants : Type 0
Constants = List ℕ → Option ℕ

-- each known value has 32 bits
abbrev pub AreSmall : Constants → Type 0
AreSmall constants = (name : List ℕ) (n : ℕ) → constants name ≡ Some n → n < 2 ^ 32

-- ---- the number that a formula is

-- the value of a formula: a number; none, because it contains the location counter, an attribute or a name that is no known
-- constant; or a number divided by 0
pub data KnownValue : Type 0 where
  Number : (n : ℕ) → KnownValue
  Open : KnownValue
  Divided : KnownValue

-- a formula that is open is no constant, whatever it divides
abbrev pub worth_of_two : ℕ → KnownValue → KnownValue → KnownValue
worth_of_two code (Number a) (Number b) = if divides code && b == 0 then Divided else Number (number_of_two code a b)
worth_of_two code (Number a) Open = Open
worth_of_two code (Number a) Divided = Divided
worth_of_two code Open b = Open
worth_of_two code Divided (Number b) = Divided
worth_of_two code Divided Open = Open
worth_of_two code Divided Divided = Divided

-- the value of a formula where these names ($83) are known, and nothing is of their lengths and counts
unfoldable pub known_value : Constants → Tree → KnownValue
known_value constants (Leaf term) = elim term [
  | Constant n ↦ Number n
  | Named code name ↦ if code == 0x83 then elim (constants name) [ Some n ↦ Number n | None ↦ Open ] else Open
  | _ ↦ Open
]
known_value constants (Unary code a) = elim (known_value constants a) [ Number n ↦ Number (number_of_one code n) | Open ↦ Open | Divided ↦ Divided ]
known_value constants (Binary code a b) = worth_of_two code (known_value constants a) (known_value constants b)

-- the number, where one is needed
abbrev pub required_number : KnownValue → Answer ℕ
required_number (Number n) = Ok n
required_number Open = Err UnknownConstant
required_number Divided = Err DivideByZero

-- ---- what is written of a formula that isn't a constant

-- a name whose value is known becomes that number
abbrev pub term_with_values : Constants → Term → Term
term_with_values constants (Operator code) = Operator code
term_with_values constants Location = Location
term_with_values constants (Constant n) = Constant n
term_with_values constants (Named code name) = if code == 0x83 then elim (constants name) [ Some n ↦ Constant n | None ↦ Named code name ] else Named code name
term_with_values constants (Offset n) = Offset n

-- each known constant gives its value
abbrev pub with_values : Constants → Tree → Tree
with_values constants (Leaf term) = Leaf (term_with_values constants term)
with_values constants (Unary code a) = Unary code (with_values constants a)
with_values constants (Binary code a b) = Binary code (with_values constants a) (with_values constants b)

-- a number, or the expression that is written
pub data Amount : Type 0 where
  Known : (n : ℕ) → Amount
  Written : (tree : Tree) → Amount

-- a formula is a number, or the expression that is written of it with the values of its constants
unfoldable pub amount : Constants → Tree → Answer Amount
amount constants tree = elim (known_value constants tree) [
  | Number n ↦ Ok (Known n)
  | Open ↦ Ok (Written (with_values constants tree))
  | Divided ↦ Err DivideByZero
]

-- the expression of an amount; that of a number is the number
abbrev pub tree_of_amount : Amount → Tree
tree_of_amount (Known n) = Leaf (Constant n)
tree_of_amount (Written tree) = tree
