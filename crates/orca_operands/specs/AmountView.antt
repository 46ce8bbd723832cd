-- How what is written of formulas is seen.
use Rattle.std.specs.Prelude.{◌≡◌, ◌≤◌, ℕ, Bool, true, false, ◌==◌, List, [], ◌∷◌, map, None, Result, Ok, Err, if◌then◌else◌}
use Rattle.std.specs.List.{list_all, flat_map}
use Rattle.omf_format.specs.declared.value.Value.{Value}
use Rattle.omf_format.specs.declared.value.Value.TheVariants.{Fixed, At}
use Rattle.omf_format.specs.declared.value.ValueFault.{ValueFault}
use Rattle.omf_format.specs.declared.value.ValueFault.TheVariants.{DivideByZero, NotRelocatable, Unknown}
use Rattle.omf_format.specs.Expression.{Term, Operator, Location, Constant, Named, Offset, Tree, IsTree, terms_of, terms_text, depth}
use Rattle.omf_format.specs.Value.{Environment}
use Rattle.orca_meaning.specs.Formula.{with_location_less}
use Rattle.asm_meaning.specs.Constant as meaning
use Rattle.asm_meaning.specs.Constant.{Constants, term_with_values}
use Rattle.asm_meaning.specs.Answer.{Answer}
use Rattle.asm_meaning.specs.declared.faults.AsmCause.{AsmCause}
use Rattle.orca_operands.specs.declared.amount.Amount.{Amount}
use Rattle.orca_operands.specs.declared.amount.Amount.TheVariants as amounts
use Rattle.orca_operands.specs.declared.amount.KnownValue.{KnownValue}
use Rattle.orca_operands.specs.declared.amount.KnownValue.TheVariants as worths

-- a term with the value of a known constant in place of its name
abbrev pub written_term : Constants → Term → Term
written_term constants term = term_with_values constants term

-- the location counter less a number
abbrev pub less_location : ℕ → List Term
less_location back = Location ∷ Constant back ∷ Operator 0x02 ∷ []

-- what is written for a term, where a number is subtracted from the location counter
abbrev pub written_terms : ℕ → Term → List Term
written_terms back (Operator code) = Operator code ∷ []
written_terms back Location = if back == 0 then Location ∷ [] else less_location back
written_terms back (Constant n) = Constant n ∷ []
written_terms back (Named code name) = Named code name ∷ []
written_terms back (Offset n) = Offset n ∷ []

-- what is written for all terms of a formula
abbrev pub all_written : Constants → ℕ → List Term → List Term
all_written constants back terms = flat_map (λ t. written_terms back (written_term constants t)) terms

-- terms with known values in place of names
abbrev pub with_terms : Constants → List Term → List Term
with_terms constants terms = map (written_term constants) terms

-- a term that needs no name and no place
abbrev pub is_number_term : Term → Bool
is_number_term (Operator code) = true
is_number_term Location = false
is_number_term (Constant n) = true
is_number_term (Named code name) = false
is_number_term (Offset n) = false

-- all terms are numbers and operators, with the values of names in place
abbrev pub are_numbers : Constants → List Term → Bool
are_numbers constants terms = list_all (λ t. is_number_term (written_term constants t)) terms

-- no name has a value, and places are 0
abbrev pub no_environment : Environment
no_environment = record { label = λ name weak. None; attribute = λ code name. None; location = Fixed 0; start = Fixed 0 }

-- the value of an expression as that of a formula
abbrev pub worth_of_value : Result Value ValueFault → meaning.KnownValue
worth_of_value (Ok (Fixed n)) = meaning.Number n
worth_of_value (Ok (At file segment offset shift)) = meaning.Open
worth_of_value (Err DivideByZero) = meaning.Divided
worth_of_value (Err NotRelocatable) = meaning.Open
worth_of_value (Err (Unknown at)) = meaning.Open

-- the value of a formula
abbrev pub worth_view : KnownValue → meaning.KnownValue
worth_view (worths.Number n) = meaning.Number n
worth_view worths.Open = meaning.Open
worth_view worths.Divided = meaning.Divided

-- a tree with the location counter less a number in place of each, unless that is 0
abbrev pub placed_by : ℕ → Tree → Tree
placed_by back tree = if back == 0 then tree else with_location_less back tree

-- these are the terms of a formula that can be written
pub record IsFormulaOf (terms : List Term) (tree : Tree) : Type 0 where
  pub terms_are : terms ≡ terms_of tree
  pub formed : IsTree 0 tree
  pub shallow : depth tree ≤ 64

-- an amount as it is kept: the number, or the bytes of the terms
pub data AmountBytes : Type 0 where
  Number : (n : ℕ) → AmountBytes
  Text : (bytes : List ℕ) → AmountBytes

-- an amount as it is kept, where a number is subtracted from the location counter
abbrev pub kept_of : ℕ → meaning.Amount → AmountBytes
kept_of back (meaning.Known n) = Number n
kept_of back (meaning.Written tree) = Text (terms_text 0 (terms_of (placed_by back tree)))

-- an amount as it is kept, or the fault
abbrev pub kept_answer : ℕ → Answer meaning.Amount → Answer AmountBytes
kept_answer back (Ok a) = Ok (kept_of back a)
kept_answer back (Err cause) = Err cause

-- how an amount is seen
abbrev pub kept_view : Amount → AmountBytes
kept_view (amounts.Known n) = Number n
kept_view (amounts.Written text) = Text text.items

-- how an amount or a fault is seen
abbrev pub amount_view : Result Amount AsmCause → Answer AmountBytes
amount_view (Ok a) = Ok (kept_view a)
amount_view (Err cause) = Err cause
