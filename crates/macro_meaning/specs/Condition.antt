-- Conditions and the numbers of conditional assembly (ORCA/M reference manual, "Conditional assembly expressions").
use Rattle.std.specs.Prelude.{◌≡◌, ℕ, ◌==◌, Bool, true, false, not, ◌&&◌, nat_lt, List, [], ◌∷◌, length, bytes_eq, Option, Some, None, is_some, option_map, Result, Ok, Err, if◌then◌else◌}
use Rattle.std.specs.List.{list_all}
use Rattle.omf_format.specs.Ascii as ascii
use Rattle.omf_format.specs.declared.value.Value.TheVariants.{Fixed}
use Rattle.omf_format.specs.Expression as expression
use Rattle.omf_format.specs.Expression.{Tree, terms_of, depth}
use Rattle.omf_format.specs.Value.{Environment, value, truth}
use Rattle.orca_meaning.specs.declared.operators.Operands.TheVariants as operands
use Rattle.orca_meaning.specs.Formula.{MeansAt, has_large}
use Rattle.macro_meaning.specs.declared.faults.MacroCause.{MacroCause}
use Rattle.macro_meaning.specs.declared.faults.MacroCause.TheVariants.{NoSuchSymbol, BadSetting}
use Rattle.macro_meaning.specs.Pieces.{quoted_at, unquoted_text}
use Rattle.macro_meaning.specs.Symbol.{Values, text_of}

-- ---- what a formula asks of symbols

-- `L:&X` is how many bytes the symbol's text has, and `C:&X` is 0 for an empty text and 1 for another
abbrev pub attribute : ℕ → List ℕ → ℕ
attribute code text = if code == 0x84 then length text else truth (not (length text == 0))

-- a formula here knows symbols alone
abbrev pub symbol_environment : Values → Environment
symbol_environment values = record {
  label = λ name weak. None;
  attribute = λ code name. option_map (attribute code) (text_of values name);
  location = Fixed 0;
  start = Fixed 0;
}

-- ---- values

-- a number, or what is wrong
abbrev pub Answer : Type 0
Answer = Result ℕ MacroCause

-- A formula's value. Its symbols are declared, its numbers are at most 4,294,967,295, and at most 64 values are pending at once.
unfoldable pub answer_of : Values → Tree → Answer
answer_of values tree =
    if not (list_all (λ term. elim term [ expression.Named code name ↦ is_some (text_of values name) | _ ↦ true ]) (terms_of tree)) then Err NoSuchSymbol
    else if has_large tree then Err BadSetting
    else if nat_lt 64 (depth tree) then Err BadSetting
    else elim (value (symbol_environment values) 0 0 tree) [ Ok (Fixed n) ↦ Ok n | _ ↦ Err BadSetting ]

-- this is the value of the formula that the text is, or what is wrong with it
pub data IsNumber (values : Values) (text : List ℕ) (answer : Answer) : Type 0 where
  Formula : (tree : Tree) → MeansAt operands.Symbols text tree [] → answer ≡ answer_of values tree → IsNumber values text answer
  NoFormula : ((tree : Tree) → MeansAt operands.Symbols text tree [] → ⊥) → answer ≡ Err BadSetting → IsNumber values text answer

-- ---- texts that are compared

-- the comparison at the start, `=` or `<>`: whether it asks for equal texts, and what follows it
abbrev pub comparison_at : List ℕ → Option (Bool × List ℕ)
comparison_at [] = None
comparison_at (first ∷ []) = if first == ascii.equals then Some (true, []) else None
comparison_at (first ∷ second ∷ following) =
    if first == ascii.equals then Some (true, second ∷ following)
    else if first == ascii.less && second == ascii.greater then Some (false, following)
    else None

-- whether a comparison of two texts in quotes holds, where the text is one
unfoldable pub comparison : List ℕ → Option Bool
comparison text = elim (quoted_at text) [
  | None ↦ None
  | Some (a, following) ↦ elim (comparison_at following) [
    | None ↦ None
    | Some (equal, rest) ↦ option_map (λ b. if equal then bytes_eq a b else not (bytes_eq a b)) (unquoted_text rest)
  ]
]

-- a condition is a comparison of two texts, or a formula
abbrev pub IsCondition : Values → List ℕ → Answer → Type 0
IsCondition values text answer = elim (comparison text) [ Some holds ↦ answer ≡ Ok (truth holds) | None ↦ IsNumber values text answer ]
