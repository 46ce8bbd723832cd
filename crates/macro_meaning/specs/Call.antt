-- Calls of macros: how operands are bound to parameters (ORCA/M reference manual, "Macro calls").
use Rattle.std.specs.Prelude.{ℕ, ◌+◌, Bool, ◌==◌, List, [], ◌∷◌, bytes_eq, slice_get, Option, Some, None, is_some, option_map, if◌then◌else◌}
use Rattle.std.specs.List.{list_any}
use Rattle.omf_format.specs.Ascii as ascii
use Rattle.macro_meaning.specs.declared.statements.SymbolKind.TheVariants.{Text}
use Rattle.orca_meaning.specs.Token.{Found, name_at}
use Rattle.macro_meaning.specs.Definition.{Model}
use Rattle.macro_meaning.specs.Pieces.{pieces}
use Rattle.macro_meaning.specs.Symbol.{Own, Symbols, is_count}
use Rattle.orca_meaning.specs.Names.{with_name}

-- a parameter, the text that it gets, and the place of the parameter that the next operand without keyword gets
pub record Binding : Type 0 where
  pub name : List ℕ
  pub text : List ℕ
  pub next : ℕ

-- `NAME=text` with the name of a parameter
abbrev pub keyword_from : List (List ℕ) → ℕ → Found (List ℕ) → Option Binding
keyword_from parameters place None = None
keyword_from parameters place (Some (name, [])) = None
keyword_from parameters place (Some (name, byte ∷ following)) =
    if byte == ascii.equals then if list_any (bytes_eq name) parameters then Some (record { name = name; text = following; next = place }) else None else None

-- what an operand binds: by keyword, and else the parameter whose turn it is; None where there are no more
unfoldable pub binding : List (List ℕ) → ℕ → List ℕ → Option Binding
binding parameters place piece = elim (keyword_from parameters place (name_at piece)) [
  | Some b ↦ Some b
  | None ↦ elim (slice_get parameters place) [ None ↦ None | Some name ↦ Some (record { name = name; text = piece; next = place + 1 }) ]
]

-- a parameter is bound once
abbrev pub bound_once : List ℕ → List ℕ → Symbols → Option Symbols
bound_once name text symbols = if is_some (symbols name) then None else Some (with_name name (Own Text text) symbols)

-- all operands in order; None where one can't be bound
unfoldable pub bound_all : List (List ℕ) → ℕ → List (List ℕ) → Symbols → Option Symbols
bound_all parameters place [] symbols = Some symbols
bound_all parameters place (piece ∷ more) symbols =
    elim (binding parameters place piece) [
      | None ↦ None
      | Some b ↦ elim (bound_once b.name b.text symbols) [ None ↦ None | Some now ↦ bound_all parameters b.next more now ]
    ]

-- a parameter without an operand is empty
unfoldable pub with_missing : List (List ℕ) → Symbols → Symbols
with_missing [] symbols = symbols
with_missing (name ∷ names) symbols =
    with_missing names (if is_some (symbols name) then symbols else with_name name (Own Text []) symbols)

-- no name represents anything
abbrev pub no_symbols : Symbols
no_symbols name = None

-- the label binds to the label parameter
abbrev pub label_bound : Option (List ℕ) → List ℕ → Symbols
label_bound None label = no_symbols
label_bound (Some name) [] = no_symbols
label_bound (Some name) (byte ∷ following) = with_name name (Own Text (byte ∷ following)) no_symbols

-- the names that a call binds: the label parameter, if there is one, and the parameters
abbrev pub all_names : Model → List (List ℕ)
all_names model = elim model.label [ None ↦ model.parameters | Some name ↦ name ∷ model.parameters ]

-- The symbols with which an expansion begins; None where the operands don't fit. They are separated by commas outside quotes and
-- parentheses, and there are none where there is no operand.
unfoldable pub bound_arguments : Model → List ℕ → List ℕ → Option Symbols
bound_arguments model label operand =
    let operands : List (List ℕ) = elim operand [ [] ↦ [] | byte ∷ following ↦ pieces ascii.comma (byte ∷ following) ] in
    option_map (with_missing (all_names model)) (bound_all model.parameters 0 operands (label_bound model.label label))

-- a parameter can't be SYSCNT
abbrev pub names_count : Model → Bool
names_count model = list_any is_count (all_names model)
