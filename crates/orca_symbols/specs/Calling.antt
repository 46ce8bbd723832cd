-- How bindings are seen.
use Rattle.std.specs.Prelude.{◌≡◌, ◌<◌, ℕ, Bool, true, false, List, Some, None, slice_get, is_some}
use Rattle.macro_meaning.specs.Call as meaning
use Rattle.macro_meaning.specs.Symbol.{Symbols}
use Rattle.orca_symbols.specs.declared.call.Bind.{Bind}

-- what an operand binds
abbrev pub bind : Bind → meaning.Binding
bind b = record { name = b.name.now; text = b.text.now; next = b.next }

-- a parameter that wasn't bound got this text
abbrev pub IsOnce : Bool → List ℕ → List ℕ → Symbols → Symbols → Type 0
IsOnce true name text old new = meaning.bound_once name text old ≡ Some new
IsOnce false name text old new = meaning.bound_once name text old ≡ None

-- all names before this place have a symbol
abbrev pub AreBound : List (List ℕ) → ℕ → Symbols → Type 0
AreBound names place symbols = (i : ℕ) (name : List ℕ) → i < place → slice_get names i ≡ Some name → is_some (symbols name) ≡ true
