-- What declarations and settings make of symbols and of the shared texts.
use Rattle.std.specs.Prelude.{◌≡◌, ℕ, List, Option, Some, None}
use Rattle.macro_meaning.specs.declared.statements.SymbolKind.{SymbolKind}
use Rattle.macro_meaning.specs.declared.statements.Declaration.{Declaration}
use Rattle.macro_meaning.specs.declared.statements.Declaration.TheVariants.{Local, Shared}
use Rattle.macro_meaning.specs.Symbol.{Symbol, Own, Common, Symbols, SharedTexts, first_text}
use Rattle.orca_meaning.specs.Names.{with_name}
use Rattle.macro_meaning.specs.Visit.{shared_first}

-- what a declaration makes of the symbols and of the shared texts
abbrev pub IsDeclared : List ℕ → Declaration → Symbols → Symbols → SharedTexts → SharedTexts → Type 0
IsDeclared name (Local kind) old new texts texts' = (new ≡ with_name name (Own kind (first_text kind)) old) × (texts' ≡ texts)
IsDeclared name (Shared kind) old new texts texts' = (new ≡ with_name name (Common kind) old) × (texts' ≡ shared_first name kind texts)

-- by what the name represents
abbrev pub IsAssigned : List ℕ → SymbolKind → List ℕ → Option Symbol → Symbols → Symbols → SharedTexts → SharedTexts → Type 0
IsAssigned name kind text None old new texts texts' = (new ≡ old) × (texts' ≡ texts)
IsAssigned name kind text (Some (Own other was)) old new texts texts' = (new ≡ with_name name (Own kind text) old) × (texts' ≡ texts)
IsAssigned name kind text (Some (Common other)) old new texts texts' = (new ≡ old) × (texts' ≡ with_name name (kind, text) texts)

-- what a setting makes of a symbol, and the text that it hands back
abbrev pub IsRenewed : SymbolKind → List ℕ → Symbol → Symbol → Option (List ℕ) → Type 0
IsRenewed kind text (Own other was) new back = (new ≡ Own kind text) × (back ≡ None)
IsRenewed kind text (Common other) new back = (new ≡ Common other) × (back ≡ Some text)

-- what a setting makes of all symbols, and the text that it hands back, by what the name represents
abbrev pub IsRenewedIn : List ℕ → SymbolKind → List ℕ → Option Symbol → Symbols → Symbols → Option (List ℕ) → Type 0
IsRenewedIn name kind text None old new back = (new ≡ old) × (back ≡ None)
IsRenewedIn name kind text (Some (Own other was)) old new back = (new ≡ with_name name (Own kind text) old) × (back ≡ None)
IsRenewedIn name kind text (Some (Common other)) old new back = (new ≡ old) × (back ≡ Some text)
