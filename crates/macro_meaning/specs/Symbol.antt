-- Symbols, and the texts that they represent (ORCA/M reference manual, "Symbolic parameters").
use Rattle.std.specs.Prelude.{ℕ, Bool, true, false, List, [], ◌∷◌, codes, bytes_eq, Option, Some, None, ℤ, pos, negsuc, ◌+◌, if◌then◌else◌}
use Rattle.std.specs.Fmt.{digits}
use Rattle.omf_format.specs.Ascii as ascii
use Rattle.macro_meaning.specs.declared.statements.SymbolKind.{SymbolKind}
use Rattle.macro_meaning.specs.declared.statements.SymbolKind.TheVariants.{Number, Flag, Text}
use Rattle.macro_meaning.specs.declared.statements.Declaration.{Declaration}
use Rattle.macro_meaning.specs.declared.statements.Declaration.TheVariants.{Local, Shared}

-- a symbol of an expansion: its own, with its text, or one that all expansions share
pub data Symbol : Type 0 where
  Own : (kind : SymbolKind) (text : List ℕ) → Symbol
  Common : (kind : SymbolKind) → Symbol

-- what names represent in an expansion, and the texts of the shared symbols with their kinds
abbrev pub Symbols : Type 0
Symbols = List ℕ → Option Symbol

-- the shared symbols by name, each with its kind and its text
abbrev pub SharedTexts : Type 0
SharedTexts = List ℕ → Option (SymbolKind × List ℕ)

-- all that a line may name: the symbols of its expansion, the shared texts, and how many macros were called
pub record Values : Type 0 where
  pub symbols : Symbols
  pub texts : SharedTexts
  pub calls : ℕ

-- the symbol SYSCNT, which is declared everywhere
abbrev pub is_count : List ℕ → Bool
is_count name = bytes_eq (codes "SYSCNT") name

-- a number in decimal digits
abbrev pub decimal : ℕ → List ℕ
decimal n = digits 10 false n

-- the text of a symbol, if it is declared; that of SYSCNT is the number of calls
unfoldable pub text_of : Values → List ℕ → Option (List ℕ)
text_of values name = if is_count name then Some (decimal values.calls) else elim (values.symbols name) [
  | None ↦ None
  | Some (Own kind text) ↦ Some text
  | Some (Common kind) ↦ elim (values.texts name) [ None ↦ None | Some (other, text) ↦ Some text ]
]

-- ---- what symbols hold

-- the kind of a symbol, its own or a shared one
abbrev pub kind_of : Symbol → SymbolKind
kind_of (Own kind text) = kind
kind_of (Common kind) = kind

-- the declaration that makes such a symbol
abbrev pub declaration_of : Symbol → Declaration
declaration_of (Own kind text) = Local kind
declaration_of (Common kind) = Shared kind

-- two kinds are the same
abbrev pub is_kind : SymbolKind → SymbolKind → Bool
is_kind Number Number = true
is_kind Flag Flag = true
is_kind Text Text = true
is_kind _ _ = false

-- two declarations are the same
abbrev pub is_declaration : Declaration → Declaration → Bool
is_declaration (Local a) (Local b) = is_kind a b
is_declaration (Shared a) (Shared b) = is_kind a b
is_declaration _ _ = false

-- what a symbol holds at first
abbrev pub first_text : SymbolKind → List ℕ
first_text Number = codes "0"
first_text Flag = codes "0"
first_text Text = []

-- a signed number as it is printed
abbrev pub signed_decimal : ℤ → List ℕ
signed_decimal (pos n) = decimal n
signed_decimal (negsuc n) = ascii.minus ∷ decimal (n + 1)
