-- How pieces, symbols and their values are seen.
use Rattle.std.specs.Prelude.{ℕ, List}
use Rattle.std.specs.Option.{option_map}
use Rattle.macro_meaning.specs.declared.statements.SymbolKind.{SymbolKind}
use Rattle.macro_meaning.specs.Symbol as meaning
use Rattle.macro_meaning.specs.Substitution as place
use Rattle.orca_symbols.specs.declared.substitution.Naming.{Naming}
use Rattle.orca_symbols.specs.declared.substitution.Naming.TheVariants.{Replaced, Named, Declared}
use Rattle.orca_symbols.specs.declared.symbols.Symbol.{Symbol}
use Rattle.orca_symbols.specs.declared.symbols.Symbol.TheVariants.{Own, Common}
use Rattle.orca_symbols.specs.declared.symbols.SharedText.{SharedText}
use Rattle.orca_symbols.specs.declared.symbols.Symbols.{Symbols}
use Rattle.orca_symbols.specs.declared.symbols.SharedTextTable.{SharedTextTable}
use Rattle.orca_symbols.specs.declared.symbols.Values.{Values}
use Rattle.name_map.specs.Held.{value_of_name}

-- a symbol
abbrev pub symbol : Symbol → meaning.Symbol
symbol (Own kind text) = meaning.Own kind text
symbol (Common kind) = meaning.Common kind

-- the kind of a shared symbol, and its text
abbrev pub shared_text : SharedText → SymbolKind × List ℕ
shared_text shared = (shared.kind, shared.text)

-- the symbols of an expansion by name
abbrev pub symbols_of : Symbols → meaning.Symbols
symbols_of symbols name = option_map symbol (value_of_name symbols.map name)

-- the shared texts by name
abbrev pub texts_of : SharedTextTable → meaning.SharedTexts
texts_of texts name = option_map shared_text (value_of_name texts.map name)

-- all that a line may name
abbrev pub values : Values → meaning.Values
values of = record { symbols = symbols_of of.symbols.now; texts = texts_of of.texts.now; calls = of.calls.now }

-- what `&NAME` is at a place
abbrev pub naming : Naming → place.Naming
naming Replaced = place.Replaced
naming Named = place.Named
naming Declared = place.Declared
