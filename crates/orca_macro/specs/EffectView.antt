-- How effects are seen, and where a line is.
use Rattle.macro_meaning.specs.Effect as meaning
use Rattle.orca_macro.specs.declared.effect.Effect.{Effect}
use Rattle.orca_macro.specs.declared.effect.Effect.TheVariants.{NoEffect, Emit, DeclareSymbol, SetSymbol, BranchTo, SetCounter, Exit, CallMacro, Fail}
use Rattle.orca_macro.specs.declared.visited.Standing.{Standing}
use Rattle.orca_symbols.specs.View.{symbols_of, values}

-- what a line does
abbrev pub effect_view : Effect → meaning.Effect
effect_view NoEffect = meaning.NoEffect
effect_view (Emit text) = meaning.Emit text
effect_view (DeclareSymbol name declaration) = meaning.DeclareSymbol name declaration
effect_view (SetSymbol name kind text) = meaning.SetSymbol name kind text
effect_view (BranchTo name) = meaning.BranchTo name
effect_view (SetCounter n) = meaning.SetCounter n
effect_view Exit = meaning.Exit
effect_view (CallMacro place symbols) = meaning.CallMacro place (symbols_of symbols)
effect_view (Fail cause) = meaning.Fail cause

-- where a line is
abbrev pub where_ : Standing → meaning.SymbolSetting
where_ at = record { definitions = at.program.now.definitions; root = at.root; in_source = at.in_source; values = values at.values }
