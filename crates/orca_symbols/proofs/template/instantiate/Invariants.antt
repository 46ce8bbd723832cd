use Rattle.std.proofs.Common.{◌≡◌, [], Some, drop}
use Rattle.macro_meaning.specs.Substitution.{with_front}
use Rattle.macro_meaning.specs.Symbol.{text_of}
use Rattle.orca_symbols.specs.Template.{text_before}
use Rattle.orca_symbols.specs.View.{values}
use Rattle.orca_symbols.proofs.template.instantiate.Given as goal

abbrev pub invariant-parts : goal.invariant-parts
invariant-parts l = with_front l.out.items (text_before (text_of (values l.of)) (drop l.part-index l.parts) (Some [])) ≡ text_before (text_of (values l.of)) l.parts (Some [])
