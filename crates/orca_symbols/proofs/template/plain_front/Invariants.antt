use Rattle.std.proofs.Common.{drop}
use Rattle.orca_symbols.proofs.Templates.{Leads}
use Rattle.orca_symbols.proofs.template.plain_front.Given as goal

abbrev pub invariant-parts : goal.invariant-parts
invariant-parts l = Leads l.parts (drop l.part-index l.parts)
