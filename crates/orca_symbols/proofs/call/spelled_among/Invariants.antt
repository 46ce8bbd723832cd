use Rattle.std.proofs.Common.{◌≡◌, false, take}
use Rattle.macro_meaning.specs.laws.Steps.{is_among}
use Rattle.orca_meaning.specs.Characters.{folded}
use Rattle.orca_symbols.proofs.call.spelled_among.Given as goal

-- it is none of the names so far
abbrev pub invariant-names : goal.invariant-names
invariant-names l = is_among (take l.name-index l.names) (folded l.text) ≡ false
