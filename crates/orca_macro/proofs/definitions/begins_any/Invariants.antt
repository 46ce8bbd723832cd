use Rattle.std.proofs.Common.{◌≡◌, ◌-◌, drop, length}
use Rattle.std.specs.Prelude.{codes}
use Rattle.std.specs.List.{list_any}
use Rattle.macro_meaning.specs.Definition.{operation_is}
use Rattle.orca_macro.proofs.definitions.begins_any.Given as goal

abbrev pub invariant-lines : goal.invariant-lines
invariant-lines l = list_any (operation_is (codes "MACRO")) (drop l.at l.lines) ≡ list_any (operation_is (codes "MACRO")) l.lines

abbrev pub decreases-lines : goal.decreases-lines
decreases-lines l = length l.lines - l.at
