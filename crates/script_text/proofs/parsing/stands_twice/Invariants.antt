use Rattle.std.proofs.Common.{◌≡◌, length}
use Rattle.loader_machine.specs.Script.{stands_twice}
use Rattle.script_text.proofs.parsing.stands_twice.Given as goal

-- a number is in the list twice where one of those that are left is
abbrev pub invariant-numbers : goal.invariant-numbers
invariant-numbers l = stands_twice l.numbers ≡ stands_twice l.left

abbrev pub decreases-numbers : goal.decreases-numbers
decreases-numbers l = length l.left
