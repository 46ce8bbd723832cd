use Rattle.std.proofs.Common.{length, map}
use Rattle.script_text.specs.View.{command}
use Rattle.script_text.proofs.Come.{HasCome}
use Rattle.script_text.proofs.script.read_script.Given as goal

abbrev pub invariant-lines : goal.invariant-lines
invariant-lines l = HasCome l.text l.rest l.before (map command l.commands.items)

abbrev pub decreases-lines : goal.decreases-lines
decreases-lines l = length l.rest
