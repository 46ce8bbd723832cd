use Rattle.loader_machine.specs.laws.ScriptCommandLaws.{IsScript-keeps}
use Rattle.loader_script.proofs.run.run_script.Goals as goal

pub run_commands-requires : goal.run_commands-requires
run_commands-requires g c = IsScript-keeps c.args.text.now c.in-Ok.script c.in-Ok.ensures.commands
