use Rattle.loader_machine.specs.laws.ScriptLaws.{IsScript-same, IsFirstBadLine-same, no_script}
use Rattle.loader_machine.specs.laws.ScriptCommandLaws.{IsScript-keeps}
use Rattle.script_text.proofs.laws.scripts_are_read_in_one_way.Goals as goal

pub returns-clause-one_list : goal.returns-clause-one_list
returns-clause-one_list c text a b = IsScript-same text a b

pub returns-clause-one_bad_line : goal.returns-clause-one_bad_line
returns-clause-one_bad_line c = IsFirstBadLine-same

pub returns-clause-no_script : goal.returns-clause-no_script
returns-clause-no_script c = no_script

pub returns-clause-bounds : goal.returns-clause-bounds
returns-clause-bounds c = IsScript-keeps
