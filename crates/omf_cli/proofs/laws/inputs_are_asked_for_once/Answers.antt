use Rattle.omf_cli.proofs.Once.{inputs_are_asked_for_once, no_more_is_asked_for, scripts_are_asked_for_once}
use Rattle.omf_cli.proofs.laws.inputs_are_asked_for_once.Goals as goal

pub returns : goal.returns
returns c = record { inputs = inputs_are_asked_for_once; no_more = no_more_is_asked_for; scripts = scripts_are_asked_for_once }
