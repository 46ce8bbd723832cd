use Rattle.lib_dict.proofs.MadeOnce.{made_excludes}
use Rattle.lib_dict.proofs.laws.made_is_refused_for_memory_alone.Goals as goal

pub returns : goal.returns
returns c = made_excludes
