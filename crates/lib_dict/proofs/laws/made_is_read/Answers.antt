use Rattle.lib_dict.proofs.MadeLaws.{made_is_read}
use Rattle.lib_dict.proofs.laws.made_is_read.Goals as goal

pub returns : goal.returns
returns c = made_is_read
