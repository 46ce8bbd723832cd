use Rattle.std.proofs.Common.{◌∙◌}
use Rattle.lib_dict.proofs.Sets.{look_up}
use Rattle.lib_dict.proofs.known.is_known.Goals as goal

pub returns : goal.returns
returns c = c.contains.ensures ∙ look_up c.args.known.now.keys c.args.row
