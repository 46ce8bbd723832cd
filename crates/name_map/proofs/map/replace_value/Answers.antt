use Rattle.std.proofs.Common.{rules, Some}
use Rattle.name_map.proofs.Maps.{updated}
use Rattle.name_map.proofs.map.replace_value.Goals as goal

pub returns-in-Some : goal.returns-in-Some
returns-in-Some g c = updated c.args.name.now c.args.map.now (c.get_mut.follows.lender c.args.value) (Some c.args.value) ((c.get_mut.follows.holds c.args.value).3 (search rules))
