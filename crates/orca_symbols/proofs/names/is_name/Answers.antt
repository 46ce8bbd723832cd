use Rattle.orca_symbols.proofs.WholeName.{no_start}
use Rattle.orca_symbols.proofs.names.is_name.Goals as goal

pub returns-else-is_name_start : goal.returns-else-is_name_start
returns-else-is_name_start c = no_start c.args.text.now c.in-Some.first.now c.in-Some.others.now c.is_name_start.result c.in-Some.ensures.cases.0 c.is_name_start.ensures c.if-is_name_start.false
