use Rattle.list_lines.proofs.NameLaws.{name_added}
use Rattle.list_lines.proofs.names.Names.add.Goals as goal

pub returns-in-Ok : goal.returns-in-Ok
returns-in-Ok c = name_added c.args.name.now c.args.self.now.map c.insert.new.self c.in-Ok.ensures.updates
