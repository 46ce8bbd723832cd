use Rattle.orca_symbols.specs.View.{shared_text}
use Rattle.orca_symbols.proofs.Maps.{named}
use Rattle.orca_symbols.proofs.symbols.SharedTextTable.set.Goals as goal

pub returns-in-Ok : goal.returns-in-Ok
returns-in-Ok c = named shared_text c.args.name.now c.args.value c.args.self.now.map c.insert_by_name.new.map c.in-Ok.ensures.ok
