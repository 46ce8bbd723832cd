use Rattle.name_map.specs.Held.{value_of_name}
use Rattle.orca_symbols.specs.View.{symbol}
use Rattle.orca_symbols.proofs.Maps.{named, seen_new}
use Rattle.orca_symbols.proofs.symbols.Symbols.add_new.Goals as goal

pub returns-in-Ok : goal.returns-in-Ok
returns-in-Ok c = record {
  ok = named symbol c.args.name.now c.args.value c.args.self.now.map c.insert_new_name.new.map c.in-Ok.ensures.ok;
  fresh = seen_new symbol (value_of_name c.args.self.now.map c.args.name.now) c.in-Ok.fresh c.in-Ok.ensures.fresh;
}
