use Rattle.std.proofs.Common.{Some, rules, sym, ap}
use Rattle.std.specs.Option.{option_map}
use Rattle.orca_symbols.specs.View.{symbol, symbols_of}
use Rattle.name_map.proofs.Maps.{updated}
use Rattle.orca_symbols.proofs.Maps.{named}
use Rattle.orca_symbols.proofs.Renewals.{renewed_in}
use Rattle.orca_symbols.proofs.symbols.Symbols.renew.Goals as goal

pub returns-in-Some : goal.returns-in-Some
returns-in-Some c =
    let now = c.renew.new.slot in
    let map = c.get_mut.follows.lender now in
    renewed_in c.args.name.now c.args.kind c.args.text (symbol c.in-Some.slot.now) (symbol now) (symbols_of c.args.self.now) (symbols_of (record { map = map })) c.renew.result
    (ap (option_map symbol) (sym c.in-Some.ensures.value))
    (named symbol c.args.name.now now c.args.self.now.map map (updated c.args.name.now c.args.self.now.map map (Some now) ((c.get_mut.follows.holds now).3 (search rules))))
    c.renew.ensures
