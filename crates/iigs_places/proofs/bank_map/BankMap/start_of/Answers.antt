use Rattle.std.proofs.Common.{◌≡◌, ◌<◌, ◌∙◌, length, arith}
use Rattle.std.proofs.lemmas.Grind.{get_or_default_zero}
use Rattle.iigs_places.specs.Offsets.{bytes_below}
use Rattle.iigs_places.proofs.Counts.{bytes_below_le}
use Rattle.iigs_places.proofs.bank_map.BankMap.start_of.Goals as goal

pub returns : goal.returns
returns c =
    let inside : c.args.bank < length c.self.inside.starts.items = omega (arith, c.self.invariant.size, c.requires) in
    let is : c.index.result.now ≡ bytes_below c.self.inside.numbers.items c.args.bank =
    c.index.ensures ∙ get_or_default_zero c.self.inside.starts.items c.args.bank c.index.result.now inside ∙ c.self.invariant.sums c.args.bank c.requires in
    rw (← c.self.view_is) (record {
      value = is;
      small = rw is (bytes_below_le c.self.inside.numbers.items c.args.bank);
    })
