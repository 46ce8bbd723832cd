use Rattle.std.proofs.Common.{◌^◌, arith}
use Rattle.link_meaning.specs.Search.{with_this_name}
use Rattle.link_program.proofs.OutsideTables.{looked, below, size_is}
use Rattle.link_program.proofs.outside.OutsideNames.look.Goals as goal

pub returns-clause-found : goal.returns-clause-found
returns-clause-found c = λ fs are. looked fs c.args.self.now c.args.name.now c.look.result are c.look.ensures

pub returns-clause-below : goal.returns-clause-below
returns-clause-below c = λ table.
    let fs = table.0 in
    let name = c.args.name.now in
    below (2 ^ 63) fs (with_this_name name fs) c.look.result (omega (arith, size_is fs c.args.self.now table.1, c.args.self.now.places.ok, c.args.self.now.places.small))
    (looked fs c.args.self.now name c.look.result table.1 c.look.ensures)
