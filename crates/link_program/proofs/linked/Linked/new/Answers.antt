use Rattle.link_program.specs.declared.linked.Linked.{Linked}
use Rattle.link_program.proofs.LinkedLaws.{held_none}
use Rattle.link_program.proofs.linked.Linked.new.Goals as goal

pub returns : goal.returns
returns c =
    let new : Linked = record { members = c.new.result; names = c.new-2.result; usings = c.new-3.result; definitions = c.new-4.result; titles = c.new-5.result; uses = c.new-6.result } in
    held_none new c.new.ensures.items c.new-2.ensures.empty c.new-3.ensures.none c.new-3.ensures.empty c.new-4.ensures c.new-5.ensures c.new-6.ensures
