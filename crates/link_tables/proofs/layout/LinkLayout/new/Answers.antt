use Rattle.std.proofs.Common.{None, refl}
use Rattle.link_tables.specs.declared.layout.LinkLayout.{LinkLayout}
use Rattle.link_tables.proofs.LaidLaws.{laid_none}
use Rattle.link_tables.proofs.layout.LinkLayout.new.Goals as goal

pub returns : goal.returns
returns c =
    let new : LinkLayout = record { names = c.new.result; loads = c.new-2.result; places = c.new-3.result; conflict = None } in
    laid_none new c.new.ensures c.new-2.ensures.items c.new-3.ensures.items refl
