use Rattle.link_resolve.specs.declared.gather.Gathered.{Gathered}
use Rattle.link_resolve.proofs.GatherLaws.{gathered_none}
use Rattle.link_resolve.proofs.gather.Gathered.new.Goals as goal

pub returns : goal.returns
returns c =
    let new : Gathered = record { files = c.new.result; linked = c.new-2.result; offers = c.new-3.result } in
    gathered_none new c.new.ensures.items c.new-2.ensures c.new-3.ensures
