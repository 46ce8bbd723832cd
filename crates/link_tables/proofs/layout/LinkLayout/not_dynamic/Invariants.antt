use Rattle.std.proofs.Common.{take}
use Rattle.link_tables.specs.Laid.{AllDynamic}
use Rattle.link_tables.proofs.layout.LinkLayout.not_dynamic.Given as goal

abbrev pub invariant-loads : goal.invariant-loads
invariant-loads l = AllDynamic (take l.load-index l.self.loads.items)
