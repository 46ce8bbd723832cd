use Rattle.std.proofs.Common.{take}
use Rattle.link_tables.specs.Laid.{AllShort}
use Rattle.link_tables.proofs.layout.LinkLayout.too_long.Given as goal

abbrev pub invariant-loads : goal.invariant-loads
invariant-loads l = AllShort (take l.load-index l.self.loads.items)
