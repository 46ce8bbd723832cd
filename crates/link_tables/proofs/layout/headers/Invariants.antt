use Rattle.std.proofs.Common.{◌≡◌, map, take}
use Rattle.omf_header.specs.View.{fields}
use Rattle.link_tables.specs.Laid.{AreHeaders}
use Rattle.link_tables.proofs.layout.headers.Given as goal

abbrev pub invariant-loads : goal.invariant-loads
invariant-loads l = (l.number ≡ l.load-index) × AreHeaders 1 (take l.load-index l.layout.loads.items) (map (λ header. fields header) l.headers.items)
