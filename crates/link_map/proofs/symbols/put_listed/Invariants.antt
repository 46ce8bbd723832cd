use Rattle.std.proofs.Common.{◌≡◌, length}
use Rattle.omf_records.specs.Segments.{segment_of_view}
use Rattle.link_map.proofs.SymbolLaws.{IsTelling}
use Rattle.link_map.proofs.symbols.put_listed.Given as goal

-- the lines of what the name and the first records define
abbrev pub invariant-walk : goal.invariant-walk
invariant-walk l = record {
  telling : IsTelling l.listed l.values l.place (segment_of_view l.segment) l.records l.location l.fn.line l.line;
  layout : l.records.layout.lab_len ≡ l.segment.header.lab_len;
}

abbrev pub decreases-walk : goal.decreases-walk
decreases-walk l = length l.records.left
