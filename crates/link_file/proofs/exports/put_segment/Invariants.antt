use Rattle.std.proofs.Common.{◌≡◌, length}
use Rattle.omf_records.specs.Segments.{segment_of_view}
use Rattle.link_program.specs.Outside.{all_found}
use Rattle.link_values.specs.Slots.{rows_of}
use Rattle.link_file.specs.Exported.{Exporting}
use Rattle.link_file.proofs.exports.put_segment.Given as goal

-- the definitions so far have their ENTRY records
abbrev pub invariant-walk : goal.invariant-walk
invariant-walk l = record {
  exporting : Exporting l.context.link.program.now (rows_of (all_found l.context.link.program.now) l.context.slots.now) (segment_of_view l.segment) l.first l.number l.records l.out.items;
  layout : l.records.layout.lab_len ≡ l.segment.header.lab_len;
}

abbrev pub decreases-walk : goal.decreases-walk
decreases-walk l = length l.records.left
