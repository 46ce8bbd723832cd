use Rattle.std.proofs.Common.{◌≡◌, length, List}
use Rattle.omf_records.specs.Segments.{segment_of_view}
use Rattle.load_meaning.specs.Cells.{Cell}
use Rattle.link_meaning.specs.Member.{Member}
use Rattle.link_program.specs.Outside.{all_found}
use Rattle.link_values.specs.Slots.{rows_of}
use Rattle.link_file.specs.Walks.{Begins, Puts, Putting}
use Rattle.link_file.proofs.walk.put_records.Given as goal

-- the records so far gave their cells
abbrev pub invariant-walk : goal.invariant-walk
invariant-walk l = record {
  putting : Putting (segment_of_view l.segment).records l.records l.location;
  layout : l.records.layout.lab_len ≡ l.segment.header.lab_len;
  puts : (front : List Member) (m : Member) (back : List Member) (before : List Cell)
      → Begins l.context.link.program.now (rows_of (all_found l.context.link.program.now) l.context.slots.now) front m back l.member_place (segment_of_view l.segment) l.initial.table before l.initial.content
      → Puts l.context.link.program.now (rows_of (all_found l.context.link.program.now) l.context.slots.now) front m putting.done l.table before l.content;
}

abbrev pub decreases-walk : goal.decreases-walk
decreases-walk l = length l.records.left
