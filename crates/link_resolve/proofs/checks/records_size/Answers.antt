use Rattle.std.proofs.Common.{ℕ, refl, sym, ap, ◌∙◌}
use Rattle.link_meaning.specs.laws.Steps.{records_fault}
use Rattle.omf_format.specs.Record.{Record}
use Rattle.omf_records.specs.Segments.{segment_of_view}
use Rattle.omf_records.specs.View.{view}
use Rattle.object_meaning.specs.Sizes.{body_size}
use Rattle.link_tables.proofs.ComingLaws.{coming_view, found_next, found_end}
use Rattle.link_tables.proofs.FirstLeft.{first_end, first_here}
use Rattle.link_tables.proofs.Sized.{sized_end, sized_more}
use Rattle.link_resolve.proofs.checks.records_size.Goals as goal

pub walk-init : goal.walk-init
walk-init c =
    let all = (segment_of_view c.args.segment.now).records in
    record {
      first = record { back = all; coming = coming_view c.args.segment.now c.records-records.result c.requires c.records-records.ensures; whole = refl };
      cells = 0;
      whole = refl;
      reported = refl;
    }

pub next_record-requires : goal.next_record-requires
next_record-requires c = (c.walk.invariant.first.back, c.walk.invariant.first.coming)

pub returns-in-None-clause-sound : goal.returns-in-None-clause-sound
returns-in-None-clause-sound c =
    let s = c.walk.invariant in
    let all = (segment_of_view c.args.segment.now).records in
    let none = found_end c.walk.records c.next_record.new.records s.first.back c.next_record.result s.first.coming c.next_record.ensures.walk c.in-None.is in
    sym (first_end c.alignment-align.result all c.walk.records c.next_record.new.records s.first none ∙ ap (λ (a : ℕ). records_fault a all) c.alignment-align.ensures)

pub returns-in-None-clause-size : goal.returns-in-None-clause-size
unfolding body_size
returns-in-None-clause-size c =
    let s = c.walk.invariant in
    let all = (segment_of_view c.args.segment.now).records in
    let none = found_end c.walk.records c.next_record.new.records s.first.back c.next_record.result s.first.coming c.next_record.ensures.walk c.in-None.is in
    sized_end c.alignment-align.result all c.walk.records c.next_record.new.records c.walk.size s none

pub returns-in-Some-record_fault-clause-fault : goal.returns-in-Some-record_fault-clause-fault
returns-in-Some-record_fault-clause-fault c =
    let s = c.walk.invariant in
    let all = (segment_of_view c.args.segment.now).records in
    let found : ℕ × Record = (c.in-Some.at, view c.in-Some.rec) in
    let w = found_next c.walk.records c.next_record.new.records s.first.back c.next_record.result (c.in-Some.at, c.in-Some.rec) s.first.coming c.next_record.ensures.walk c.in-Some.is in
    sym (first_here c.alignment-align.result all c.walk.records c.next_record.new.records found c.in-Some-record_fault.cause s.first w (sym c.record_fault.ensures ∙ c.in-Some-record_fault.is)
    ∙ ap (λ (a : ℕ). records_fault a all) c.alignment-align.ensures)

pub walk-preserved : goal.walk-preserved
walk-preserved c =
    let s = c.walk.invariant in
    let found : ℕ × Record = (c.in-Some.at, view c.in-Some.rec) in
    let w = found_next c.walk.records c.next_record.new.records s.first.back c.next_record.result (c.in-Some.at, c.in-Some.rec) s.first.coming c.next_record.ensures.walk c.in-Some.is in
    sized_more c.alignment-align.result (segment_of_view c.args.segment.now).records c.walk.records c.next_record.new.records c.walk.size c.size_after-size.result found s w (sym c.record_fault.ensures ∙ c.in-None-record_fault.is) (c.size_after-size.ensures s.cells s.reported)
