use Rattle.std.proofs.Common.{ℕ, ap, subst, ◌∙◌, arith}
use Rattle.omf_format.specs.Field.{Layout, IsName}
use Rattle.omf_format.specs.Record.{Record}
use Rattle.omf_records.specs.Segments.{segment_of_view}
use Rattle.omf_records.specs.View.{view}
use Rattle.link_program.specs.Outside.{all_found}
use Rattle.link_values.specs.Slots.{rows_of}
use Rattle.link_file.specs.Exported.{seen_name}
use Rattle.link_values.proofs.Coming.{coming_view, body_lab_len, found_next, found_end}
use Rattle.link_file.proofs.ExportLaws.{number_fits, name_fits, exporting_all, exporting_more, exporting_named, exporting_there, exporting_end}
use Rattle.link_file.proofs.exports.put_segment.Goals as goal

pub walk-init : goal.walk-init
walk-init c =
    let list = c.args.context.now.link.program.now in
    record {
      exporting = exporting_all list (rows_of (all_found list) c.args.context.now.slots.now) (segment_of_view c.args.segment.now) c.args.first c.in_ok-number.number c.records-records.result c.put_title.new.out.items
          (coming_view c.args.segment.now c.records-records.result c.requires.sound c.records-records.ensures) c.in_ok-number.ensures.next c.in_ok-number.ensures.exported;
      layout = body_lab_len c.args.segment.now c.records-records.result c.records-records.ensures;
    }

pub returns-in-None-clause-next : goal.returns-in-None-clause-next
returns-in-None-clause-next c =
    let list = c.args.context.now.link.program.now in
    let e = c.walk.invariant.exporting in
    exporting_end list (rows_of (all_found list) c.args.context.now.slots.now) (segment_of_view c.args.segment.now) c.args.first c.walk.number c.walk.records c.walk.out.items e
    (found_end c.walk.records c.next_record.new.records e.back c.next_record.result e.coming c.next_record.ensures.walk c.in-None.is)

pub returns-in-None-clause-exported : goal.returns-in-None-clause-exported
returns-in-None-clause-exported c = c.walk.invariant.exporting.exported

pub put_seen-requires-clause-named : goal.put_seen-requires-clause-named
put_seen-requires-clause-named c =
    let e = c.walk.invariant.exporting in
    let own = c.in-Some-seen_in.ensures (c.in-Some.field-0-0) 0 in
    subst (IsName 0) own.2.name'
    (name_fits c.walk.records.layout (view c.in-Some.rec) own.0 c.in-Some.field-0-0 0 (omega (arith, c.walk.invariant.layout)) c.in-Some.ensures.formed own.1)

pub overflow_add-number : goal.overflow_add-number
overflow_add-number c =
    let list = c.args.context.now.link.program.now in
    let e = c.walk.invariant.exporting in
    let w = found_next c.walk.records c.next_record.new.records e.back c.next_record.result (c.in-Some.field-0-0, c.in-Some.rec) e.coming c.next_record.ensures.walk c.in-Some.is in
    let f = exporting_there list (rows_of (all_found list) c.args.context.now.slots.now) (segment_of_view c.args.segment.now) c.args.first c.walk.number c.walk.records (c.in-Some.field-0-0, view c.in-Some.rec) w.0 (seen_name c.in-Some-seen_in.seen) c.walk.out.items e
    c.requires.stands w.1 (λ loc. c.in-Some-seen_in.ensures c.in-Some.field-0-0 loc) in
    omega (arith, number_fits list c.args.context.now.slots.now c.walk.number f.0 c.requires.whole.known.are f.1)

pub walk-preserved-in-Some-seen_in : goal.walk-preserved-in-Some-seen_in
walk-preserved-in-Some-seen_in c =
    let list = c.args.context.now.link.program.now in
    let reported = rows_of (all_found list) c.args.context.now.slots.now in
    let s = segment_of_view c.args.segment.now in
    let e = c.walk.invariant.exporting in
    let found : ℕ × Record = (c.in-Some.field-0-0, view c.in-Some.rec) in
    let seen = seen_name c.in-Some-seen_in.seen in
    let some = λ (loc : ℕ). c.in-Some-seen_in.ensures c.in-Some.field-0-0 loc in
    let w = found_next c.walk.records c.next_record.new.records e.back c.next_record.result (c.in-Some.field-0-0, c.in-Some.rec) e.coming c.next_record.ensures.walk c.in-Some.is in
    let f = exporting_there list reported s c.args.first c.walk.number c.walk.records found w.0 seen c.walk.out.items e c.requires.stands w.1 some in
    record {
      exporting = exporting_named list reported s c.args.first c.walk.number c.walk.records c.next_record.new.records found w.0 seen c.walk.out.items c.put_seen.new.out.items e w.1 w.2 some (c.in_ok-put_seen-in-Some-seen_in.ensures f.0 f.1 f.2 e.exported);
      layout = ap (λ (l : Layout). l.lab_len) c.next_record.ensures.layout ∙ c.walk.invariant.layout;
    }

pub walk-preserved : goal.walk-preserved
walk-preserved c =
    let list = c.args.context.now.link.program.now in
    let e = c.walk.invariant.exporting in
    let w = found_next c.walk.records c.next_record.new.records e.back c.next_record.result (c.in-Some.field-0-0, c.in-Some.rec) e.coming c.next_record.ensures.walk c.in-Some.is in
    record {
      exporting = exporting_more list (rows_of (all_found list) c.args.context.now.slots.now) (segment_of_view c.args.segment.now) c.args.first c.walk.number c.walk.records c.next_record.new.records (c.in-Some.field-0-0, view c.in-Some.rec) w.0 c.walk.out.items e w.1 w.2
          (λ loc. c.in-None-seen_in.ensures c.in-Some.field-0-0 loc);
      layout = ap (λ (l : Layout). l.lab_len) c.next_record.ensures.layout ∙ c.walk.invariant.layout;
    }
