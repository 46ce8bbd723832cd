use Rattle.std.proofs.Common.{◌+◌, ◌<◌, ◌^◌, ℕ, refl, ap, ◌∙◌, arith}
use Rattle.omf_format.specs.Field.{Layout}
use Rattle.omf_format.specs.Record.{Record}
use Rattle.omf_records.specs.Segments.{segment_of_view}
use Rattle.omf_records.specs.View.{view}
use Rattle.object_meaning.specs.Sizes.{records_with_offsets, body_size, place_after}
use Rattle.link_meaning.specs.Uses.{used_by, uses_of}
use Rattle.link_tables.proofs.ComingLaws.{coming_view, found_next, found_end}
use Rattle.link_tables.proofs.DefinitionLaws.{defining_all, defining_end, defining_within, defining_more}
use Rattle.link_tables.proofs.UseLaws.{gave_more, gave_all, body_lab_len}
use Rattle.link_tables.proofs.body.add_body.Goals as goal

pub walk-init : goal.walk-init
walk-init c =
    let coming = coming_view c.args.segment.now c.records-records.result c.requires.sound c.records-records.ensures in (
      defining_all (segment_of_view c.args.segment.now).records c.records-records.result c.args.definitions.now c.args.origin c.args.place coming,
      record {
        back = (segment_of_view c.args.segment.now).records;
        coming = coming;
        parts = refl;
        layout = body_lab_len c.args.segment.now c.records-records.result c.records-records.ensures;
      },
      λ short. short,
    )

pub next_record-requires : goal.next_record-requires
next_record-requires c = (c.walk.invariant.0.back, c.walk.invariant.0.coming)

pub returns-in-None-clause-defines : goal.returns-in-None-clause-defines
unfolding records_with_offsets
returns-in-None-clause-defines c =
    let i = c.walk.invariant.0 in
    let none = found_end c.walk.records c.next_record.new.records i.back c.next_record.result i.coming c.next_record.ensures.walk c.in-None.is in
    defining_end (segment_of_view c.args.segment.now).records c.walk.records c.walk.location c.args.definitions.now c.walk.definitions c.args.origin c.args.place i none

pub returns-in-None-clause-gave : goal.returns-in-None-clause-gave
unfolding uses_of
returns-in-None-clause-gave c =
    let i = c.walk.invariant.1 in
    let none = found_end c.walk.records c.next_record.new.records i.back c.next_record.result i.coming c.next_record.ensures.walk c.in-None.is in
    gave_all (λ (found : ℕ × Record). used_by c.args.segment.now.header.lab_len found.0 found.1) c.args.place _ c.walk.uses i.back i.parts none

pub overflow_add-location : goal.overflow_add-location
unfolding body_size
overflow_add-location c =
    let i = c.walk.invariant.0 in
    let found : ℕ × Record = (c.in-Some.at, view c.in-Some.rec) in
    let w = found_next c.walk.records c.next_record.new.records i.back c.next_record.result (c.in-Some.at, c.in-Some.rec) i.coming c.next_record.ensures.walk c.in-Some.is in
    let within = defining_within (segment_of_view c.args.segment.now).records c.walk.records c.next_record.new.records c.walk.location c.args.definitions.now c.walk.definitions c.args.origin c.args.place found i w in
    let small : place_after 0 (segment_of_view c.args.segment.now).records < 2 ^ 32 = c.requires.small in
    omega (arith, within, small, c.from.ensures, c.size_at.ensures.value)

pub overflow_cast-location : goal.overflow_cast-location
unfolding body_size
overflow_cast-location c =
    let i = c.walk.invariant.0 in
    let found : ℕ × Record = (c.in-Some.at, view c.in-Some.rec) in
    let w = found_next c.walk.records c.next_record.new.records i.back c.next_record.result (c.in-Some.at, c.in-Some.rec) i.coming c.next_record.ensures.walk c.in-Some.is in
    let within = defining_within (segment_of_view c.args.segment.now).records c.walk.records c.next_record.new.records c.walk.location c.args.definitions.now c.walk.definitions c.args.origin c.args.place found i w in
    let small : place_after 0 (segment_of_view c.args.segment.now).records < 2 ^ 32 = c.requires.small in
    omega (arith, within, small, c.from.ensures, c.size_at.ensures.value)

pub walk-preserved : goal.walk-preserved
walk-preserved c =
    let i = c.walk.invariant.0 in
    let u = c.walk.invariant.1 in
    let found : ℕ × Record = (c.in-Some.at, view c.in-Some.rec) in
    let w = found_next c.walk.records c.next_record.new.records i.back c.next_record.result (c.in-Some.at, c.in-Some.rec) i.coming c.next_record.ensures.walk c.in-Some.is in
    let v = found_next c.walk.records c.next_record.new.records u.back c.next_record.result (c.in-Some.at, c.in-Some.rec) u.coming c.next_record.ensures.walk c.in-Some.is in (
      defining_more (segment_of_view c.args.segment.now).records c.walk.records c.next_record.new.records c.walk.location (c.from.result + c.size_at.result) c.args.definitions.now c.walk.definitions c.add_record.new.self c.args.origin c.args.place found i w
          (λ fs m of are. c.in_ok-add_record-in-Some.ensures fs m c.in-Some.at of are) (omega (arith, c.from.ensures, c.size_at.ensures.value)),
      record {
        back = v.0;
        coming = v.2;
        parts = gave_more (λ (found : ℕ × Record). used_by c.args.segment.now.header.lab_len found.0 found.1) c.args.place _ c.walk.uses c.add_record-in-Some.new.uses found v.0 u.back u.parts v.1 c.in_ok-add_record-in-Some-2.ensures.gave;
        layout = ap (λ (l : Layout). l.lab_len) c.next_record.ensures.layout ∙ u.layout;
      },
      λ short. c.in_ok-add_record-in-Some-2.ensures.short (c.walk.invariant.2 short),
    )
