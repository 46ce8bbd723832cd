use Rattle.std.proofs.Common.{◌≡◌, ℕ, zero, suc, ◌+◌, ◌-◌, arith, refl}
use Rattle.omf_format.specs.Record.{Record}
use Rattle.omf_records.specs.Segments.{segment_of_view}
use Rattle.omf_records.specs.View.{view}
use Rattle.link_values.proofs.Coming.{coming_view, found_next, found_end}
use Rattle.link_values.proofs.CircularLaws.{title_is, counting_all, counting_more, counting_named, counted, counted_all}
use Rattle.link_values.proofs.circular.nth.Goals as goal

pub walk-init : goal.walk-init
walk-init c = counting_all (segment_of_view c.args.segment.now) c.args.number c.in-Some.left c.records-records.result c.in-Some.ensures (coming_view c.args.segment.now c.records-records.result c.requires c.records-records.ensures)

pub returns-in-None : goal.returns-in-None
returns-in-None c = title_is (segment_of_view c.args.segment.now) c.args.number c.bytes.result.now c.args.segment.now.start c.in-None.ensures c.bytes.ensures.value refl

pub returns-then-left-eq0 : goal.returns-then-left-eq0
returns-then-left-eq0 c =
    let i = c.walk.invariant in
    let found : ℕ × Record = (c.in-Some-next_record.at, view c.in-Some-next_record.rec) in
    let w = found_next c.walk.records c.next_record.new.records i.back c.next_record.result (c.in-Some-next_record.at, c.in-Some-next_record.rec) i.coming c.next_record.ensures.walk c.in-Some-next_record.is in
    counted (segment_of_view c.args.segment.now) c.args.number c.walk.left c.walk.records found w.0 c.in-Some-defined_name.name.now i c.if-left-eq0.true w.1 (λ loc. c.in-Some-defined_name.ensures c.in-Some-next_record.at loc)

pub walk-preserved-in-Some-defined_name : goal.walk-preserved-in-Some-defined_name
walk-preserved-in-Some-defined_name c =
    let i = c.walk.invariant in
    let found : ℕ × Record = (c.in-Some-next_record.at, view c.in-Some-next_record.rec) in
    let w = found_next c.walk.records c.next_record.new.records i.back c.next_record.result (c.in-Some-next_record.at, c.in-Some-next_record.rec) i.coming c.next_record.ensures.walk c.in-Some-next_record.is in
    counting_named (segment_of_view c.args.segment.now) c.args.number c.walk.left (c.walk.left - 1) c.walk.records c.next_record.new.records found w.0 c.in-Some-defined_name.name.now i (less c.walk.left c.if-left-eq0.false) w.1 w.2
    (λ loc. c.in-Some-defined_name.ensures c.in-Some-next_record.at loc)
  where
    less : (n : ℕ) → (n ≡ 0 → ⊥) → n ≡ n - 1 + 1
    less zero some = absurd (some refl)
    less (suc n) some = omega arith

pub walk-preserved : goal.walk-preserved
walk-preserved c =
    let i = c.walk.invariant in
    let found : ℕ × Record = (c.in-Some-next_record.at, view c.in-Some-next_record.rec) in
    let w = found_next c.walk.records c.next_record.new.records i.back c.next_record.result (c.in-Some-next_record.at, c.in-Some-next_record.rec) i.coming c.next_record.ensures.walk c.in-Some-next_record.is in
    counting_more (segment_of_view c.args.segment.now) c.args.number c.walk.left c.walk.records c.next_record.new.records found w.0 i w.1 w.2 (λ loc. c.in-None-defined_name.ensures c.in-Some-next_record.at loc)

pub returns-in-None-next_record : goal.returns-in-None-next_record
returns-in-None-next_record c =
    let i = c.walk.invariant in
    let none = found_end c.walk.records c.next_record.new.records i.back c.next_record.result i.coming c.next_record.ensures.walk c.in-None-next_record.is in
    counted_all (segment_of_view c.args.segment.now) c.args.number c.walk.left c.walk.records i none
