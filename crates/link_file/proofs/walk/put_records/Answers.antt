use Rattle.std.proofs.Common.{◌≡◌, inl, inr, ◌+◌, ◌++◌, ◌∷◌, [], ℕ, List, length, refl, sym, ap, subst, ◌∙◌, append_assoc, append-nil, arith}
use Rattle.std.proofs.lemmas.List.{length-append}
use Rattle.omf_format.specs.Record.{Record}
use Rattle.omf_records.specs.Segments.{segment_of_view}
use Rattle.omf_records.specs.View.{view}
use Rattle.object_meaning.specs.Sizes.{size_at, place_after}
use Rattle.link_program.specs.Outside.{all_found}
use Rattle.link_meaning.specs.LinkedCells.{made}
use Rattle.link_meaning.specs.laws.LinkedRuns.{item}
use Rattle.link_values.specs.Slots.{rows_of}
use Rattle.link_file.specs.Walks.{Puts, cells_there, state_after_records}
use Rattle.link_values.proofs.Coming.{coming_view, body_lab_len, found_next, found_end}
use Rattle.link_values.proofs.LocatedLaws.{one_located, following-append}
use Rattle.link_file.proofs.WalkLaws.{puts_none, puts_more, unmade, stands_at, holds_size, within_load}
use Rattle.link_file.proofs.walk.put_records.Goals as goal

pub walk-init : goal.walk-init
walk-init c =
    let list = c.args.context.now.link.program.now in
    let reported = rows_of (all_found list) c.args.context.now.slots.now in
    let s = segment_of_view c.args.segment.now in
    record {
      putting = record { done = []; back = s.records; parts = refl; coming = coming_view c.args.segment.now c.records-records.result c.requires.sound c.records-records.ensures; location' = refl };
      layout = body_lab_len c.args.segment.now c.records-records.result c.records-records.ensures;
      puts = λ front m back before b. puts_none list reported front m back c.args.member_place s c.args.table.now before c.args.content.now b;
    }

pub returns-in-None-clause-ok : goal.returns-in-None-clause-ok
returns-in-None-clause-ok c = λ front m back before b.
    let list = c.args.context.now.link.program.now in
    let reported = rows_of (all_found list) c.args.context.now.slots.now in
    let i = c.walk.invariant in
    let none = found_end c.walk.records c.next_record.new.records i.putting.back c.next_record.result i.putting.coming c.next_record.ensures.walk c.in-None.is in
    subst (λ (d : List (ℕ × Record)). Puts list reported front m d c.walk.table before c.walk.content) (sym (i.putting.parts ∙ ap (λ (l : List (ℕ × Record)). i.putting.done ++ l) none ∙ append-nil i.putting.done)) (i.puts front m back before b)

pub value_of-value-requires-clause-near : goal.value_of-value-requires-clause-near
value_of-value-requires-clause-near c =
    let list = c.args.context.now.link.program.now in
    let reported = rows_of (all_found list) c.args.context.now.slots.now in
    let s = segment_of_view c.args.segment.now in
    let i = c.walk.invariant in
    let b = c.requires.begun in
    let found : ℕ × Record = (c.in-Some.at, view c.in-Some.rec) in
    let w = found_next c.walk.records c.next_record.new.records i.putting.back c.next_record.result (c.in-Some.at, c.in-Some.rec) i.putting.coming c.next_record.ensures.walk c.in-Some.is in
    let within = within_load list c.requires.whole.files reported b.front b.m b.back c.args.member_place s c.args.table.now b.before c.args.content.now i.putting.done w.0 found b.begins (i.putting.parts ∙ ap (λ (l : List (ℕ × Record)). i.putting.done ++ l) w.1) in
    omega (arith, within, i.putting.location')

pub put_record-requires-clause-near : goal.put_record-requires-clause-near
put_record-requires-clause-near c =
    let list = c.args.context.now.link.program.now in
    let reported = rows_of (all_found list) c.args.context.now.slots.now in
    let s = segment_of_view c.args.segment.now in
    let i = c.walk.invariant in
    let b = c.requires.begun in
    let found : ℕ × Record = (c.in-Some.at, view c.in-Some.rec) in
    let w = found_next c.walk.records c.next_record.new.records i.putting.back c.next_record.result (c.in-Some.at, c.in-Some.rec) i.putting.coming c.next_record.ensures.walk c.in-Some.is in
    let within = within_load list c.requires.whole.files reported b.front b.m b.back c.args.member_place s c.args.table.now b.before c.args.content.now i.putting.done w.0 found b.begins (i.putting.parts ∙ ap (λ (l : List (ℕ × Record)). i.putting.done ++ l) w.1) in
    omega (arith, within, i.putting.location')

pub put_record-requires-clause-small : goal.put_record-requires-clause-small
put_record-requires-clause-small c =
    let list = c.args.context.now.link.program.now in
    let reported = rows_of (all_found list) c.args.context.now.slots.now in
    let s = segment_of_view c.args.segment.now in
    let i = c.walk.invariant in
    let b = c.requires.begun in
    let found : ℕ × Record = (c.in-Some.at, view c.in-Some.rec) in
    let w = found_next c.walk.records c.next_record.new.records i.putting.back c.next_record.result (c.in-Some.at, c.in-Some.rec) i.putting.coming c.next_record.ensures.walk c.in-Some.is in
    let within = within_load list c.requires.whole.files reported b.front b.m b.back c.args.member_place s c.args.table.now b.before c.args.content.now i.putting.done w.0 found b.begins (i.putting.parts ∙ ap (λ (l : List (ℕ × Record)). i.putting.done ++ l) w.1) in
    let p = i.puts b.front b.m b.back b.before b.begins in
    let cells = cells_there (state_after_records list reported b.front b.m i.putting.done) (length b.front + 1) in
    let size : size_at c.walk.location found.1 ≡ size_at (place_after 0 i.putting.done) found.1 = ap (λ (n : ℕ). size_at n found.1) i.putting.location' in
    omega (arith, within, i.putting.location', holds_size (b.before ++ cells) c.walk.content p.holds, length-append b.before cells, b.begins.size, p.size, size)

pub overflow_add-location : goal.overflow_add-location
overflow_add-location c =
    let list = c.args.context.now.link.program.now in
    let reported = rows_of (all_found list) c.args.context.now.slots.now in
    let s = segment_of_view c.args.segment.now in
    let i = c.walk.invariant in
    let b = c.requires.begun in
    let found : ℕ × Record = (c.in-Some.at, view c.in-Some.rec) in
    let w = found_next c.walk.records c.next_record.new.records i.putting.back c.next_record.result (c.in-Some.at, c.in-Some.rec) i.putting.coming c.next_record.ensures.walk c.in-Some.is in
    let within = within_load list c.requires.whole.files reported b.front b.m b.back c.args.member_place s c.args.table.now b.before c.args.content.now i.putting.done w.0 found b.begins (i.putting.parts ∙ ap (λ (l : List (ℕ × Record)). i.putting.done ++ l) w.1) in
    let size : size_at c.walk.location found.1 ≡ size_at (place_after 0 i.putting.done) found.1 = ap (λ (n : ℕ). size_at n found.1) i.putting.location' in
    omega (arith, within, i.putting.location', size, c.from.ensures, c.size_at.ensures.value)

pub overflow_cast-location : goal.overflow_cast-location
overflow_cast-location c =
    let list = c.args.context.now.link.program.now in
    let reported = rows_of (all_found list) c.args.context.now.slots.now in
    let s = segment_of_view c.args.segment.now in
    let i = c.walk.invariant in
    let b = c.requires.begun in
    let found : ℕ × Record = (c.in-Some.at, view c.in-Some.rec) in
    let w = found_next c.walk.records c.next_record.new.records i.putting.back c.next_record.result (c.in-Some.at, c.in-Some.rec) i.putting.coming c.next_record.ensures.walk c.in-Some.is in
    let within = within_load list c.requires.whole.files reported b.front b.m b.back c.args.member_place s c.args.table.now b.before c.args.content.now i.putting.done w.0 found b.begins (i.putting.parts ∙ ap (λ (l : List (ℕ × Record)). i.putting.done ++ l) w.1) in
    let size : size_at c.walk.location found.1 ≡ size_at (place_after 0 i.putting.done) found.1 = ap (λ (n : ℕ). size_at n found.1) i.putting.location' in
    omega (arith, within, i.putting.location', size, c.from.ensures, c.size_at.ensures.value)

pub returns-in-Err-clause-err : goal.returns-in-Err-clause-err
unfolding made
returns-in-Err-clause-err c = λ front m back before b.
    let list = c.args.context.now.link.program.now in
    let reported = rows_of (all_found list) c.args.context.now.slots.now in
    let s = segment_of_view c.args.segment.now in
    let i = c.walk.invariant in
    let done = i.putting.done in
    let found : ℕ × Record = (c.in-Some.at, view c.in-Some.rec) in
    let w = found_next c.walk.records c.next_record.new.records i.putting.back c.next_record.result (c.in-Some.at, c.in-Some.rec) i.putting.coming c.next_record.ensures.walk c.in-Some.is in
    let p = i.puts front m back before b in
    let its = item (length front + 1) m (one_located found (place_after 0 done)) in
    let stands = stands_at list reported front m back c.args.member_place s c.args.table.now c.walk.table before c.args.content.now c.walk.content done found c.args.context.now.link c.walk.location refl b p c.requires.whole.loads' c.requires.whole.table' i.putting.location' in
    let worth = c.value_of-value.ensures its b.is b.place (sym i.putting.location') in
    elim (c.in-Err.ensures.err list reported (state_after_records list reported front m done) its before stands worth) [
      | inl memory ↦ inl memory
      | inr is ↦ inr (unmade list reported front m s done w.0 found c.walk.table before c.walk.content c.in-Err.cause b.segment (i.putting.parts ∙ ap (λ (l : List (ℕ × Record)). done ++ l) w.1) p is)
    ]

pub walk-preserved : goal.walk-preserved
unfolding made
walk-preserved c =
    let list = c.args.context.now.link.program.now in
    let reported = rows_of (all_found list) c.args.context.now.slots.now in
    let s = segment_of_view c.args.segment.now in
    let i = c.walk.invariant in
    let done = i.putting.done in
    let found : ℕ × Record = (c.in-Some.at, view c.in-Some.rec) in
    let w = found_next c.walk.records c.next_record.new.records i.putting.back c.next_record.result (c.in-Some.at, c.in-Some.rec) i.putting.coming c.next_record.ensures.walk c.in-Some.is in
    let size : size_at c.walk.location found.1 ≡ size_at (place_after 0 done) found.1 = ap (λ (n : ℕ). size_at n found.1) i.putting.location' in
    record {
      putting = record {
        done = done ++ found ∷ [];
        back = w.0;
        parts = i.putting.parts ∙ ap (λ (l : List (ℕ × Record)). done ++ l) w.1 ∙ sym (append_assoc done (found ∷ []) w.0);
        coming = w.2;
        location' = omega (arith, i.putting.location', size, c.from.ensures, c.size_at.ensures.value, following-append 0 done (found ∷ []));
      };
      layout = ap (λ l. l.lab_len) c.next_record.ensures.layout ∙ i.layout;
      puts = λ front m back before b.
          let p = i.puts front m back before b in
          let its = item (length front + 1) m (one_located found (place_after 0 done)) in
          let stands = stands_at list reported front m back c.args.member_place s c.args.table.now c.walk.table before c.args.content.now c.walk.content done found c.args.context.now.link c.walk.location refl b p c.requires.whole.loads' c.requires.whole.table' i.putting.location' in
          let worth = c.value_of-value.ensures its b.is b.place (sym i.putting.location') in
          puts_more list reported front m done found c.walk.table c.put_record.new.table before c.walk.content c.put_record.new.content p (c.in-Ok.ensures.ok list reported (state_after_records list reported front m done) its before stands worth);
    }
