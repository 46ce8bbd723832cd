use Rattle.std.proofs.Common.{◌≡◌, ◌≤◌, ◌∷◌, ◌++◌, [], ℕ, List, sym, ap, subst, ◌∙◌, append_assoc, arith}
use Rattle.omf_format.specs.File.{Segment}
use Rattle.omf_format.specs.Record.{Record}
use Rattle.omf_records.specs.Segments.{segment_of_view}
use Rattle.omf_records.specs.View.{view}
use Rattle.object_meaning.specs.Sizes.{size_at, place_after, body_size}
use Rattle.link_program.specs.OfFiles.{IsOfFiles}
use Rattle.link_values.proofs.Coming.{coming_view, body_lab_len, found_next, found_end}
use Rattle.link_values.proofs.LocatedLaws.{following-append}
use Rattle.link_map.proofs.ListLaws.{near_there, after_within}
use Rattle.link_map.proofs.SymbolLaws.{telling_none, telling_more, telling_all}
use Rattle.link_map.proofs.symbols.put_listed.Goals as goal

pub put_title-requires : goal.put_title-requires
put_title-requires c =
    let list = c.args.values.now.list in
    let of = subst IsOfFiles c.program-program.ensures c.know_files.ensures in
    let h = c.requires.there in
    record { member = h.member; there = h.there; near = near_there list of c.args.place h.member 0 h.there (omega arith) }

pub walk-init : goal.walk-init
walk-init c =
    let s = segment_of_view c.args.segment.now in
    record {
      telling = telling_none c.args.listed c.args.values.now c.args.place s c.records-records.result c.args.line.now c.put_title.new.line
          (coming_view c.args.segment.now c.records-records.result c.requires.sound c.records-records.ensures) c.in_ok-put_title.ensures;
      layout = body_lab_len c.args.segment.now c.records-records.result c.records-records.ensures;
    }

pub returns-in-None : goal.returns-in-None
returns-in-None c = λ m there.
    let t = c.walk.invariant.telling in
    let none = found_end c.walk.records c.next_record.new.records t.back c.next_record.result t.coming c.next_record.ensures.walk c.in-None.is in
    telling_all c.args.listed c.args.values.now c.args.place (segment_of_view c.args.segment.now) c.walk.records c.walk.location c.args.line.now c.walk.line t none m there

pub put_defined-requires : goal.put_defined-requires
put_defined-requires c =
    let list = c.args.values.now.list in
    let of = subst IsOfFiles c.program-program.ensures c.know_files.ensures in
    let h = c.requires.there in
    let s = segment_of_view c.args.segment.now in
    let t = c.walk.invariant.telling in
    let within : c.walk.location ≤ body_size h.member.segment = omega (arith, t.location', after_within s t.done t.back t.parts, ap body_size h.segment) in
    record {
      here = record { member = h.member; there = h.there; near = near_there list of c.args.place h.member c.walk.location h.there within };
      spelled = (c.walk.records.layout, c.walk.invariant.layout ∙ ap (λ (x : Segment). x.fields.lab_len) (sym h.segment), c.in-Some.ensures.formed);
    }

pub overflow_add-location : goal.overflow_add-location
overflow_add-location c =
    let list = c.args.values.now.list in
    let of = subst IsOfFiles c.program-program.ensures c.know_files.ensures in
    let h = c.requires.there in
    let s = segment_of_view c.args.segment.now in
    let t = c.walk.invariant.telling in
    let found : ℕ × Record = (c.in-Some.found.0, view c.in-Some.found.1) in
    let w = found_next c.walk.records c.next_record.new.records t.back c.next_record.result c.in-Some.found t.coming c.next_record.ensures.walk c.in-Some.is in
    let parts : s.records ≡ (t.done ++ found ∷ []) ++ w.0 = t.parts ∙ ap (λ (l : List (ℕ × Record)). t.done ++ l) w.1 ∙ sym (append_assoc t.done (found ∷ []) w.0) in
    let within : place_after 0 (t.done ++ found ∷ []) ≤ body_size h.member.segment = omega (arith, after_within s (t.done ++ found ∷ []) w.0 parts, ap body_size h.segment) in
    let near = near_there list of c.args.place h.member (place_after 0 (t.done ++ found ∷ [])) h.there within in
    let size : size_at c.walk.location found.1 ≡ size_at (place_after 0 t.done) found.1 = ap (λ (n : ℕ). size_at n found.1) t.location' in
    omega (arith, near, t.location', size, c.from.ensures, c.size_at.ensures.value, following-append 0 t.done (found ∷ []))

pub overflow_cast-location : goal.overflow_cast-location
overflow_cast-location c =
    let list = c.args.values.now.list in
    let of = subst IsOfFiles c.program-program.ensures c.know_files.ensures in
    let h = c.requires.there in
    let s = segment_of_view c.args.segment.now in
    let t = c.walk.invariant.telling in
    let found : ℕ × Record = (c.in-Some.found.0, view c.in-Some.found.1) in
    let w = found_next c.walk.records c.next_record.new.records t.back c.next_record.result c.in-Some.found t.coming c.next_record.ensures.walk c.in-Some.is in
    let parts : s.records ≡ (t.done ++ found ∷ []) ++ w.0 = t.parts ∙ ap (λ (l : List (ℕ × Record)). t.done ++ l) w.1 ∙ sym (append_assoc t.done (found ∷ []) w.0) in
    let within : place_after 0 (t.done ++ found ∷ []) ≤ body_size h.member.segment = omega (arith, after_within s (t.done ++ found ∷ []) w.0 parts, ap body_size h.segment) in
    let near = near_there list of c.args.place h.member (place_after 0 (t.done ++ found ∷ [])) h.there within in
    let size : size_at c.walk.location found.1 ≡ size_at (place_after 0 t.done) found.1 = ap (λ (n : ℕ). size_at n found.1) t.location' in
    omega (arith, near, t.location', size, c.from.ensures, c.size_at.ensures.value, following-append 0 t.done (found ∷ []))

pub walk-preserved : goal.walk-preserved
walk-preserved c =
    let t = c.walk.invariant.telling in
    let found : ℕ × Record = (c.in-Some.found.0, view c.in-Some.found.1) in
    let w = found_next c.walk.records c.next_record.new.records t.back c.next_record.result c.in-Some.found t.coming c.next_record.ensures.walk c.in-Some.is in
    record {
      telling = telling_more c.args.listed c.args.values.now c.args.place (segment_of_view c.args.segment.now) c.walk.records c.next_record.new.records c.walk.location _ c.args.line.now c.walk.line c.put_defined.new.line found w.0 t w.1 w.2
          (omega (arith, c.from.ensures, c.size_at.ensures.value)) c.in_ok-put_defined-in-Some.ensures;
      layout = ap (λ l. l.lab_len) c.next_record.ensures.layout ∙ c.walk.invariant.layout;
    }
