-- Going over the records of a sound body.
use Rattle.std.proofs.Common.{◌≡◌, ℕ, true, List, [], ◌∷◌, Option, Some, None, Ok, Err, refl, sym, ap, subst, ◌∙◌}
use Rattle.omf_format.specs.declared.fault.RecordFault.{RecordFault}
use Rattle.omf_format.specs.Record.{Record}
use Rattle.omf_format.specs.Reading.{Reader, next_answer, after_next, records_of, IsBody}
use Rattle.omf_format.specs.File.{body_reader}
use Rattle.omf_format.specs.laws.FileLaws.{Answer, gave, same_found, open_at_some, open_at_fault, ended_at_none}
use Rattle.std.specs.Prelude.{option_map}
use Rattle.omf_format.specs.laws.BodyLaws.{found_by}
use Rattle.omf_header.specs.View.{fields}
use Rattle.omf_records.specs.declared.record.Rec.{Rec}
use Rattle.omf_records.specs.View.{record_answer}
use Rattle.omf_records.specs.declared.segment.SegmentView.{SegmentView}
use Rattle.omf_records.specs.Segments.{segment_of_view, IsSound}
use Rattle.omf_records.specs.SegmentLaws.{sound_body}
use Rattle.link_tables.specs.Coming.{Coming, IsComing, Walks, seen_record}

abbrev failed : RecordFault → Answer
failed fault = Err fault

pub coming_all : (r : Reader) → IsBody r → Coming r (records_of r)
coming_all r is = record { last = is.last; run = is.run; ended = is.ended }

-- all records of a sound view
pub coming_view : (v : SegmentView) (r : Reader) → IsSound v → r ≡ body_reader v.start (fields v.header) v.file.now → Coming r (segment_of_view v).records
coming_view v r sound is = subst (λ (x : Reader). Coming x (segment_of_view v).records) (sym is) (coming_all (body_reader v.start (fields v.header) v.file.now) (sound_body v sound))

pub coming_some : (at after : Reader) (found : ℕ × Record) (back : List (ℕ × Record)) → Coming at back → next_answer at ≡ Ok (Some found) → after ≡ after_next at → Walks after back (Some found)
coming_some at after found [] coming e is = absurd (open_at_some at found e (ap (λ (r : Reader). r.ended) coming.run ∙ coming.ended))
coming_some at after found (other ∷ more) coming e is =
    let same : other ≡ found = same_found other found (sym coming.run.0 ∙ e) in
    let rest : Coming (after_next at) more = record { last = coming.last; run = coming.run.1; ended = coming.ended } in
    (more, ap (λ (f : ℕ × Record). f ∷ more) same, subst (λ (r : Reader). Coming r more) (sym is) rest)

pub coming_none : (at after : Reader) (back : List (ℕ × Record)) → Coming at back → next_answer at ≡ Ok None → Walks after back None
coming_none at after [] coming e = refl
coming_none at after (found ∷ back) coming e = let clash : gave found ≡ Ok None = sym coming.run.0 ∙ e in absurd cc

pub coming_fault : (at : Reader) (fault : RecordFault) → IsComing at → next_answer at ≡ Err fault → ⊥
coming_fault at fault coming e = by_back coming.0 coming.1
  where
    by_back : (back : List (ℕ × Record)) → Coming at back → ⊥
    by_back [] c = open_at_fault at fault e (ap (λ (r : Reader). r.ended) c.run ∙ c.ended)
    by_back (found ∷ back) c = let clash : gave found ≡ failed fault = sym c.run.0 ∙ e in cc

-- what a call answered
pub walked : (at after : Reader) (found : Option (ℕ × Rec)) → record_answer (Ok found) ≡ next_answer at → after ≡ after_next at → (back : List (ℕ × Record)) → Coming at back
    → Walks after back (option_map seen_record found)
walked at after None e is back coming = coming_none at after back coming (sym e)
walked at after (Some found) e is back coming = coming_some at after (seen_record found) back coming (sym e) is

ended_stays : (r : Reader) → r.ended ≡ true → after_next r ≡ r
unfolding after_next
ended_stays r ended = rw ended refl

pub layout_kept : (at after : Reader) (found : Option (ℕ × Rec)) → record_answer (Ok found) ≡ next_answer at → after ≡ after_next at → after.layout ≡ at.layout
layout_kept at after None e is = ap (λ (r : Reader). r.layout) (is ∙ ended_stays at (ended_at_none at (sym e)))
layout_kept at after (Some found) e is =
    let by = found_by at (seen_record found) (sym e) in
    ap (λ (r : Reader). r.layout) is ∙ by.layout

-- a call that answered a record, or none
pub found_next : (at after : Reader) (back : List (ℕ × Record)) (result : Option (ℕ × Rec)) (found : ℕ × Rec) → Coming at back
    → ((b : List (ℕ × Record)) → Coming at b → Walks after b (option_map seen_record result)) → result ≡ Some found → Walks after back (Some (seen_record found))
found_next at after back result found coming walk is = subst (λ (o : Option (ℕ × Rec)). Walks after back (option_map seen_record o)) is (walk back coming)

pub found_end : (at after : Reader) (back : List (ℕ × Record)) (result : Option (ℕ × Rec)) → Coming at back
    → ((b : List (ℕ × Record)) → Coming at b → Walks after b (option_map seen_record result)) → result ≡ None → back ≡ []
found_end at after back result coming walk is = subst (λ (o : Option (ℕ × Rec)). Walks after back (option_map seen_record o)) is (walk back coming)
