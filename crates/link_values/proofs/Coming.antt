-- Going over the records of a sound view.
use Rattle.std.proofs.Common.{◌≡◌, ℕ, List, [], Option, Some, None, sym, ap, subst}
use Rattle.std.specs.Prelude.{option_map}
use Rattle.omf_format.specs.Record.{Record}
use Rattle.omf_format.specs.Reading.{Reader, records_of, IsBody}
use Rattle.omf_format.specs.File.{body_reader}
use Rattle.omf_header.specs.View.{fields}
use Rattle.omf_records.specs.declared.record.Rec.{Rec}
use Rattle.omf_records.specs.declared.segment.SegmentView.{SegmentView}
use Rattle.omf_records.specs.Segments.{segment_of_view, IsSound}
use Rattle.omf_records.specs.SegmentLaws.{sound_body}
use Rattle.link_tables.specs.Coming.{Coming, Walks, seen_record}

coming_all : (r : Reader) → IsBody r → Coming r (records_of r)
coming_all r is = record { last = is.last; run = is.run; ended = is.ended }

-- all records of the view
pub coming_view : (v : SegmentView) (r : Reader) → IsSound v → r ≡ body_reader v.start (fields v.header) v.file.now → Coming r (segment_of_view v).records
coming_view v r sound is = subst (λ (x : Reader). Coming x (segment_of_view v).records) (sym is) (coming_all (body_reader v.start (fields v.header) v.file.now) (sound_body v sound))

pub body_lab_len : (v : SegmentView) (r : Reader) → r ≡ body_reader v.start (fields v.header) v.file.now → r.layout.lab_len ≡ v.header.lab_len
unfolding body_reader
body_lab_len v r is = ap (λ (x : Reader). x.layout.lab_len) is

-- a call that answered a record, or none
pub found_next : (at after : Reader) (back : List (ℕ × Record)) (result : Option (ℕ × Rec)) (found : ℕ × Rec) → Coming at back
    → ((b : List (ℕ × Record)) → Coming at b → Walks after b (option_map seen_record result)) → result ≡ Some found → Walks after back (Some (seen_record found))
found_next at after back result found coming walk is = subst (λ (o : Option (ℕ × Rec)). Walks after back (option_map seen_record o)) is (walk back coming)

pub found_end : (at after : Reader) (back : List (ℕ × Record)) (result : Option (ℕ × Rec)) → Coming at back
    → ((b : List (ℕ × Record)) → Coming at b → Walks after b (option_map seen_record result)) → result ≡ None → back ≡ []
found_end at after back result coming walk is = subst (λ (o : Option (ℕ × Rec)). Walks after back (option_map seen_record o)) is (walk back coming)
