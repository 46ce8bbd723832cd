-- What the records of a body export, up to its reader's place.
use Rattle.std.proofs.Common.{◌≡◌, ℕ, ◌+◌, ◌≤◌, true, List, [], ◌∷◌, ◌++◌, length, take, Some, None, Ok, Err, refl, sym, ap, ◌∙◌, append_assoc, arith}
use Rattle.std.specs.List.{flat_map}
use Rattle.std.proofs.lemmas.List.{append-nil, length-drop, length-take}
use Rattle.std.proofs.lemmas.List.Concat.{flat_map-cons}
use Rattle.omf_format.specs.declared.fault.RecordFault.{RecordFault}
use Rattle.omf_format.specs.Header.{HeaderFields}
use Rattle.omf_format.specs.Record.{Record}
use Rattle.omf_format.specs.Reading.{Reader, next_answer, after_next, HandsOut, records_of, IsBody}
use Rattle.omf_format.specs.File.{Segment, body_reader}
use Rattle.omf_format.specs.laws.FileLaws.{Answer, gave, same_found, open_at_some, open_at_fault}
use Rattle.load_meaning.specs.declared.load.LoadFault.{LoadFault}
use Rattle.load_meaning.specs.Exports.{Export, exports_of_record, exports_from, exports_of}
use Rattle.load_meaning.specs.Loadable.{Fault, first_in, shape_fault, later_fault}
use Rattle.load_meaning.specs.laws.Steps.{in_segment}
use Rattle.load_meaning.specs.laws.CellLaws.{shaped, later_none}
use Rattle.std.specs.Option.{option_or}
use Rattle.std.specs.Prelude.{Option, option_map}

abbrev failed : RecordFault → Answer
failed fault = Err fault

-- what records of the segment with this number export
abbrev pub exported_all : ℕ → List (ℕ × Record) → List Export
exported_all holder founds = flat_map (λ found. exports_of_record holder found.1) founds

-- what was appended so far, with what the records that are left export, is what was there before and what all records export
pub record Exported (holder : ℕ) (start at : Reader) (front so_far : List Export) : Type 0 where
  pub back : List (ℕ × Record)
  pub last : Reader
  pub run : HandsOut at back last
  pub ended : last.ended ≡ true
  pub whole : so_far ++ exported_all holder back ≡ front ++ exported_all holder (records_of start)

pub exported_none : (holder : ℕ) (r : Reader) (front : List Export) → IsBody r → Exported holder r r front front
exported_none holder r front is = record { back = records_of r; last = is.last; run = is.run; ended = is.ended; whole = refl }

pub exported_more : (holder : ℕ) (start at : Reader) (found : ℕ × Record) (front so_far : List Export) → Exported holder start at front so_far → next_answer at ≡ Ok (Some found)
    → Exported holder start (after_next at) front (so_far ++ exports_of_record holder found.1)
exported_more holder start at found front so_far g e = by_back g.back g.run g.whole
  where
    by_back : (back : List (ℕ × Record)) → HandsOut at back g.last → so_far ++ exported_all holder back ≡ front ++ exported_all holder (records_of start)
        → Exported holder start (after_next at) front (so_far ++ exports_of_record holder found.1)
    by_back [] run whole = absurd (open_at_some at found e (ap (λ (r : Reader). r.ended) run ∙ g.ended))
    by_back (other ∷ back) run whole =
        let is : other ≡ found = same_found other found (sym run.0 ∙ e) in
        record {
          back = back;
          last = g.last;
          run = run.1;
          ended = g.ended;
          whole =
              append_assoc so_far (exports_of_record holder found.1) (exported_all holder back)
              ∙ ap (λ (f : ℕ × Record). so_far ++ (exports_of_record holder f.1 ++ exported_all holder back)) (sym is)
              ∙ ap (λ (l : List Export). so_far ++ l) (sym (flat_map-cons (λ (f : ℕ × Record). exports_of_record holder f.1) other back))
              ∙ whole;
        }

pub exported_whole : (holder : ℕ) (start at : Reader) (front so_far : List Export) → Exported holder start at front so_far → next_answer at ≡ Ok None
    → so_far ≡ front ++ exported_all holder (records_of start)
exported_whole holder start at front so_far g e = by_back g.back g.run g.whole
  where
    by_back : (back : List (ℕ × Record)) → HandsOut at back g.last → so_far ++ exported_all holder back ≡ front ++ exported_all holder (records_of start)
        → so_far ≡ front ++ exported_all holder (records_of start)
    by_back [] run whole = sym (append-nil so_far) ∙ whole
    by_back (other ∷ back) run whole = let clash : gave other ≡ Ok None = sym run.0 ∙ e in absurd cc

pub exported_fault : (holder : ℕ) (start at : Reader) (front so_far : List Export) (fault : RecordFault) → Exported holder start at front so_far → next_answer at ≡ Err fault → ⊥
exported_fault holder start at front so_far fault g e = by_back g.back g.run
  where
    by_back : (back : List (ℕ × Record)) → HandsOut at back g.last → ⊥
    by_back [] run = open_at_fault at fault e (ap (λ (r : Reader). r.ended) run ∙ g.ended)
    by_back (other ∷ back) run = let clash : gave other ≡ failed fault = sym run.0 ∙ e in cc

-- ---- of all segments

-- what segments export, each with the number in its header
abbrev pub exports_by : List Segment → List Export
exports_by segments = flat_map (λ s. exported_all s.fields.seg_num s.records) segments

pub exports_by-one : (segments : List Segment) (s : Segment) → exports_by (segments ++ s ∷ []) ≡ exports_by segments ++ exported_all s.fields.seg_num s.records
exports_by-one [] s = flat_map-cons (λ (t : Segment). exported_all t.fields.seg_num t.records) s [] ∙ append-nil (exported_all s.fields.seg_num s.records)
exports_by-one (t ∷ segments) s =
    flat_map-cons (λ (u : Segment). exported_all u.fields.seg_num u.records) t (segments ++ s ∷ [])
    ∙ ap (λ (l : List Export). exported_all t.fields.seg_num t.records ++ l) (exports_by-one segments s)
    ∙ sym (append_assoc (exported_all t.fields.seg_num t.records) (exports_by segments) (exported_all s.fields.seg_num s.records))
    ∙ ap (λ (l : List Export). l ++ exported_all s.fields.seg_num s.records) (sym (flat_map-cons (λ (u : Segment). exported_all u.fields.seg_num u.records) t segments))

fault_none : (number : ℕ) (o : Option Fault) (rest : Option LoadFault) → option_or (option_map (in_segment number) o) rest ≡ None → (o ≡ None) × (rest ≡ None)
fault_none number None rest e = (refl, e)
fault_none number (Some fault) rest e = absurd cc

numbered : (number : ℕ) (segments : List Segment) → first_in shape_fault number segments ≡ None → exports_by segments ≡ exports_from number segments
numbered number [] none = refl
numbered number (s ∷ segments) none =
    let both = fault_none number (shape_fault number s) (first_in shape_fault (number + 1) segments) none in
    flat_map-cons (λ (t : Segment). exported_all t.fields.seg_num t.records) s segments
    ∙ ap (λ (n : ℕ). exported_all n s.records ++ exports_by segments) (shaped number s both.0).number'
    ∙ ap (λ (l : List Export). exported_all number s.records ++ l) (numbered (number + 1) segments both.1)

-- where the segments have their numbers
pub exports_are : (segments : List Segment) → later_fault segments ≡ None → exports_by segments ≡ exports_of segments
unfolding exports_of
exports_are segments none = numbered 1 segments (later_none segments none).0

-- ---- how many

-- the body has no more bytes than the segment
pub body_short : (start : ℕ) (f : HeaderFields) (file : List ℕ) → length (body_reader start f file).left ≤ f.byte_count
unfolding body_reader
body_short start f file =
    omega (arith, length-drop (start + f.disp_data) (take (start + f.byte_count) file), length-take (start + f.byte_count) file)
