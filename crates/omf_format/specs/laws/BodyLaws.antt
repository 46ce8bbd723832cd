-- The records that a reader hands out are the body, and a segment of a file is the one whose header is at its start.
use Rattle.std.proofs.Common.{◌≡◌, ℕ, zero, suc, ◌+◌, ◌≤◌, Bool, true, false, cond, List, [], ◌∷◌, ◌++◌, length, Option, Some, None, Result, Ok, Err, refl, sym, ap, subst, ◌∙◌, append_assoc, arith}
use Rattle.std.specs.List.{flat_map, AllByRecursion}
use Rattle.std.proofs.lemmas.List.{length-append}
use Rattle.std.proofs.lemmas.List.Concat.{flat_map-cons}
use Rattle.omf_format.specs.declared.fault.Flaw.{Flaw}
use Rattle.omf_format.specs.declared.fault.RecordFault.{RecordFault}
use Rattle.omf_format.specs.Header.{HeaderFields}
use Rattle.omf_format.specs.Number.{IsBytes}
use Rattle.omf_format.specs.Field.{Layout}
use Rattle.omf_format.specs.laws.FieldLaws.{IsBytes-drop, IsBytes-take}
use Rattle.omf_format.specs.Record.{Record, End, Const, LongConst, Align, Org, Space, Reloc, InterSeg, ShortReloc, ShortInterSeg, Super, Using, Strong, Label, Equate, Formula, Entry, spelling, IsRecord}
use Rattle.omf_format.specs.laws.RecordLaws.{front-takes}
use Rattle.omf_format.specs.Reading.{Reader, first_record, next_answer, after_next, HandsOut, first_records, records_of}
use Rattle.omf_format.specs.laws.Steps.{answer_of_reader, answer_then}
use Rattle.omf_format.specs.File.{Segment, body_reader, IsSegment, segment_of}

-- after END there is no record
pub none_at_end : (r : Reader) → r.ended ≡ true → next_answer r ≡ Ok None
unfolding next_answer
none_at_end r ended = rw ended refl

-- the records of a run to END are those that are handed out
pub first_records-run : (n : ℕ) (r : Reader) (founds : List (ℕ × Record)) (last : Reader) → HandsOut r founds last → last.ended ≡ true → length founds ≤ n → first_records n r ≡ founds
unfolding first_records
first_records-run zero r [] last run ended few = refl
first_records-run zero r (found ∷ founds) last run ended few = absurd (omega arith)
first_records-run (suc n) r [] last run ended few =
    let none : next_answer r ≡ Ok None = none_at_end r (ap (λ (m : Reader). m.ended) run ∙ ended) in
    ap (λ a. answer_then a (first_records n (after_next r))) none
first_records-run (suc n) r (found ∷ founds) last run ended few =
    ap (λ a. answer_then a (first_records n (after_next r))) run.0
    ∙ ap (λ (l : List (ℕ × Record)). found ∷ l) (first_records-run n (after_next r) founds last run.1 ended (omega arith))

-- as many records as bytes are enough
pub records_of-run : (r : Reader) (founds : List (ℕ × Record)) (last : Reader) → HandsOut r founds last → last.ended ≡ true → length founds ≤ length r.left → records_of r ≡ founds
unfolding records_of
records_of-run r founds last run ended few = first_records-run (length r.left) r founds last run ended few

-- what a step that found a record says
pub record Found (r : Reader) (found : ℕ × Record) : Type 0 where
  pub rest : List ℕ
  pub front' : first_record r.layout r.left ≡ Ok (found.1, rest)
  pub left : (after_next r).left ≡ rest
  pub layout : (after_next r).layout ≡ r.layout

abbrev read_as : Record × List ℕ → Result (Record × List ℕ) Flaw
read_as found = Ok found

abbrev nothing : Result (Option (ℕ × Record)) RecordFault
nothing = Ok None

pub found_by : (r : Reader) (found : ℕ × Record) → next_answer r ≡ Ok (Some found) → Found r found
unfolding next_answer after_next
found_by r found e = by_end r.ended refl e
  where
    by_answer : (answer : Result (Record × List ℕ) Flaw) → first_record r.layout r.left ≡ answer → r.ended ≡ false → answer_of_reader r answer ≡ Ok (Some found) → Found r found
    by_answer (Ok f) is open' e =
        let same : f.0 ≡ found.1 = cc in
        record {
          rest = f.1;
          front' = is ∙ ap (λ (x : Record). read_as (x, f.1)) same;
          left = rw (open', is) refl;
          layout = rw (open', is) refl;
        }
    by_answer (Err flaw) is open' e = absurd cc

    by_end : (b : Bool) → r.ended ≡ b → cond b nothing (answer_of_reader r (first_record r.layout r.left)) ≡ Ok (Some found) → Found r found
    by_end true is e = absurd cc
    by_end false is e = by_answer (first_record r.layout r.left) refl is e

-- the records that a reader hands out are the body as it is: their spellings, in order, and what is left
pub handed_out : (reader last : Reader) (founds : List (ℕ × Record)) → IsBytes reader.left → HandsOut reader founds last
    → AllByRecursion (λ found. IsRecord reader.layout found.1) founds × (reader.left ≡ flat_map (λ found. spelling reader.layout found.1) founds ++ last.left)
handed_out reader last [] fits run = (tt, ap (λ (r : Reader). r.left) run)
handed_out reader last (found ∷ founds) fits run =
    let f = found_by reader found run.0 in
    let takes = front-takes reader.layout reader.left (found.1, f.rest) fits f.front' in
    let rest_fits : IsBytes (after_next reader).left = subst IsBytes (sym f.left) takes.taken.rest_fits in
    let more = handed_out (after_next reader) last founds rest_fits run.1 in
    let each : AllByRecursion (λ (g : ℕ × Record). IsRecord reader.layout g.1) founds = subst (λ (l : Layout). AllByRecursion (λ (g : ℕ × Record). IsRecord l g.1) founds) f.layout more.0 in
    let text : (after_next reader).left ≡ flat_map (λ (g : ℕ × Record). spelling reader.layout g.1) founds ++ last.left =
    subst (λ (l : Layout). (after_next reader).left ≡ flat_map (λ (g : ℕ × Record). spelling l g.1) founds ++ last.left) f.layout more.1 in
    let spelled = λ (g : ℕ × Record). spelling reader.layout g.1 in (
      (takes.record', each),
      takes.taken.parts ∙ ap (λ (l : List ℕ). spelling reader.layout found.1 ++ l) (sym f.left ∙ text)
          ∙ sym (append_assoc (spelling reader.layout found.1) (flat_map spelled founds) last.left)
          ∙ ap (λ (l : List ℕ). l ++ last.left) (sym (flat_map-cons spelled found founds)),
    )

-- a record has a byte at least
pub spelling-some : (l : Layout) (r : Record) → 1 ≤ length (spelling l r)
unfolding spelling
spelling-some l End = omega arith
spelling-some l (Const bytes) = omega arith
spelling-some l (LongConst bytes) = omega arith
spelling-some l (Align n) = omega arith
spelling-some l (Org n) = omega arith
spelling-some l (Space n) = omega arith
spelling-some l (Reloc count shift location offset) = omega arith
spelling-some l (InterSeg count shift location file segment offset) = omega arith
spelling-some l (ShortReloc count shift location offset) = omega arith
spelling-some l (ShortInterSeg count shift location segment offset) = omega arith
spelling-some l (Super form bytes) = omega arith
spelling-some l (Using name) = omega arith
spelling-some l (Strong name) = omega arith
spelling-some l (Label global name size form private) = omega arith
spelling-some l (Equate global name size form private expr) = omega arith
spelling-some l (Formula code count n expr) = omega arith
spelling-some l (Entry segment offset name) = omega arith

spellings-some : (l : Layout) (founds : List (ℕ × Record)) → length founds ≤ length (flat_map (λ (found : ℕ × Record). spelling l found.1) founds)
spellings-some l [] = omega arith
spellings-some l (found ∷ founds) =
    let spelled = λ (g : ℕ × Record). spelling l g.1 in
    omega (arith, ap length (flat_map-cons spelled found founds), length-append (spelling l found.1) (flat_map spelled founds), spelling-some l found.1, spellings-some l founds)

-- the records of a run to END are those of the reader
pub records_are : (r : Reader) (founds : List (ℕ × Record)) (last : Reader) → IsBytes r.left → HandsOut r founds last → last.ended ≡ true → records_of r ≡ founds
records_are r founds last fits run ended =
    let text = (handed_out r last founds fits run).1 in
    records_of-run r founds last run ended (omega (arith, ap length text, length-append (flat_map (λ (found : ℕ × Record). spelling r.layout found.1) founds) last.left, spellings-some r.layout founds))

-- the bytes of a body are bytes of the file
pub body_fits : (start : ℕ) (f : HeaderFields) (file : List ℕ) → IsBytes file → IsBytes (body_reader start f file).left
unfolding body_reader
body_fits start f file fits = IsBytes-drop (start + f.disp_data) _ (IsBytes-take (start + f.byte_count) file fits)

-- a segment of a file is the one whose header is at its start
pub segment_is : (s : Segment) (file : List ℕ) → IsBytes file → IsSegment s file → segment_of (record { start = s.start; fields = s.fields; file = file }) ≡ s
segment_is s file fits is =
    let reader = body_reader s.start s.fields file in
    ap (λ (rs : List (ℕ × Record)). made rs) (records_are reader s.records is.last (body_fits s.start s.fields file fits) is.records is.ended)
  where
    made : List (ℕ × Record) → Segment
    made rs = record { start = s.start; fields = s.fields; records = rs }
