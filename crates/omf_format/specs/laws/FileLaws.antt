-- A file is read in one way: it has one list of segments, or one first fault, and not both.
use Rattle.std.proofs.Common.{◌≡◌, ℕ, suc, ◌+◌, ◌*◌, ◌≤◌, Bool, true, false, cond, List, [], ◌∷◌, ◌++◌, length, drop, Option, Some, None, Result, Ok, Err, refl, sym, ap, subst, ◌∙◌, arith}
use Rattle.std.proofs.lemmas.List.{append-nil, length-drop}
use Rattle.omf_format.specs.declared.fault.Flaw.{Flaw}
use Rattle.omf_format.specs.declared.fault.HeaderFault.{HeaderFault}
use Rattle.omf_format.specs.declared.fault.RecordFault.{RecordFault}
use Rattle.omf_format.specs.declared.fault.FileFault.{FileFault}
use Rattle.omf_format.specs.Header.{HeaderFields, fields_of, version_of, names_end, header_fault}
use Rattle.omf_format.specs.laws.HeaderLaws.{IsSound, sound_from_none}
use Rattle.omf_format.specs.Record.{Record}
use Rattle.omf_format.specs.Reading.{Reader, first_record, next_answer, after_next, HandsOut}
use Rattle.omf_format.specs.laws.Steps.{answer_of_reader}
use Rattle.omf_format.specs.File.{Segment, body_reader, IsHeader, IsSegment, AreSegments, IsFile, FaultAt, to_file_header_fault, to_file_record_fault, HasFault, InHeader, InRecord, IsFirstFault}

abbrev pub Answer : Type 0
Answer = Result (Option (ℕ × Record)) RecordFault

abbrev pub gave : ℕ × Record → Answer
gave found = Ok (Some found)

abbrev failed : RecordFault → Answer
failed fault = Err fault

pub same_found : (a b : ℕ × Record) → gave a ≡ gave b → a ≡ b
same_found a b e = cc

-- after END there is no record
nothing_more : (r : Reader) (found : ℕ × Record) → r.ended ≡ true → next_answer r ≡ Ok (Some found) → ⊥
unfolding next_answer
nothing_more r found ended e =
    let none : next_answer r ≡ Ok None = rw ended refl in
    let clash : gave found ≡ Ok None = sym e ∙ none in
    cc

abbrev nothing : Answer
nothing = Ok None

-- and only then is there none
pub ended_at_none : (r : Reader) → next_answer r ≡ Ok None → r.ended ≡ true
unfolding next_answer
ended_at_none r e = cases r.ended refl e
  where
    reported_some : (answer : Result (Record × List ℕ) Flaw) → answer_of_reader r answer ≡ Ok None → ⊥
    reported_some (Ok found) e = cc
    reported_some (Err flaw) e = cc

    cases : (b : Bool) → b ≡ r.ended → cond b nothing (answer_of_reader r (first_record r.layout r.left)) ≡ Ok None → r.ended ≡ true
    cases true is e = sym is
    cases false is e = absurd (reported_some (first_record r.layout r.left) e)

-- a reader that hands out a record has not ended
pub open_at_some : (r : Reader) (found : ℕ × Record) → next_answer r ≡ Ok (Some found) → r.ended ≡ true → ⊥
open_at_some r found e ended = nothing_more r found ended e

-- one run after another is a run
pub HandsOut-append : (r : Reader) (before more : List (ℕ × Record)) (middle last : Reader) → HandsOut r before middle → HandsOut middle more last → HandsOut r (before ++ more) last
HandsOut-append r [] more middle last p q = subst (λ (m : Reader). HandsOut m more last) (sym p) q
HandsOut-append r (found ∷ before) more middle last p q = (p.0, HandsOut-append (after_next r) before more middle last p.1 q)

-- a run goes on where a shorter one from the same reader ended
pub HandsOut-rest : (r : Reader) (before all : List (ℕ × Record)) (middle last : Reader) → HandsOut r before middle → HandsOut r all last → last.ended ≡ true → (middle.ended ≡ true → ⊥)
    → (back : List (ℕ × Record)) × (all ≡ before ++ back) × HandsOut middle back last
HandsOut-rest r [] all middle last p q ended open' = (all, refl, subst (λ (m : Reader). HandsOut m all last) p q)
HandsOut-rest r (found ∷ before) [] middle last p q ended open' =
    let r_ended : r.ended ≡ true = ap (λ (m : Reader). m.ended) q ∙ ended in
    absurd (nothing_more r found r_ended p.0)
HandsOut-rest r (found ∷ before) (other ∷ all) middle last p q ended open' =
    let more = HandsOut-rest (after_next r) before all middle last p.1 q.1 ended open' in
    let same : other ≡ found = same_found other found (sym q.0 ∙ p.0) in
    let whole : other ∷ all ≡ found ∷ (before ++ more.0) = ap (λ (o : ℕ × Record). o ∷ all) same ∙ ap (λ (l : List (ℕ × Record)). found ∷ l) more.1 in
    (more.0, whole, more.2)

-- two runs to END from the same reader are one
pub HandsOut-same : (r : Reader) (xs ys : List (ℕ × Record)) (x y : Reader) → HandsOut r xs x → HandsOut r ys y → x.ended ≡ true → y.ended ≡ true → xs ≡ ys
HandsOut-same r [] [] x y p q x_ended y_ended = refl
HandsOut-same r [] (found ∷ ys) x y p q x_ended y_ended =
    absurd (nothing_more r found (ap (λ (m : Reader). m.ended) p ∙ x_ended) q.0)
HandsOut-same r (found ∷ xs) [] x y p q x_ended y_ended =
    absurd (nothing_more r found (ap (λ (m : Reader). m.ended) q ∙ y_ended) p.0)
HandsOut-same r (found ∷ xs) (other ∷ ys) x y p q x_ended y_ended =
    let same : found ≡ other = same_found found other (sym p.0 ∙ q.0) in
    let rest = HandsOut-same (after_next r) xs ys x y p.1 q.1 x_ended y_ended in
    ap (λ (o : ℕ × Record). o ∷ xs) same ∙ ap (λ (l : List (ℕ × Record)). other ∷ l) rest

-- a reader that has a fault has not ended
pub open_at_fault : (r : Reader) (fault : RecordFault) → next_answer r ≡ Err fault → r.ended ≡ true → ⊥
unfolding next_answer
open_at_fault r fault e ended =
    let none : next_answer r ≡ Ok None = rw ended refl in
    let clash : failed fault ≡ Ok None = sym e ∙ none in
    cc

-- where a record is at fault, no run reaches END
pub no_run : (r : Reader) (before all : List (ℕ × Record)) (reader last : Reader) (fault : RecordFault) → HandsOut r before reader → next_answer reader ≡ Err fault → HandsOut r all last → last.ended ≡ true → ⊥
no_run r before all reader last fault p e q ended =
    let open' = open_at_fault reader fault e in
    let more = HandsOut-rest r before all reader last p q ended open' in
    stops more.0 more.2
  where
    stops : (back : List (ℕ × Record)) → HandsOut reader back last → ⊥
    stops [] h = open_at_fault reader fault e (ap (λ (m : Reader). m.ended) h ∙ ended)
    stops (found ∷ back) h = let clash : gave found ≡ failed fault = sym h.0 ∙ e in cc

-- ---- segments

-- one segment starts at each place
pub segment_same : (a b : Segment) (file : List ℕ) → IsSegment a file → IsSegment b file → a.start ≡ b.start → a ≡ b
segment_same a b file p q start =
    let fields : a.fields ≡ b.fields = p.header.fields ∙ ap (λ (s : ℕ). fields_of (drop s file)) start ∙ sym q.header.fields in
    let reader : body_reader a.start a.fields file ≡ body_reader b.start b.fields file =
    ap (λ (s : ℕ). body_reader s a.fields file) start ∙ ap (λ (f : HeaderFields). body_reader b.start f file) fields in
    let run : HandsOut (body_reader b.start b.fields file) a.records p.last = subst (λ (r : Reader). HandsOut r a.records p.last) reader p.records in
    let records : a.records ≡ b.records = HandsOut-same (body_reader b.start b.fields file) a.records b.records p.last q.last run q.records p.ended q.ended in
    ap (λ (s : ℕ). made s a.fields a.records) start ∙ ap (λ (f : HeaderFields). made b.start f a.records) fields ∙ ap (made b.start b.fields) records
  where
    made : ℕ → HeaderFields → List (ℕ × Record) → Segment
    made start fields records = record { start = start; fields = fields; records = records }

-- segments after segments
pub AreSegments-append : (before more : List Segment) (at : ℕ) (file : List ℕ) (next end : ℕ) → AreSegments before at file next → AreSegments more next file end → AreSegments (before ++ more) at file end
AreSegments-append [] more at file next end p q = subst (λ (n : ℕ). AreSegments more n file end) (sym p) q
AreSegments-append (s ∷ before) more at file next end p q =
    (p.0, p.1, p.2, AreSegments-append before more (at + s.fields.byte_count) file next end p.3 q)

-- a file's segments go on where its first ones end
pub AreSegments-rest : (before all : List Segment) (at : ℕ) (file : List ℕ) (next : ℕ) → AreSegments before at file next → AreSegments all at file (length file)
    → (more : List Segment) × (all ≡ before ++ more) × AreSegments more next file (length file)
AreSegments-rest [] all at file next p q = (all, refl, subst (λ (n : ℕ). AreSegments all n file (length file)) p q)
AreSegments-rest (s ∷ before) [] at file next p q = absurd (omega arith)
AreSegments-rest (s ∷ before) (t ∷ all) at file next p q =
    let same : t ≡ s = segment_same t s file q.2 p.2 (q.0 ∙ sym p.0) in
    let tail : AreSegments all (at + s.fields.byte_count) file (length file) = subst (λ (u : Segment). AreSegments all (at + u.fields.byte_count) file (length file)) same q.3 in
    let more = AreSegments-rest before all (at + s.fields.byte_count) file next p.3 tail in
    (more.0, ap (λ (u : Segment). u ∷ all) same ∙ ap (λ (l : List Segment). s ∷ l) more.1, more.2)

-- a file has one list of segments
pub file_same : (a b : List Segment) (file : List ℕ) → IsFile a file → IsFile b file → a ≡ b
file_same a b file p q =
    let more = AreSegments-rest a b 0 file (length file) p q in
    sym (more.1 ∙ ap (λ (l : List Segment). a ++ l) (nothing_left more.0 more.2) ∙ append-nil a)
  where
    nothing_left : (more : List Segment) → AreSegments more (length file) file (length file) → more ≡ []
    nothing_left [] h = refl
    nothing_left (s ∷ more) h = absurd (omega arith)

abbrev some : HeaderFault → Option HeaderFault
some of = Some of

some_same : (a b : HeaderFault) → some a ≡ some b → a ≡ b
some_same a b e = cc

-- no segment is where a fault is
no_segment : (at : ℕ) (file : List ℕ) (reported : FaultAt) (s : Segment) → HasFault at file reported → s.start ≡ at → IsSegment s file → ⊥
no_segment at file reported s (InHeader of is says) start segment =
    let none : header_fault (drop at file) ≡ None = ap (λ (n : ℕ). header_fault (drop n file)) (sym start) ∙ segment.header.passes in
    let clash : some of ≡ None = sym is ∙ none in
    cc
no_segment at file reported s (InRecord f before reader of header run is says) start segment =
    let fields : s.fields ≡ f = segment.header.fields ∙ ap (λ (n : ℕ). fields_of (drop n file)) start ∙ sym header.fields in
    let whole : body_reader s.start s.fields file ≡ body_reader at f file =
    ap (λ (n : ℕ). body_reader n s.fields file) start ∙ ap (λ (g : HeaderFields). body_reader at g file) fields in
    no_run (body_reader at f file) before s.records reader segment.last of run is (subst (λ (r : Reader). HandsOut r s.records segment.last) whole segment.records) segment.ended

-- a file with a first fault is no list of segments
pub no_file : (file : List ℕ) (fault : FileFault) (segments : List Segment) → IsFirstFault file fault → IsFile segments file → ⊥
no_file file fault segments first is =
    let more = AreSegments-rest first.before segments 0 file first.at first.sound is in
    stops more.0 more.2
  where
    stops : (more : List Segment) → AreSegments more first.at file (length file) → ⊥
    stops [] h = absurd (omega (arith, first.more))
    stops (s ∷ more) h = no_segment first.at file (fault.cause, fault.at) s first.here h.0 h.2

-- ---- one first fault

failed_same : (a b : RecordFault) → failed a ≡ failed b → a ≡ b
failed_same a b e = cc

-- two runs from one reader to a fault end at one fault
stops_same : (r : Reader) (xs ys : List (ℕ × Record)) (x y : Reader) (a b : RecordFault) → HandsOut r xs x → HandsOut r ys y
    → next_answer x ≡ Err a → next_answer y ≡ Err b → a ≡ b
stops_same r [] [] x y a b p q e f = failed_same a b (sym e ∙ ap next_answer (sym p ∙ q) ∙ f)
stops_same r [] (found ∷ ys) x y a b p q e f = let clash : gave found ≡ failed a = sym q.0 ∙ ap next_answer p ∙ e in cc
stops_same r (found ∷ xs) [] x y a b p q e f = let clash : gave found ≡ failed b = sym p.0 ∙ ap next_answer q ∙ f in cc
stops_same r (found ∷ xs) (other ∷ ys) x y a b p q e f = stops_same (after_next r) xs ys x y a b p.1 q.1 e f

-- a segment has one first fault
reported_same : (at : ℕ) (file : List ℕ) (a b : FaultAt) → HasFault at file a → HasFault at file b → a ≡ b
reported_same at file a b (InHeader x is says) (InHeader y is' says') =
    says ∙ ap (to_file_header_fault at (version_of (drop at file))) (some_same x y (sym is ∙ is')) ∙ sym says'
reported_same at file a b (InHeader x is says) (InRecord f before reader of header run is' says') =
    let clash : some x ≡ None = sym is ∙ header.passes in
    cc
reported_same at file a b (InRecord f before reader of header run is says) (InHeader y is' says') =
    let clash : some y ≡ None = sym is' ∙ header.passes in
    cc
reported_same at file a b (InRecord f xs x of header run is says) (InRecord g ys y of' header' run' is' says') =
    let fields : g ≡ f = header'.fields ∙ sym header.fields in
    let same = stops_same (body_reader at f file) xs ys x y of of' run (subst (λ (h : HeaderFields). HandsOut (body_reader at h file) ys y) fields run') is is' in
    says ∙ ap to_file_record_fault same ∙ sym says'

-- two segments at fault, after sound segments of one file, are the same one
faults_same : (xs ys : List Segment) (at x y : ℕ) (file : List ℕ) (a b : FaultAt) → AreSegments xs at file x → AreSegments ys at file y
    → HasFault x file a → HasFault y file b → (a ≡ b) × (length xs ≡ length ys)
faults_same [] [] at x y file a b p q h k = (reported_same y file a b (subst (λ (n : ℕ). HasFault n file a) (sym p ∙ q) h) k, refl)
faults_same [] (s ∷ ys) at x y file a b p q h k = absurd (no_segment x file a s h (q.0 ∙ p) q.2)
faults_same (s ∷ xs) [] at x y file a b p q h k = absurd (no_segment y file b s k (p.0 ∙ q) p.2)
faults_same (s ∷ xs) (t ∷ ys) at x y file a b p q h k =
    let same : t ≡ s = segment_same t s file q.2 p.2 (q.0 ∙ sym p.0) in
    let tail : AreSegments ys (at + s.fields.byte_count) file y = subst (λ (u : Segment). AreSegments ys (at + u.fields.byte_count) file y) same q.3 in
    let rest = faults_same xs ys (at + s.fields.byte_count) x y file a b p.3 tail h k in
    (rest.0, ap suc rest.1)

-- a file has one first fault
pub one_first_fault : (file : List ℕ) (a b : FileFault) → IsFirstFault file a → IsFirstFault file b → a ≡ b
one_first_fault file a b p q =
    let both = faults_same p.before q.before 0 p.at q.at file (a.cause, a.at) (b.cause, b.at) p.sound q.sound p.here q.here in
    let numbers : a.segment ≡ b.segment = p.number ∙ ap (λ (n : ℕ). n + 1) both.1 ∙ sym q.number in
    ap (λ (n : ℕ). made n (a.cause, a.at)) numbers ∙ ap (made b.segment) both.0
  where
    made : ℕ → FaultAt → FileFault
    made number answer_of_reader = record { cause = answer_of_reader.0; segment = number; at = answer_of_reader.1 }

-- ---- a segment lies in its file

names_end-some : (bytes : List ℕ) → 10 ≤ names_end bytes
unfolding names_end
names_end-some bytes = omega arith

-- the body begins in the segment, and the segment, which has ten bytes at least, ends in the file
pub record LiesIn (start : ℕ) (f : HeaderFields) (file : List ℕ) : Type 0 where
  pub ordered : f.disp_data ≤ f.byte_count
  pub within : start + f.byte_count ≤ length file
  pub some : 10 ≤ f.byte_count

pub header_lies : (start : ℕ) (f : HeaderFields) (file : List ℕ) → IsHeader start f file → LiesIn start f file
header_lies start f file is =
    let bytes = drop start file in
    let sound : IsSound bytes f = subst (IsSound bytes) (sym is.fields) (sound_from_none bytes is.passes) in
    let names = names_end-some bytes in
    record {
      ordered = sound.data';
      within = omega (arith, length-drop start file, sound.whole, sound.long);
      some = omega (arith, names, sound.names, sound.data');
    }

-- each segment takes ten bytes at least
pub segments_fit : (segments : List Segment) (at : ℕ) (file : List ℕ) (next : ℕ) → AreSegments segments at file next → at + 10 * length segments ≤ next
segments_fit [] at file next are = omega arith
segments_fit (s ∷ segments) at file next are =
    let lies = header_lies s.start s.fields file are.2.header in
    let rest = segments_fit segments (at + s.fields.byte_count) file next are.3 in
    omega (arith, lies.some)
