-- A file has one list of load segments, or one first fault, and not both.
use Rattle.std.proofs.Common.{◌≡◌, ℕ, suc, ◌+◌, ◌<◌, true, List, [], ◌∷◌, length, drop, Option, Some, None, Ok, Err, refl, sym, ap, subst, ◌∙◌, arith}
use Rattle.std.specs.Prelude.{option_map}
use Rattle.std.specs.List.{AllByRecursion}
use Rattle.omf_format.specs.declared.fault.HeaderFault.{HeaderFault}
use Rattle.omf_format.specs.declared.fault.RecordFault.{RecordFault}
use Rattle.load_meaning.specs.declared.load.LoadCause.{LoadCause}
use Rattle.load_meaning.specs.declared.load.LoadFault.{LoadFault}
use Rattle.omf_format.specs.Header.{HeaderFields, fields_of, version_of, header_fault}
use Rattle.omf_format.specs.Record.{Record}
use Rattle.omf_format.specs.Reading.{Reader, next_answer, after_next, HandsOut}
use Rattle.omf_format.specs.File.{Segment, body_reader, IsHeader, IsSegment, AreSegments, IsFile, to_file_header_fault, to_file_record_fault}
use Rattle.omf_format.specs.laws.FileLaws.{segment_same, file_same, open_at_some}
use Rattle.load_meaning.specs.Loadable.{Fault, segment_refusal, record_refusal, as_load, front_fault, answer_fault, IsLoadSegment, HasReadFault, OfFront, OfRecord, later_fault, IsLoadable, IsFirstLoadFault, IsEmpty, OfReading, OfSegments}
use Rattle.load_meaning.specs.laws.Steps.{in_segment}

abbrev Found : Type 0
Found = ℕ × Record

abbrev IsAllowed : Found → Type 0
IsAllowed found = record_refusal found.1 ≡ None

abbrev some : Fault → Option Fault
some fault = Some fault

some_same : (a b : Fault) → some a ≡ some b → a ≡ b
some_same a b e = cc

-- where a record is refused, its reading has a fault
passes : (found : Found) (fault : Fault) → record_refusal found.1 ≡ None → answer_fault (Ok (Some found)) ≡ Some fault → ⊥
passes found fault none e =
    let clash : some fault ≡ None = sym e ∙ ap (option_map (λ (cause : LoadCause). (cause, found.0))) none in
    cc

-- where there is a fault, the next record isn't an allowed one
no_more : (r : Reader) (found : Found) (fault : Fault) → next_answer r ≡ Ok (Some found) → IsAllowed found → answer_fault (next_answer r) ≡ Some fault → ⊥
no_more r found fault e allowed stops = passes found fault allowed (sym (ap answer_fault e) ∙ stops)

-- two runs over allowed records to a fault end at one reader
stops_same : (r : Reader) (xs ys : List Found) (x y : Reader) (a b : Fault) → HandsOut r xs x → HandsOut r ys y
    → AllByRecursion IsAllowed xs → AllByRecursion IsAllowed ys → answer_fault (next_answer x) ≡ Some a → answer_fault (next_answer y) ≡ Some b → a ≡ b
stops_same r [] [] x y a b p q all_x all_y e f =
    some_same a b (sym e ∙ ap (λ (m : Reader). answer_fault (next_answer m)) (sym p ∙ q) ∙ f)
stops_same r [] (found ∷ ys) x y a b p q all_x all_y e f =
    absurd (no_more r found a q.0 all_y.0 (ap (λ (m : Reader). answer_fault (next_answer m)) p ∙ e))
stops_same r (found ∷ xs) [] x y a b p q all_x all_y e f =
    absurd (no_more r found b p.0 all_x.0 (ap (λ (m : Reader). answer_fault (next_answer m)) q ∙ f))
stops_same r (found ∷ xs) (other ∷ ys) x y a b p q all_x all_y e f =
    stops_same (after_next r) xs ys x y a b p.1 q.1 all_x.1 all_y.1 e f

-- after END there is no fault
no_fault_ended : (r : Reader) (fault : Fault) → r.ended ≡ true → answer_fault (next_answer r) ≡ Some fault → ⊥
unfolding next_answer
no_fault_ended r fault ended e =
    let none : answer_fault (next_answer r) ≡ None = rw ended refl in
    let clash : some fault ≡ None = sym e ∙ none in
    cc

-- a body of allowed records has no fault on the way
no_stop : (r : Reader) (xs ys : List Found) (x last : Reader) (a : Fault) → HandsOut r xs x → HandsOut r ys last → last.ended ≡ true
    → AllByRecursion IsAllowed ys → answer_fault (next_answer x) ≡ Some a → ⊥
no_stop r [] [] x last a p q ended all e =
    no_fault_ended x a (ap (λ (m : Reader). m.ended) (sym p ∙ q) ∙ ended) e
no_stop r [] (found ∷ ys) x last a p q ended all e =
    no_more r found a q.0 all.0 (ap (λ (m : Reader). answer_fault (next_answer m)) p ∙ e)
no_stop r (found ∷ xs) [] x last a p q ended all e =
    open_at_some r found p.0 (ap (λ (m : Reader). m.ended) q ∙ ended)
no_stop r (found ∷ xs) (other ∷ ys) x last a p q ended all e = no_stop (after_next r) xs ys x last a p.1 q.1 ended all.1 e

-- where the header passes and isn't refused, `front_fault` finds nothing
pub front-none : (start : ℕ) (f : HeaderFields) (file : List ℕ) → IsHeader start f file → segment_refusal f ≡ None → front_fault start file ≡ None
unfolding front_fault
front-none start f file header front =
    let passes' : header_fault (drop start file) ≡ None = header.passes in
    let kind : segment_refusal (fields_of (drop start file)) ≡ None = ap segment_refusal (sym header.fields) ∙ front in
    rw (passes', kind) refl

-- no segment that passes begins where a fault of phase 1 is
no_load_segment : (at : ℕ) (file : List ℕ) (fault : Fault) (s : Segment) → HasReadFault at file fault → s.start ≡ at → IsSegment s file → IsLoadSegment s → ⊥
no_load_segment at file fault s (OfFront is) start segment pass =
    let header : IsHeader at s.fields file = subst (λ (n : ℕ). IsHeader n s.fields file) start segment.header in
    let clash : some fault ≡ None = sym is ∙ front-none at s.fields file header pass.front in
    cc
no_load_segment at file fault s (OfRecord f before reader header front run all is) start segment pass =
    let fields : s.fields ≡ f = segment.header.fields ∙ ap (λ (n : ℕ). fields_of (drop n file)) start ∙ sym header.fields in
    let whole : body_reader s.start s.fields file ≡ body_reader at f file =
    ap (λ (n : ℕ). body_reader n s.fields file) start ∙ ap (λ (g : HeaderFields). body_reader at g file) fields in
    no_stop (body_reader at f file) before s.records reader segment.last fault run (subst (λ (r : Reader). HandsOut r s.records segment.last) whole segment.records) segment.ended pass.records is

-- a segment has one first fault of phase 1
read_same : (at : ℕ) (file : List ℕ) (a b : Fault) → HasReadFault at file a → HasReadFault at file b → a ≡ b
read_same at file a b (OfFront x) (OfFront y) = some_same a b (sym x ∙ y)
read_same at file a b (OfFront x) (OfRecord f before reader header front run all y) =
    let clash : some a ≡ None = sym x ∙ front-none at f file header front in
    cc
read_same at file a b (OfRecord f before reader header front run all x) (OfFront y) =
    let clash : some b ≡ None = sym y ∙ front-none at f file header front in
    cc
read_same at file a b (OfRecord f xs x header front run all e) (OfRecord g ys y header' front' run' all' e') =
    let fields : g ≡ f = header'.fields ∙ sym header.fields in
    stops_same (body_reader at f file) xs ys x y a b run (subst (λ (h : HeaderFields). HandsOut (body_reader at h file) ys y) fields run') all all' e e'

-- two segments of a file that have a fault in phase 1, after segments that pass, are the same one
faults_same : (xs ys : List Segment) (at x y : ℕ) (file : List ℕ) (a b : Fault) → AreSegments xs at file x → AreSegments ys at file y
    → AllByRecursion IsLoadSegment xs → AllByRecursion IsLoadSegment ys → HasReadFault x file a → HasReadFault y file b → (a ≡ b) × (length xs ≡ length ys)
faults_same [] [] at x y file a b p q all_x all_y h k =
    (read_same y file a b (subst (λ (n : ℕ). HasReadFault n file a) (sym p ∙ q) h) k, refl)
faults_same [] (s ∷ ys) at x y file a b p q all_x all_y h k = absurd (no_load_segment x file a s h (q.0 ∙ p) q.2 all_y.0)
faults_same (s ∷ xs) [] at x y file a b p q all_x all_y h k = absurd (no_load_segment y file b s k (p.0 ∙ q) p.2 all_x.0)
faults_same (s ∷ xs) (t ∷ ys) at x y file a b p q all_x all_y h k =
    let same : t ≡ s = segment_same t s file q.2 p.2 (q.0 ∙ sym p.0) in
    let tail : AreSegments ys (at + s.fields.byte_count) file y = subst (λ (u : Segment). AreSegments ys (at + u.fields.byte_count) file y) same q.3 in
    let rest = faults_same xs ys (at + s.fields.byte_count) x y file a b p.3 tail all_x.1 all_y.1 h k in
    (rest.0, ap suc rest.1)

-- segments that pass are no file with a fault of phase 1
no_read_fault : (xs segments : List Segment) (at x : ℕ) (file : List ℕ) (a : Fault) → AreSegments xs at file x → AreSegments segments at file (length file)
    → AllByRecursion IsLoadSegment segments → x < length file → HasReadFault x file a → ⊥
no_read_fault [] [] at x file a p q all more h = omega arith
no_read_fault [] (s ∷ segments) at x file a p q all more h = no_load_segment x file a s h (q.0 ∙ p) q.2 all.0
no_read_fault (s ∷ xs) [] at x file a p q all more h = omega arith
no_read_fault (s ∷ xs) (t ∷ segments) at x file a p q all more h =
    let same : t ≡ s = segment_same t s file q.2 p.2 (q.0 ∙ sym p.0) in
    let tail : AreSegments segments (at + s.fields.byte_count) file (length file) = subst (λ (u : Segment). AreSegments segments (at + u.fields.byte_count) file (length file)) same q.3 in
    no_read_fault xs segments (at + s.fields.byte_count) x file a p.3 tail all.1 more h

-- an empty file has no segments
no_segments : (file : List ℕ) (segments : List Segment) → file ≡ [] → IsFile segments file → segments ≡ []
no_segments file [] e is = refl
no_segments file (s ∷ segments) e is = absurd (omega (arith, ap length e, is.1))

abbrev some_fault : LoadFault → Option LoadFault
some_fault fault = Some fault

some_fault_same : (a b : LoadFault) → some_fault a ≡ some_fault b → a ≡ b
some_fault_same a b e = cc

no_later : (segments : List Segment) (fault : LoadFault) → segments ≡ [] → later_fault segments ≡ Some fault → ⊥
unfolding later_fault
no_later segments fault e h =
    let none : later_fault segments ≡ None = ap later_fault e in
    let clash : some_fault fault ≡ None = sym h ∙ none in
    cc

-- ---- the laws

-- a file has one list of load segments
pub loadable_same : (file : List ℕ) (a b : List Segment) → IsLoadable file a → IsLoadable file b → a ≡ b
loadable_same file a b p q = file_same a b file p.is_file q.is_file

-- a load file has no first fault
pub loadable_sound : (file : List ℕ) (segments : List Segment) (fault : LoadFault) → IsLoadable file segments → IsFirstLoadFault file fault → ⊥
loadable_sound file segments fault is (IsEmpty e says) = is.some (no_segments file segments e is.is_file)
loadable_sound file segments fault is (OfReading r) = no_read_fault r.before segments 0 r.at file (fault.cause, fault.at) r.sound is.is_file is.pass r.more r.here
loadable_sound file segments fault is (OfSegments l) =
    let same : l.segments ≡ segments = file_same l.segments segments file l.is_file is.is_file in
    let clash : some_fault fault ≡ None = sym l.here ∙ ap later_fault same ∙ is.sound in
    cc

-- a file has one first fault
pub first_fault_same : (file : List ℕ) (a b : LoadFault) → IsFirstLoadFault file a → IsFirstLoadFault file b → a ≡ b
first_fault_same file a b (IsEmpty e p) (IsEmpty f q) = p ∙ sym q
first_fault_same file a b (IsEmpty e p) (OfReading r) = absurd (omega (arith, ap length e, r.more))
first_fault_same file a b (IsEmpty e p) (OfSegments l) = absurd (no_later l.segments b (no_segments file l.segments e l.is_file) l.here)
first_fault_same file a b (OfReading r) (IsEmpty e p) = absurd (omega (arith, ap length e, r.more))
first_fault_same file a b (OfReading r) (OfReading q) =
    let both = faults_same r.before q.before 0 r.at q.at file (a.cause, a.at) (b.cause, b.at) r.sound q.sound r.pass q.pass r.here q.here in
    let numbers : a.segment ≡ b.segment = r.number ∙ ap (λ (n : ℕ). n + 1) both.1 ∙ sym q.number in
    ap (λ (n : ℕ). in_segment n (a.cause, a.at)) numbers ∙ ap (in_segment b.segment) both.0
first_fault_same file a b (OfReading r) (OfSegments l) = absurd (no_read_fault r.before l.segments 0 r.at file (a.cause, a.at) r.sound l.is_file l.pass r.more r.here)
first_fault_same file a b (OfSegments l) (IsEmpty e p) = absurd (no_later l.segments a (no_segments file l.segments e l.is_file) l.here)
first_fault_same file a b (OfSegments l) (OfReading r) = absurd (no_read_fault r.before l.segments 0 r.at file (b.cause, b.at) r.sound l.is_file l.pass r.more r.here)
first_fault_same file a b (OfSegments l) (OfSegments m) =
    let same : l.segments ≡ m.segments = file_same l.segments m.segments file l.is_file m.is_file in
    some_fault_same a b (sym l.here ∙ ap later_fault same ∙ m.here)

-- ---- faults that any file may have

abbrev some_header : HeaderFault → Option HeaderFault
some_header of = Some of

-- a header's fault is reported as in any file
pub header_fault-reported : (of : HeaderFault) (start : ℕ) (file : List ℕ) → header_fault (drop start file) ≡ Some of
    → HasReadFault start file (as_load (to_file_header_fault start (version_of (drop start file)) of))
unfolding front_fault
header_fault-reported of start file e =
    let there : header_fault (drop start file) ≡ some_header of = e in
    OfFront (rw there refl)

-- and so is a record's
pub record_fault-reported : (of : RecordFault) → answer_fault (Err of) ≡ Some (as_load (to_file_record_fault of))
record_fault-reported of = refl
