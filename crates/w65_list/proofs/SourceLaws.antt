-- The lines of records, of segments and of a file, one after another.
use Rattle.std.proofs.Common.{◌≡◌, inl, inr, ℕ, zero, suc, ◌+◌, ◌≤◌, Bool, true, false, cond, List, [], ◌∷◌, ◌++◌, length, take, Option, Some, None, Result, Ok, Err, refl, sym, ap, subst, ◌∙◌, arith, append_assoc, append-nil}
use Rattle.std.specs.Prelude.{◌&&◌, ◌||◌, slice_get, option_map, bytes_eq, IfErr, OnOk}
use Rattle.std.specs.List.{list_all}
use Rattle.std.proofs.lemmas.List.Concat.{flat_map-cons, flat_map-append}
use Rattle.std.proofs.lemmas.List.Folds.{list_any-append}
use Rattle.omf_format.specs.declared.fault.FileCause.{FileCause}
use Rattle.omf_format.specs.declared.fault.FileCause.TheVariants as files
use Rattle.omf_format.specs.declared.fault.FileFault.{FileFault}
use Rattle.omf_format.specs.Field.{Layout, ◌>>=◌}
use Rattle.omf_format.specs.File.{Segment, IsFile, IsFirstFault}
use Rattle.omf_format.specs.Header.{HeaderFields}
use Rattle.omf_format.specs.Reading.{Reader, next_answer, after_next, records_of, IsBody}
use Rattle.omf_format.specs.Record.{Record, End, Const, LongConst, Align, Org, Space, Reloc, InterSeg, ShortReloc, ShortInterSeg, Super, Using, Strong, Label, Equate, Formula, Entry, IsRecord}
use Rattle.omf_records.specs.Segments.{IsRefused, UnlessMemory}
use Rattle.omf_records.specs.WalkLaws.{walk_on, walk_ends}
use Rattle.list_meaning.specs.declared.faults.ListCause.TheVariants as causes
use Rattle.list_meaning.specs.declared.faults.ListFault.{ListFault}
use Rattle.list_meaning.specs.Answer.{IsListing, IsListFault, OutOfMemory, InFile, InSegment, InSize, cause_of}
use Rattle.list_meaning.specs.Listed.{ListedStatement, listing_text}
use Rattle.list_meaning.specs.Listing.{PendingRun, Given, is_among, equate_name, given_by, said_from, front_of, has_listable_header, is_short, listing_of, in_segment, listing_from, is_small}
use Rattle.list_meaning.specs.laws.Steps.{equates_of, or_record, at_front}
use Rattle.list_lines.specs.declared.names.Names.{Names}
use Rattle.list_lines.specs.declared.output.ListingText.{ListingText}
use Rattle.w65_list.specs.declared.records.PendingRun as kept_before
use Rattle.w65_list.specs.declared.source.Refusal.{Refusal}
use Rattle.w65_list.specs.declared.source.Refusal.TheVariants as refusals
use Rattle.list_lines.specs.declared.stop.LineStop.{LineStop}
use Rattle.list_lines.specs.declared.stop.LineStop.TheVariants as stops
use Rattle.w65_list.specs.BeforeView.{IsBefore}
use Rattle.w65_list.specs.Giving.{IsGiven, HasExpression}
use Rattle.list_lines.specs.Kept.{with_lines}
use Rattle.list_lines.specs.LineView.{WroteAll}
use Rattle.list_lines.specs.NamesView.{AreNames}
use Rattle.list_lines.specs.OutputView.{finished_lines, open_line}
use Rattle.w65_list.specs.SourceView.{WroteRecords, WroteSegment, WroteFile, equates_in, IsStop, IsRefusal, IsSegmentFault, IsReported, EquatesOn, RecordsOn, SegmentsOn}
use Rattle.w65_list.proofs.KeptLaws.{kept_all}
use Rattle.w65_list.proofs.RecordRuns.{rest_of, layout_same}
use Rattle.list_lines.proofs.Written.{wrote_both, with_lines-append}

-- ---- equates

or_swap : (a b : Bool) → (a || b) ≡ (b || a)
or_swap true true = refl
or_swap true false = refl
or_swap false true = refl
or_swap false false = refl

among_swap : (a b : List (List ℕ)) (name : List ℕ) → is_among (a ++ b) name ≡ is_among (b ++ a) name
among_swap a b name = list_any-append (bytes_eq name) a b ∙ or_swap (is_among a name) (is_among b name) ∙ sym (list_any-append (bytes_eq name) b a)

equates_more : (before : List (ℕ × Record)) (found : ℕ × Record) → equates_in (before ++ found ∷ []) ≡ equates_in before ++ equate_name found.1
equates_more before found =
    flat_map-append (λ (f : ℕ × Record). equate_name f.1) before (found ∷ []) ∙ ap (λ (l : List (List ℕ)). equates_in before ++ l) (flat_map-cons (λ (f : ℕ × Record). equate_name f.1) found [] ∙ append-nil (equate_name found.1))

pub equates_on : (start at next : Reader) (old new : Names) (found : ℕ × Record) → EquatesOn start at old → next_answer at ≡ Ok (Some found) → next ≡ after_next at
    → ((all : List (List ℕ)) → AreNames old all → AreNames new (equate_name found.1 ++ all)) → EquatesOn start next new
equates_on start at next old new found on e after adds = record {
  before = on.before ++ found ∷ [];
  run = walk_on start at next on.before found on.run e after;
  are = λ name. adds (equates_in on.before) on.are name ∙ among_swap (equate_name found.1) (equates_in on.before) name ∙ ap (λ (l : List (List ℕ)). is_among l name) (sym (equates_more on.before found));
}

pub equates_end : (start at : Reader) (names : Names) → IsBody start → EquatesOn start at names → next_answer at ≡ Ok None → AreNames names (equates_in (records_of start))
equates_end start at names body on e =
    subst (λ (l : List (ℕ × Record)). AreNames names (equates_in l)) (walk_ends start at body.last on.before (records_of start) on.run e body.run body.ended) on.are

-- ---- records

-- the expression of a record is spelled by the layout
expression_of : (l : Layout) (r : Record) → IsRecord l r → HasExpression l.lab_len r
expression_of l End is = tt
expression_of l (Const bytes) is = tt
expression_of l (LongConst bytes) is = tt
expression_of l (Align n) is = tt
expression_of l (Org n) is = tt
expression_of l (Space n) is = tt
expression_of l (Reloc count shift location offset) is = tt
expression_of l (InterSeg count shift location file segment offset) is = tt
expression_of l (ShortReloc count shift location offset) is = tt
expression_of l (ShortInterSeg count shift location segment offset) is = tt
expression_of l (Super form bytes) is = tt
expression_of l (Using name) is = tt
expression_of l (Strong name) is = tt
expression_of l (Label global name size form private) is = tt
expression_of l (Equate global name size form private expr) is = is.2
expression_of l (Formula code count n expr) is = is.3
expression_of l (Entry segment offset name) is = tt

pub expression_here : (f : HeaderFields) (names : Names) (start at : Reader) (first before : kept_before.PendingRun) (old now : ListingText) (r : Record) → RecordsOn f names start at first before old now → start.layout.lab_len ≡ f.lab_len → IsRecord at.layout r
    → HasExpression f.lab_len r
expression_here f names start at first before old now r on same is =
    subst (λ (n : ℕ). HasExpression n r) (ap (λ (l : Layout). l.lab_len) (layout_same start on.so_far at on.run) ∙ same) (expression_of at.layout r is)

-- lines after lines
then_again : (x : Result (List ListedStatement) ℕ) (a b : List ListedStatement) → ((x >>= λ more. Ok (b ++ more)) >>= λ more. Ok (a ++ more)) ≡ (x >>= λ more. Ok ((a ++ b) ++ more))
then_again (Ok more) a b = ap (λ (l : List ListedStatement). Ok l) (sym (append_assoc a b more))
then_again (Err e) a b = refl

step_said : (f : HeaderFields) (equates : List (List ℕ)) (b left : PendingRun) (before : List (ℕ × Record)) (found : ℕ × Record) (lines : List ListedStatement) (given : Given) → given_by f equates left found.1 ≡ Some given
    → ((rest : List (ℕ × Record)) → said_from f equates b (before ++ rest) ≡ (said_from f equates left rest >>= λ more. Ok (lines ++ more)))
    → (rest : List (ℕ × Record)) → said_from f equates b ((before ++ found ∷ []) ++ rest) ≡ (said_from f equates given.1 rest >>= λ more. Ok ((lines ++ given.0) ++ more))
unfolding said_from
step_said f equates b left before found lines given is on rest =
    ap (said_from f equates b) (append_assoc before (found ∷ []) rest) ∙ on (found ∷ rest)
    ∙ ap (λ (g : Option Given). (or_record found.0 g >>= λ given. said_from f equates given.1 rest >>= λ more. Ok (given.0 ++ more)) >>= λ more. Ok (lines ++ more)) is
    ∙ then_again (said_from f equates given.1 rest) lines given.0

stop_said : (f : HeaderFields) (equates : List (List ℕ)) (b left : PendingRun) (before : List (ℕ × Record)) (found : ℕ × Record) (lines : List ListedStatement) → given_by f equates left found.1 ≡ None
    → ((rest : List (ℕ × Record)) → said_from f equates b (before ++ rest) ≡ (said_from f equates left rest >>= λ more. Ok (lines ++ more)))
    → (rest : List (ℕ × Record)) → said_from f equates b (before ++ found ∷ rest) ≡ Err found.0
unfolding said_from
stop_said f equates b left before found lines is on rest =
    on (found ∷ rest) ∙ ap (λ (g : Option Given). (or_record found.0 g >>= λ given. said_from f equates given.1 rest >>= λ more. Ok (given.0 ++ more)) >>= λ more. Ok (lines ++ more)) is

wrote_nothing : (a : ListingText) → open_line a ≡ [] → WroteAll [] a a
wrote_nothing a line = record { whole = refl; line = line; short = refl }

same_again : (x : Result (List ListedStatement) ℕ) → x ≡ (x >>= λ more. Ok ([] ++ more))
same_again (Ok more) = refl
same_again (Err e) = refl

pub records_begin : (f : HeaderFields) (names : Names) (start : Reader) (first : kept_before.PendingRun) (out : ListingText) → open_line out ≡ [] → RecordsOn f names start start first first out out
records_begin f names start first out line = record {
  line = line;
  so_far = [];
  run = refl;
  each = λ b all is are. record { lines = []; left = b; is = is; wrote = wrote_nothing out line; on = λ rest. same_again (said_from f all b rest) };
}

pub records_on : (f : HeaderFields) (names : Names) (start at next : Reader) (first before after : kept_before.PendingRun) (old now new : ListingText) (found : ℕ × Record) → RecordsOn f names start at first before old now → next_answer at ≡ Ok (Some found)
    → next ≡ after_next at → ((b : PendingRun) (all : List (List ℕ)) → IsBefore before b → AreNames names all → IsGiven (given_by f all b found.1) now new after) → (b : PendingRun) (all : List (List ℕ)) → IsBefore first b → AreNames names all
    → RecordsOn f names start next first after old new
records_on f names start at next first before after old now new found on e moved gives b all is are = record {
  line = let u = on.each b all is are in (gives u.left all u.is are).gave.wrote.line;
  so_far = on.so_far ++ found ∷ [];
  run = walk_on start at next on.so_far found on.run e moved;
  each = λ b all is are.
      let u = on.each b all is are in
      let g = gives u.left all u.is are in
      record {
        lines = u.lines ++ g.all.0;
        left = g.all.1;
        is = g.gave.left;
        wrote = wrote_both u.lines g.all.0 old now new u.wrote g.gave.wrote;
        on = step_said f all b u.left on.so_far found u.lines g.all g.is u.on;
      };
}

pub records_end : (f : HeaderFields) (names : Names) (start at : Reader) (first before : kept_before.PendingRun) (old now : ListingText) → IsBody start → RecordsOn f names start at first before old now → next_answer at ≡ Ok None
    → (b : PendingRun) (all : List (List ℕ)) → IsBefore first b → AreNames names all → WroteRecords f all b (records_of start) old now
unfolding said_from
records_end f names start at first before old now body on e b all is are =
    let u = on.each b all is are in
    let whole : on.so_far ≡ records_of start = walk_ends start at body.last on.so_far (records_of start) on.run e body.run body.ended in
    record { lines = u.lines; are = ap (said_from f all b) (sym whole ∙ sym (append-nil on.so_far)) ∙ u.on [] ∙ ap (λ (l : List ListedStatement). Ok l) (append-nil u.lines); wrote = u.wrote }

pub records_stop : (f : HeaderFields) (names : Names) (start at : Reader) (first before : kept_before.PendingRun) (old now : ListingText) (found : ℕ × Record) → IsBody start → RecordsOn f names start at first before old now → next_answer at ≡ Ok (Some found)
    → ((b : PendingRun) (all : List (List ℕ)) → IsBefore before b → AreNames names all → given_by f all b found.1 ≡ None)
    → (b : PendingRun) (all : List (List ℕ)) → IsBefore first b → AreNames names all → said_from f all b (records_of start) ≡ Err found.0
records_stop f names start at first before old now found body on e none b all is are =
    let u = on.each b all is are in
    let rest = rest_of start on.so_far (records_of start) at body.last found on.run body.run body.ended e in
    ap (said_from f all b) rest.whole ∙ stop_said f all b u.left on.so_far found u.lines (none u.left all u.is are) u.on rest.following

-- an answer that stopped
abbrev pub failed : LineStop → Result (Unit {0}) LineStop
failed stop = Err stop

-- where it stopped
pub refusal_of : (stop : LineStop) (refusal : Refusal) (place : ℕ) (P : ℕ → Type 0) → IsStop place stop refusal → (stop ≡ stops.NotListable → P place) → IsRefusal refusal P
refusal_of stops.NotListable refusal place P is here = subst (λ (r : Refusal). IsRefusal r P) (sym is) (here refl)
refusal_of stops.Memory refusal place P is here = subst (λ (r : Refusal). IsRefusal r P) (sym is) tt

pub refusal_weaker : (refusal : Refusal) (P Q : ℕ → Type 0) → ((at : ℕ) → P at → Q at) → IsRefusal refusal P → IsRefusal refusal Q
refusal_weaker (refusals.NotListable at) P Q f is = f at is
refusal_weaker refusals.Memory P Q f is = tt

-- ---- a segment

pub segment_lines : (s : Segment) (lines : List ListedStatement) → (has_listable_header s && list_all is_short (front_of s.fields)) ≡ true → said_from s.fields (equates_of s) (at_front s.fields) s.records ≡ Ok lines
    → listing_of s ≡ Ok (front_of s.fields ++ lines)
unfolding listing_of
segment_lines s lines holds are = rw (holds, are) refl

pub segment_front : (s : Segment) → (has_listable_header s && list_all is_short (front_of s.fields)) ≡ false → listing_of s ≡ Err s.start
unfolding listing_of
segment_front s fails = rw fails refl

pub segment_stops : (s : Segment) (at : ℕ) → (has_listable_header s && list_all is_short (front_of s.fields)) ≡ true → said_from s.fields (equates_of s) (at_front s.fields) s.records ≡ Err at → listing_of s ≡ Err at
unfolding listing_of
segment_stops s at holds are = rw (holds, are) refl

pub segment_wrote : (s : Segment) (old middle new : ListingText) → (has_listable_header s && list_all is_short (front_of s.fields)) ≡ true → WroteAll (front_of s.fields) old middle
    → WroteRecords s.fields (equates_of s) (at_front s.fields) s.records middle new → WroteSegment s old new
segment_wrote s old middle new holds front records =
    record { lines = front_of s.fields ++ records.lines; are = segment_lines s records.lines holds records.are; wrote = wrote_both (front_of s.fields) records.lines old middle new front records.wrote }

-- ---- a file

file_again : (x : Result (List ListedStatement) (ℕ × ℕ)) (a b : List ListedStatement) → ((x >>= λ more. Ok (b ++ more)) >>= λ more. Ok (a ++ more)) ≡ (x >>= λ more. Ok ((a ++ b) ++ more))
file_again (Ok more) a b = ap (λ (l : List ListedStatement). Ok l) (sym (append_assoc a b more))
file_again (Err e) a b = refl

one_on : (n : ℕ) (s : Segment) (rest : List Segment) (lines : List ListedStatement) → listing_of s ≡ Ok lines → listing_from n (s ∷ rest) ≡ (listing_from (n + 1) rest >>= λ more. Ok (lines ++ more))
unfolding listing_from
one_on n s rest lines is = ap (λ (r : Result (List ListedStatement) ℕ). in_segment n r >>= λ first. listing_from (n + 1) rest >>= λ more. Ok (first ++ more)) is

one_stop : (n : ℕ) (s : Segment) (rest : List Segment) (at : ℕ) → listing_of s ≡ Err at → listing_from n (s ∷ rest) ≡ Err (n, at)
unfolding listing_from
one_stop n s rest at is = ap (λ (r : Result (List ListedStatement) ℕ). in_segment n r >>= λ first. listing_from (n + 1) rest >>= λ more. Ok (first ++ more)) is

take_next : (segments : List Segment) (place : ℕ) (s : Segment) → slice_get segments place ≡ Some s → take (place + 1) segments ≡ take place segments ++ s ∷ []
take_next segments place s is = let more : place + 1 ≡ suc place = omega arith in ap (λ (n : ℕ). take n segments) more ∙ by segments place is
  where
    by : (segments : List Segment) (place : ℕ) → slice_get segments place ≡ Some s → take (suc place) segments ≡ take place segments ++ s ∷ []
    by [] place e = absurd cc
    by (x ∷ segments) zero e = let same : x ≡ s = cc in ap (λ (y : Segment). y ∷ []) same
    by (x ∷ segments) (suc place) e = ap (λ (l : List Segment). x ∷ l) (by segments place e)

record Parts (segments : List Segment) (place : ℕ) (s : Segment) : Type 0 where
  following : List Segment
  whole : segments ≡ take place segments ++ s ∷ following

parts_at : (segments : List Segment) (place : ℕ) (s : Segment) → slice_get segments place ≡ Some s → Parts segments place s
parts_at [] place s e = absurd cc
parts_at (x ∷ segments) zero s e = let same : x ≡ s = cc in record { following = segments; whole = ap (λ (y : Segment). y ∷ segments) same }
parts_at (x ∷ segments) (suc place) s e = let more = parts_at segments place s e in record { following = more.following; whole = ap (λ (l : List Segment). x ∷ l) more.whole }

pub segments_on : (segments : List Segment) (place : ℕ) (s : Segment) (now new : ListingText) → SegmentsOn segments place now → slice_get segments place ≡ Some s → WroteSegment s now new → SegmentsOn segments (place + 1) new
segments_on segments place s now new on found wrote = record {
  line = wrote.wrote.line;
  lines = on.lines ++ wrote.lines;
  wrote = wrote.wrote.whole ∙ ap (with_lines wrote.lines) on.wrote ∙ sym (with_lines-append on.lines wrote.lines (Some ([], 0)));
  on = λ rest.
      let number : 1 + place + 1 ≡ 1 + (place + 1) = omega arith in
      ap (λ (l : List Segment). listing_from 1 (l ++ rest)) (take_next segments place s found) ∙ ap (listing_from 1) (append_assoc (take place segments) (s ∷ []) rest) ∙ on.on (s ∷ rest)
      ∙ ap (λ (r : Result (List ListedStatement) (ℕ × ℕ)). r >>= λ more. Ok (on.lines ++ more)) (one_on (1 + place) s rest wrote.lines wrote.are)
      ∙ file_again (listing_from (1 + place + 1) rest) on.lines wrote.lines ∙ ap (λ (n : ℕ). listing_from n rest >>= λ more. Ok ((on.lines ++ wrote.lines) ++ more)) number;
}

pub segments_end : (segments : List Segment) (place : ℕ) (out : ListingText) → SegmentsOn segments place out → length segments ≤ place → WroteFile segments out
unfolding listing_from
segments_end segments place out on all = record {
  lines = on.lines;
  are = ap (listing_from 1) (sym (take_all segments place all) ∙ sym (append-nil (take place segments))) ∙ on.on [] ∙ ap (λ (l : List ListedStatement). Ok l) (append-nil on.lines);
  wrote = on.wrote;
}
  where
    take_all : (segments : List Segment) (place : ℕ) → length segments ≤ place → take place segments ≡ segments
    take_all [] zero all = refl
    take_all [] (suc place) all = refl
    take_all (s ∷ segments) zero all = absurd (omega (arith, all))
    take_all (s ∷ segments) (suc place) all = ap (λ (l : List Segment). s ∷ l) (take_all segments place (omega (arith, all)))

pub segments_stop : (segments : List Segment) (place : ℕ) (s : Segment) (now : ListingText) (refusal : Refusal) (fault : ListFault) → SegmentsOn segments place now → slice_get segments place ≡ Some s → IsRefusal refusal (λ at. listing_of s ≡ Err at)
    → IsReported refusal (place + 1) fault → IsSegmentFault segments fault
segments_stop segments place s now (refusals.NotListable at) fault on found is reported =
    let parts = parts_at segments place s found in
    let number : 1 + place ≡ place + 1 = omega arith in
    let stops : listing_from 1 segments ≡ Err (place + 1, at) =
    ap (listing_from 1) parts.whole ∙ on.on (s ∷ parts.following) ∙ ap (λ (r : Result (List ListedStatement) (ℕ × ℕ)). r >>= λ more. Ok (on.lines ++ more)) (one_stop (1 + place) s parts.following at is)
    ∙ ap (λ (n : ℕ). Err (n, at)) number in
    inr (place + 1, at, stops, reported)
segments_stop segments place s now refusals.Memory fault on found is reported = inl reported

-- ---- the answer

pub file_refused : (file : List ℕ) (fault : FileFault) (reported : ListFault) → IsRefused fault file → reported ≡ record { cause = cause_of fault.cause; segment = fault.segment; at = fault.at } → IsListFault file reported
file_refused file fault reported is e = by fault.cause refl is
  where
    by : (cause : FileCause) → fault.cause ≡ cause → UnlessMemory cause fault (IsFirstFault file fault) → IsListFault file reported
    by files.Memory same is =
        OutOfMemory (e ∙ ap (λ (x : FileCause). record { cause = cause_of x; segment = fault.segment; at = fault.at }) same ∙ ap (λ (x : ℕ). record { cause = causes.Memory; segment = x; at = fault.at }) is.0
        ∙ ap (λ (x : ℕ). record { cause = causes.Memory; segment = 0; at = x }) is.1)
    by files.Truncated same is = InFile fault is e
    by files.BadHeader same is = InFile fault is e
    by files.Unsupported same is = InFile fault is e
    by files.BadRecord same is = InFile fault is e

pub segment_refused : (file : List ℕ) (segments : List Segment) (fault : ListFault) → IsFile segments file → IsSegmentFault segments fault → IsListFault file fault
segment_refused file segments fault is (inl e) = OutOfMemory e
segment_refused file segments fault is (inr found) = InSegment found.0 found.1 (record { segments = segments; is_file = is; refused = found.2 }) found.3

kept_is : (segments : List Segment) (out : ListingText) (wrote : WroteFile segments out) → option_map (λ found. found.0) (finished_lines out) ≡ cond (is_small wrote.lines) (Some (listing_text wrote.lines)) None
kept_is segments out wrote = ap (option_map (λ (found : List ℕ × ℕ). found.0)) (wrote.wrote ∙ kept_all wrote.lines) ∙ by (is_small wrote.lines)
  where
    by : (b : Bool) → option_map (λ (found : List ℕ × ℕ). found.0) (cond b (Some (listing_text wrote.lines, length wrote.lines)) None) ≡ cond b (Some (listing_text wrote.lines)) None
    by true = refl
    by false = refl

pub file_listed : (file : List ℕ) (segments : List Segment) (out : ListingText) (text : List ℕ) → IsFile segments file → WroteFile segments out → Some text ≡ option_map (λ found. found.0) (finished_lines out) → IsListing file text
file_listed file segments out text is wrote e = by (is_small wrote.lines) refl (e ∙ kept_is segments out wrote)
  where
    by : (b : Bool) → is_small wrote.lines ≡ b → Some text ≡ cond b (Some (listing_text wrote.lines)) None → IsListing file text
    by true small e = record { segments = segments; is_file = is; all = wrote.lines; lines = wrote.are; small = small; is = cc }
    by false small e = absurd cc

pub file_too_long : (file : List ℕ) (segments : List Segment) (out : ListingText) → IsFile segments file → WroteFile segments out → None ≡ option_map (λ found. found.0) (finished_lines out)
    → IsListFault file (record { cause = causes.TooLong; segment = 0; at = 0 })
file_too_long file segments out is wrote e = by (is_small wrote.lines) refl (e ∙ kept_is segments out wrote)
  where
    by : (b : Bool) → is_small wrote.lines ≡ b → None ≡ cond b (Some (listing_text wrote.lines)) None → IsListFault file (record { cause = causes.TooLong; segment = 0; at = 0 })
    by true small e = absurd cc
    by false small e = InSize (record { segments = segments; is_file = is; all = wrote.lines; lines = wrote.are; large = small }) refl

-- what was put before the records
pub names_of : (start : Reader) (s : Segment) (names : Names) → records_of start ≡ s.records → AreNames names (equates_in (records_of start)) → AreNames names (equates_of s)
names_of start s names same are = subst (λ (l : List (ℕ × Record)). AreNames names (equates_in l)) same are

pub segment_answer : {U E : Type 0} (r : Result U E) (s : Segment) (start : Reader) (names : Names) (first : kept_before.PendingRun) (old middle new : ListingText) → records_of start ≡ s.records → (has_listable_header s && list_all is_short (front_of s.fields)) ≡ true
    → WroteAll (front_of s.fields) old middle → IsBefore first (at_front s.fields) → AreNames names (equates_of s)
    → OnOk r ((b : PendingRun) (all : List (List ℕ)) → IsBefore first b → AreNames names all → WroteRecords s.fields all b (records_of start) middle new) → OnOk r (WroteSegment s old new)
segment_answer (Ok u) s start names first old middle new same holds front is are wrote =
    segment_wrote s old middle new holds front (subst (λ (l : List (ℕ × Record)). WroteRecords s.fields (equates_of s) (at_front s.fields) l middle new) same (wrote (at_front s.fields) (equates_of s) is are))
segment_answer (Err e) s start names first old middle new same holds front is are wrote = tt

pub segment_refusal : {U : Type 0} (r : Result U Refusal) (s : Segment) (start : Reader) (names : Names) (first : kept_before.PendingRun) → records_of start ≡ s.records → (has_listable_header s && list_all is_short (front_of s.fields)) ≡ true
    → IsBefore first (at_front s.fields) → AreNames names (equates_of s)
    → IfErr r (λ refusal. (b : PendingRun) (all : List (List ℕ)) → IsBefore first b → AreNames names all → IsRefusal refusal (λ at. said_from s.fields all b (records_of start) ≡ Err at))
    → IfErr r (λ refusal. IsRefusal refusal (λ at. listing_of s ≡ Err at))
segment_refusal (Ok u) s start names first same holds is are stops = tt
segment_refusal (Err refusal) s start names first same holds is are stops =
    refusal_weaker refusal (λ at. said_from s.fields (equates_of s) (at_front s.fields) (records_of start) ≡ Err at) (λ at. listing_of s ≡ Err at)
    (λ at e. segment_stops s at holds (ap (said_from s.fields (equates_of s) (at_front s.fields)) (sym same) ∙ e)) (stops (at_front s.fields) (equates_of s) is are)
