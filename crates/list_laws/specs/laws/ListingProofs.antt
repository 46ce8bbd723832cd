-- A listing is assembled to segments that represent the same.
use Rattle.std.proofs.Common.{◌≡◌, ℕ, ◌+◌, ◌≤◌, Bool, true, false, List, [], ◌∷◌, ◌++◌, length, map, None, Ok, refl, sym, ap, subst, ◌∙◌, arith, append-nil, leb}
use Rattle.std.specs.Prelude.{nat_le}
use Rattle.std.specs.List.{AllByRecursion, flat_map}
use Rattle.std.proofs.lemmas.Bool.{leb-true, leb-false, and_parts}
use Rattle.std.proofs.lemmas.List.{map-append}
use Rattle.std.proofs.lemmas.List.Concat.{flat_map-cons, flat_map-append}
use Rattle.omf_format.specs.Number.{IsBytes}
use Rattle.omf_format.specs.File.{Segment, AreSegments, IsFile}
use Rattle.omf_format.specs.Header.{HeaderFields, is_private}
use Rattle.omf_format.specs.Record.{Record, End}
use Rattle.object_meaning.specs.Defines.{defined_by, defined_in, title_of, outer_scope}
use Rattle.object_meaning.specs.Sizes.{Located, located_from, records_with_offsets, size_at}
use Rattle.orca_meaning.specs.Line.{Line, line_of, numbered_lines}
use Rattle.asm_meaning.specs.Object.{AreSteps, object_text, most_bytes}
use Rattle.source_meaning.specs.Object.{HasLines, InLength}
use Rattle.asm_meaning.specs.ObjectFile.{IsReadAs, AreReadAs}
use Rattle.source_meaning.specs.laws.ObjectFileProofs.{object_is_file}
use Rattle.macro_meaning.specs.laws.ExpansionProofs.{one_expansion}
use Rattle.asm_meaning.specs.Answer.{Answer}
use Rattle.asm_meaning.specs.State.{State, FinishedSegment, start}
use Rattle.asm_meaning.specs.Statement.{IsStep}
use Rattle.asm_meaning.specs.laws.StatementLaws.{step_once}
use Rattle.list_laws.specs.Given.{IsLeft}
use Rattle.list_meaning.specs.Listed.{ListedStatement, said_text, listing_text}
use Rattle.list_meaning.specs.Listing.{listing_from}
use Rattle.list_laws.specs.Flat.{zeros, places_from, contents_of, flat, FlatDefinition, comparable_definition, definitions, used_by, asked_by, AreAlike, AreAllAlike}
use Rattle.list_laws.specs.ListingLaws.{IsReadAgain, Whole, TooLong, ListingIsReadAgain, LineIsRead, ListingIsListedAgain}
use Rattle.list_laws.specs.laws.WholeLaw.{text_expands}
use Rattle.list_laws.specs.laws.After.{Leads, leads_steps}
use Rattle.list_laws.specs.laws.Content.{defs_at, defs_from, defs_from-append, places_from-append}
use Rattle.list_laws.specs.laws.ReadFacts.{IsReadSegment, segment_read}
use Rattle.list_laws.specs.laws.SegmentLines.{Ready, IsEndedAs, AreEndedAs, AreSaidAgain, FileRan, file_runs}
use Rattle.list_laws.specs.laws.ListedAgain.{AreSpaced, file_listed}

-- ---- definitions

-- the displacement in the file isn't compared
same_reported : (l at place : ℕ) (r : Record) → map (comparable_definition l) (defined_by at place r) ≡ defs_at l place r
same_reported l at place (Rattle.omf_format.specs.Record.Label global name size form private) = refl
same_reported l at place (Rattle.omf_format.specs.Record.Equate global name size form private expr) = refl
same_reported l at place _ = refl

reported_located : (l at : ℕ) (founds : List (ℕ × Record)) → map (comparable_definition l) (flat_map (λ r. defined_by r.at r.location r.content) (located_from at founds)) ≡ defs_from l at (map (λ found. found.1) founds)
reported_located l at [] = refl
reported_located l at (found ∷ founds) =
    let each = λ (r : Located). defined_by r.at r.location r.content in
    let first = defined_by found.0 at found.1 in
    let following = flat_map each (located_from (at + size_at at found.1) founds) in
    ap (map (comparable_definition l)) (flat_map-cons each (record { at = found.0; location = at; content = found.1 }) (located_from (at + size_at at found.1) founds))
    ∙ map-append (comparable_definition l) first following ∙ ap (λ (d : List FlatDefinition). d ++ map (comparable_definition l) following) (same_reported l found.0 at found.1)
    ∙ ap (λ (d : List FlatDefinition). defs_at l at found.1 ++ d) (reported_located l (at + size_at at found.1) founds)

-- SEGNAME
titled : List ℕ → ℕ → List FlatDefinition
titled [] kind = []
titled (byte ∷ name) kind = record { name = byte ∷ name; scope = outer_scope (is_private kind); place = 0; value = None } ∷ []

title_reported : (l : ℕ) (s : Segment) → map (comparable_definition l) (title_of s) ≡ titled s.fields.name s.fields.kind
unfolding title_of titled
title_reported l s = by s.fields.name refl
  where
    by : (name : List ℕ) → s.fields.name ≡ name → map (comparable_definition l) (title_of s) ≡ titled name s.fields.kind
    by [] e = rw e refl
    by (byte ∷ name) e = rw e refl

definitions_are : (s : Segment) → definitions s ≡ titled s.fields.name s.fields.kind ++ defs_from s.fields.lab_len 0 (contents_of s)
unfolding defined_in records_with_offsets
definitions_are s =
    let l = s.fields.lab_len in
    let following = flat_map (λ r. defined_by r.at r.location r.content) (located_from 0 s.records) in
    map-append (comparable_definition l) (title_of s) following ∙ ap (λ (d : List FlatDefinition). d ++ map (comparable_definition l) following) (title_reported l s) ∙ ap (λ (d : List FlatDefinition). titled s.fields.name s.fields.kind ++ d) (reported_located l 0 s.records)

-- ---- a segment

with_end : (used : Record → List (List ℕ)) (written : List Record) → used End ≡ [] → flat_map used (written ++ End ∷ []) ≡ flat_map used written
with_end used written none =
    flat_map-append used written (End ∷ []) ∙ ap (λ (l : List (List ℕ)). flat_map used written ++ l) (flat_map-cons used End [] ∙ append-nil (used End) ∙ none) ∙ append-nil (flat_map used written)

alike_of : (s o : Segment) (e : FinishedSegment) → IsEndedAs s e → IsReadAs e o → AreAlike s o
unfolding flat places_from
alike_of s o e is read =
    let l = s.fields.lab_len in
    let contents : contents_of o ≡ is.written ++ End ∷ [] = read.records ∙ is.body in
    let lab_len : o.fields.lab_len ≡ 0 = ap (λ (f : HeaderFields). f.lab_len) read.fields in
    let res : o.fields.res_spc ≡ 0 = ap (λ (f : HeaderFields). f.res_spc) read.fields ∙ is.spaced in
    let name : s.fields.name ≡ o.fields.name = sym is.name ∙ sym (ap (λ (f : HeaderFields). f.name) read.fields) in
    let kind : s.fields.kind ≡ o.fields.kind = sym is.kind ∙ sym (ap (λ (f : HeaderFields). f.kind) read.fields) in
    record {
      name = name;
      load_name = sym is.load_name ∙ sym (ap (λ (f : HeaderFields). f.load_name) read.fields);
      kind = kind;
      bank_size = sym is.bank_size ∙ sym (ap (λ (f : HeaderFields). f.bank_size) read.fields);
      org = sym is.org ∙ sym (ap (λ (f : HeaderFields). f.org) read.fields);
      align = sym is.align ∙ sym (ap (λ (f : HeaderFields). f.align) read.fields);
      length = sym is.length' ∙ sym (ap (λ (f : HeaderFields). f.length) read.fields);
      places = is.alike.places
          ∙ sym (ap (λ (k : ℕ). places_from k 0 (contents_of o) ++ zeros o.fields.res_spc) lab_len ∙ ap (λ (k : ℕ). places_from 0 0 (contents_of o) ++ zeros k) res
          ∙ append-nil (places_from 0 0 (contents_of o)) ∙ ap (places_from 0 0) contents ∙ places_from-append 0 0 is.written (End ∷ []) ∙ append-nil (places_from 0 0 is.written));
      defined = definitions_are s ∙ ap (λ (d : List FlatDefinition). titled s.fields.name s.fields.kind ++ d) is.alike.defined
          ∙ sym (definitions_are o ∙ ap (λ (k : ℕ). titled o.fields.name o.fields.kind ++ defs_from k 0 (contents_of o)) lab_len
          ∙ ap (λ (rs : List Record). titled o.fields.name o.fields.kind ++ defs_from 0 0 rs) contents
          ∙ ap (λ (d : List FlatDefinition). titled o.fields.name o.fields.kind ++ d) (defs_from-append 0 0 is.written (End ∷ []) ∙ append-nil (defs_from 0 0 is.written))
          ∙ ap (λ (n : List ℕ). titled n o.fields.kind ++ defs_from 0 0 is.written) (sym name) ∙ ap (λ (k : ℕ). titled s.fields.name k ++ defs_from 0 0 is.written) (sym kind));
      using' = is.alike.using' ∙ sym (ap (flat_map used_by) contents ∙ with_end used_by is.written refl);
      strong = is.alike.strong ∙ sym (ap (flat_map asked_by) contents ∙ with_end asked_by is.written refl);
    }

all_alike : (segments others : List Segment) (ended : List FinishedSegment) → AreEndedAs segments ended → AreReadAs ended others → AreAllAlike segments others
all_alike [] [] [] are read = tt
all_alike [] [] (e ∷ ended) are read = absurd are
all_alike [] (o ∷ others) [] are read = absurd read
all_alike [] (o ∷ others) (e ∷ ended) are read = absurd are
all_alike (s ∷ segments) [] [] are read = absurd are
all_alike (s ∷ segments) [] (e ∷ ended) are read = absurd read
all_alike (s ∷ segments) (o ∷ others) [] are read = absurd are
all_alike (s ∷ segments) (o ∷ others) (e ∷ ended) are read = (alike_of s o e are.0 read.0, all_alike segments others ended are.1 read.1)

-- ---- a file

all_read : (segments : List Segment) (at : ℕ) (file : List ℕ) (next : ℕ) → IsBytes file → AreSegments segments at file next → AllByRecursion IsReadSegment segments
all_read [] at file next fits are = tt
all_read (s ∷ segments) at file next fits are = (segment_read s file fits are.2, all_read segments (at + s.fields.byte_count) file next fits are.3)

at_start : Ready 0 0 [] start
at_start = record { none = refl; outside = λ name. refl; org_is = refl; align_is = refl; front = refl; ended_is = refl }

-- the lines of a file's listing have no fault
pub file_leads : (file : List ℕ) (segments : List Segment) (all : List ListedStatement) → IsBytes file → IsFile segments file → listing_from 1 segments ≡ Ok all → FileRan segments [] start 1 all
file_leads file segments all fits is listed = file_runs 1 segments all [] start 1 (all_read segments 0 file (length file) fits is) listed at_start

pub read_again : ListingIsReadAgain
read_again file segments all fits is listed few =
    let ran = file_leads file segments all fits is listed in
    let has : HasLines (listing_text all) [] ran.last = record { lines = numbered_lines 0 1 (map said_text all); expanded = text_expands all ran.said few; steps = leads_steps start ran.last 1 all ran.leads } in
    let ended : AreEndedAs segments ran.last.ended = subst (AreEndedAs segments) (sym ran.ready.ended_is) ran.are in
    by ran.last (leb (length (object_text ran.last.ended)) most_bytes) refl has ran.ready.none ended
  where
    by : (final : State) (b : Bool) → leb (length (object_text final.ended)) most_bytes ≡ b → HasLines (listing_text all) [] final → final.segment ≡ None → AreEndedAs segments final.ended
        → IsReadAgain (listing_text all) segments
    by final true e has none ended =
        let short = leb-true (length (object_text final.ended)) most_bytes e in
        let object = object_is_file (listing_text all) [] final has short in
        Whole (object_text final.ended) (record { last = final; has = has; ended = none; text = refl; fits = short }) object.0 object.1 (all_alike segments object.0 final.ended ended object.2)
    by final false e has none ended = TooLong (InLength final has none (leb-false (length (object_text final.ended)) most_bytes e) refl)

-- ---- one line

right : State → Answer State
right state = Ok state

same_right : (a b : State) → right a ≡ right b → a ≡ b
unfolding right
same_right a b e = cc

next_same : (state : State) (line : Line) (a b : State) → IsStep state line (Ok a) → IsStep state line (Ok b) → a ≡ b
unfolding right
next_same state line a b p q = same_right a b (step_once state line (Ok a) (Ok b) p q)

-- of lines without a fault each leaves what it was written for
line_left : (first last state : State) (number : ℕ) (before following : List ListedStatement) (said : ListedStatement) → Leads first number (before ++ said ∷ following) last → AreSteps first (numbered_lines 0 number (map said_text before)) state
    → (next : State) × IsStep state (line_of 0 (number + length before) (said_text said)) (Ok next) × IsLeft (line_of 0 (number + length before) (said_text said)) said state next
unfolding numbered_lines
line_left first last state number [] following said leads steps =
    let same : number + 0 ≡ number = omega arith in
    subst (λ (s : State). (next : State) × IsStep s (line_of 0 (number + 0) (said_text said)) (Ok next) × IsLeft (line_of 0 (number + 0) (said_text said)) said s next) steps
    (subst (λ (n : ℕ). (next : State) × IsStep first (line_of 0 n (said_text said)) (Ok next) × IsLeft (line_of 0 n (said_text said)) said first next) (sym same) (leads.0, leads.1.0, leads.1.1))
line_left first last state number (x ∷ before) following said leads steps =
    let same : leads.0 ≡ steps.0 = next_same first (line_of 0 number (said_text x)) leads.0 steps.0 leads.1.0 steps.1 in
    let count : number + 1 + length before ≡ number + length (x ∷ before) = omega arith in
    subst (λ (n : ℕ). (next : State) × IsStep state (line_of 0 n (said_text said)) (Ok next) × IsLeft (line_of 0 n (said_text said)) said state next) count
    (line_left leads.0 last state (number + 1) before following said leads.2 (subst (λ (s : State). AreSteps s (numbered_lines 0 (number + 1) (map said_text before)) state) (sym same) steps.2))

pub line_is_read : LineIsRead
line_is_read file segments before following said state fits is listed steps =
    let ran = file_leads file segments (before ++ said ∷ following) fits is listed in
    line_left start ran.last state 1 before following said ran.leads steps

-- ---- the listing of the object

steps_same : (state : State) (lines : List Line) (a b : State) → AreSteps state lines a → AreSteps state lines b → a ≡ b
steps_same state [] a b p q = sym p ∙ q
steps_same state (line ∷ lines) a b p q =
    steps_same p.0 lines a b p.2 (subst (λ (s : State). AreSteps s lines b) (sym (next_same state line p.0 q.0 p.1 q.1)) q.2)

last_same : (text : List ℕ) (a b : State) → HasLines text [] a → HasLines text [] b → a ≡ b
last_same text a b p q = steps_same start p.lines a b p.steps (subst (λ (l : List Line). AreSteps start l b) (sym (one_expansion text [] p.lines q.lines p.expanded q.expanded)) q.steps)

spaced_of : (s o : Segment) (e : FinishedSegment) → IsEndedAs s e → IsReadAs e o → o.fields.res_spc ≡ 0
spaced_of s o e is read = ap (λ (f : HeaderFields). f.res_spc) read.fields ∙ is.spaced

all_spaced : (segments others : List Segment) (ended : List FinishedSegment) → AreEndedAs segments ended → AreReadAs ended others → AreSpaced others
all_spaced segments [] ended are read = tt
all_spaced [] (o ∷ others) [] are read = absurd read
all_spaced [] (o ∷ others) (e ∷ ended) are read = absurd are
all_spaced (s ∷ segments) (o ∷ others) [] are read = absurd are
all_spaced (s ∷ segments) (o ∷ others) (e ∷ ended) are read = (spaced_of s o e are.0 read.0, all_spaced segments others ended are.1 read.1)

pub listed_again : ListingIsListedAgain
listed_again file text object fits p q =
    let ran = file_leads file p.segments p.all fits p.is_file p.lines in
    let few = leb-true (length p.all) 65536 (and_parts (nat_le (length p.all) 65536) (nat_le (length (listing_text p.all)) 16777216) p.small).0 in
    let has : HasLines (listing_text p.all) [] ran.last = record { lines = numbered_lines 0 1 (map said_text p.all); expanded = text_expands p.all ran.said few; steps = leads_steps start ran.last 1 p.all ran.leads } in
    let same : q.last ≡ ran.last = last_same (listing_text p.all) q.last ran.last (subst (λ (t : List ℕ). HasLines t [] q.last) p.is q.has) has in
    let ended : ran.more ≡ q.last.ended = sym (ap (λ (x : State). x.ended) same ∙ ran.ready.ended_is) in
    let short : length (object_text q.last.ended) ≤ most_bytes = subst (λ (t : List ℕ). length t ≤ most_bytes) q.text q.fits in
    let made = object_is_file text [] q.last q.has short in
    let are : AreEndedAs p.segments q.last.ended = subst (AreEndedAs p.segments) ended ran.are in
    let said : AreSaidAgain p.segments q.last.ended p.all = subst (λ (e : List FinishedSegment). AreSaidAgain p.segments e p.all) ended ran.again in
    record {
      segments = made.0;
      is_file = subst (IsFile made.0) (sym q.text) made.1;
      all = p.all;
      lines = file_listed 1 p.segments made.0 q.last.ended p.all said made.2 (all_alike p.segments made.0 q.last.ended are made.2) (all_spaced p.segments made.0 q.last.ended are made.2);
      small = p.small;
      is = p.is;
    }
