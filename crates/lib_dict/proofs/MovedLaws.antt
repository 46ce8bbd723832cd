-- The segments of a file are in a longer one too, where other bytes are before the file and after it.
use Rattle.std.proofs.Common.{◌≡◌, ℕ, ◌+◌, ◌-◌, ◌<◌, ◌≤◌, Bool, true, false, cond, List, [], ◌∷◌, ◌++◌, length, take, drop, map, Some, None, Result, Ok, Err, refl, sym, ap, subst, ◌∙◌, append_assoc, arith}
use Rattle.std.specs.Prelude.{◌==◌, if◌then◌else◌}
use Rattle.std.specs.List.{flat_map, AllByRecursion}
use Rattle.std.proofs.lemmas.Bool.{le-ltb, ltb-false}
use Rattle.std.proofs.lemmas.List.{append-nil, length-append, length-drop, length-take, drop-append-le, take-append-le}
use Rattle.std.proofs.lemmas.List.Concat.{flat_map-cons}
use Rattle.std.proofs.Math.Seq.{drop-append-add, take-append-add}
use Rattle.byteorder.specs.Endian.{little_number}
use Rattle.byteorder.specs.Numbers.{little_from-append}
use Rattle.omf_format.specs.declared.fault.Flaw.{Flaw}
use Rattle.omf_format.specs.Number.{number_at}
use Rattle.omf_format.specs.Name.{without_trailing, name_at, name_size}
use Rattle.omf_format.specs.Header.{HeaderFields, fields_of, version_of, kind_of, names_end, checks_of, first_of, header_fault}
use Rattle.omf_format.specs.Number.{IsBytes}
use Rattle.omf_format.specs.laws.HeaderLaws.{sound_from_none, each_false, none_holds}
use Rattle.omf_format.specs.Record.{Record, spelling}
use Rattle.omf_format.specs.laws.RecordLaws.{front-takes}
use Rattle.omf_format.specs.Reading.{Reader, first_record, next_answer, after_next, HandsOut}
use Rattle.omf_format.specs.laws.Steps.{answer_of_reader, reader_after}
use Rattle.omf_format.specs.File.{Segment, body_reader, IsSegment, AreSegments, IsFile}
use Rattle.omf_format.specs.laws.FileLaws.{Answer, gave, same_found, header_lies, AreSegments-append}
use Rattle.omf_format.specs.laws.BodyLaws.{found_by, body_fits}
use Rattle.lib_dict.specs.Library.{LibraryFile}

-- ---- a header with more bytes after it

number_more : (w at : ℕ) (xs ys : List ℕ) → at + w ≤ length xs → number_at w at (xs ++ ys) ≡ number_at w at xs
unfolding number_at
number_more w at xs ys fits = ap (little_number w) (drop-append-le at xs ys (omega arith)) ∙ little_from-append w (drop at xs) ys (omega (arith, length-drop at xs))

size_more : (l at : ℕ) (xs ys : List ℕ) → at + name_size l at xs ≤ length xs → name_size l at (xs ++ ys) ≡ name_size l at xs
unfolding name_size
size_more l at xs ys fits = by (l == 0) fits
  where
    by : (b : Bool) → at + (if b then 1 + number_at 1 at xs else l) ≤ length xs → (if b then 1 + number_at 1 at (xs ++ ys) else l) ≡ (if b then 1 + number_at 1 at xs else l)
    by true fits = ap (λ (n : ℕ). 1 + n) (number_more 1 at xs ys (omega arith))
    by false fits = refl

name_more : (l at : ℕ) (xs ys : List ℕ) → at + name_size l at xs ≤ length xs → name_at l at (xs ++ ys) ≡ name_at l at xs
unfolding name_at name_size
name_more l at xs ys fits = by (l == 0) fits
  where
    by : (b : Bool) → at + (if b then 1 + number_at 1 at xs else l) ≤ length xs
        → (if b then take (number_at 1 at (xs ++ ys)) (drop (at + 1) (xs ++ ys)) else without_trailing 32 (take l (drop at (xs ++ ys))))
        ≡ (if b then take (number_at 1 at xs) (drop (at + 1) xs) else without_trailing 32 (take l (drop at xs)))
    by true fits =
        let n = number_at 1 at xs in
        ap (λ (m : ℕ). take m (drop (at + 1) (xs ++ ys))) (number_more 1 at xs ys (omega arith))
        ∙ ap (take n) (drop-append-le (at + 1) xs ys (omega arith))
        ∙ take-append-le n (drop (at + 1) xs) ys (omega (arith, length-drop (at + 1) xs))
    by false fits =
        ap (λ (t : List ℕ). without_trailing 32 (take l t)) (drop-append-le at xs ys (omega arith))
        ∙ ap (without_trailing 32) (take-append-le l (drop at xs) ys (omega (arith, length-drop at xs)))

load_more : (at : ℕ) (xs ys : List ℕ) → at + 10 ≤ length xs → take 10 (drop at (xs ++ ys)) ≡ take 10 (drop at xs)
load_more at xs ys fits = ap (take 10) (drop-append-le at xs ys (omega arith)) ∙ take-append-le 10 (drop at xs) ys (omega (arith, length-drop at xs))

-- where the names of a sound header end
record Ends (bytes : List ℕ) : Type 0 where
  long : 44 ≤ length bytes
  names : number_at 2 0x28 bytes + 10 + name_size (number_at 1 0x0D bytes) (number_at 2 0x28 bytes + 10) bytes ≤ length bytes

ends_in : (bytes : List ℕ) → header_fault bytes ≡ None → Ends bytes
unfolding names_end fields_of
ends_in bytes none =
    let sound = sound_from_none bytes none in
    record { long = sound.long; names = omega (arith, sound.names, sound.data', sound.whole) }

fields_more : (xs ys : List ℕ) → Ends xs → fields_of (xs ++ ys) ≡ fields_of xs
unfolding fields_of version_of kind_of
fields_more xs ys e =
    let long = e.long in
    let d = number_at 2 0x28 xs in
    rw (
      number_more 4 0x00 xs ys (omega arith),
      number_more 4 0x04 xs ys (omega arith),
      number_more 4 0x08 xs ys (omega arith),
      number_more 1 0x0C xs ys (omega arith),
      number_more 1 0x0D xs ys (omega arith),
      number_more 1 0x0F xs ys (omega arith),
      number_more 4 0x10 xs ys (omega arith),
      number_more 2 0x14 xs ys (omega arith),
      number_more 4 0x18 xs ys (omega arith),
      number_more 4 0x1C xs ys (omega arith),
      number_more 2 0x22 xs ys (omega arith),
      number_more 4 0x24 xs ys (omega arith),
      number_more 2 0x28 xs ys (omega arith),
      number_more 2 0x2A xs ys (omega arith),
    )
    (rw (load_more d xs ys (omega (arith, e.names)), name_more (number_at 1 0x0D xs) (d + 10) xs ys e.names) refl)

names_more : (xs ys : List ℕ) → Ends xs → names_end (xs ++ ys) ≡ names_end xs
unfolding names_end
names_more xs ys e =
    let long = e.long in
    let d = number_at 2 0x28 xs in
    rw (number_more 2 0x28 xs ys (omega arith), number_more 1 0x0D xs ys (omega arith)) (ap (λ (n : ℕ). d + 10 + n) (size_more (number_at 1 0x0D xs) (d + 10) xs ys e.names))

checks_more : (xs ys : List ℕ) → Ends xs → AllByRecursion (λ c. c.0 ≡ false) (checks_of (fields_of xs) xs) → AllByRecursion (λ c. c.0 ≡ false) (checks_of (fields_of xs) (xs ++ ys))
checks_more xs ys e each =
    let long = e.long in
    let f = fields_of xs in
    let whole : f.byte_count ≤ length xs = ltb-false _ _ each.1.1.1.1.1.1.1.0 in
    let size = length-append xs ys in (
      le-ltb _ _ (omega arith),
      (
        rw (number_more 1 0x0E xs ys (omega arith)) each.1.0,
        (
          each.1.1.0,
          (
            each.1.1.1.0,
            (
              each.1.1.1.1.0,
              (
                rw (number_more 1 0x20 xs ys (omega arith)) each.1.1.1.1.1.0,
                (
                  each.1.1.1.1.1.1.0,
                  (le-ltb _ _ (omega arith), (rw (names_more xs ys e) each.1.1.1.1.1.1.1.1.0, (each.1.1.1.1.1.1.1.1.1.0, tt))),
                ),
              ),
            ),
          ),
        ),
      ),
    )

-- a sound header is sound whatever follows, with the same fields
pub passes_more : (xs ys : List ℕ) → header_fault xs ≡ None → (header_fault (xs ++ ys) ≡ None) × (fields_of (xs ++ ys) ≡ fields_of xs)
unfolding header_fault
passes_more xs ys none =
    let e = ends_in xs none in
    let same = fields_more xs ys e in
    let each = each_false (checks_of (fields_of xs) xs) none in
    (ap (λ (f : HeaderFields). first_of (checks_of f (xs ++ ys))) same ∙ none_holds (checks_of (fields_of xs) (xs ++ ys)) (checks_more xs ys e each), same)

-- ---- a reader that is further on

abbrev pub moved_found : ℕ → ℕ × Record → ℕ × Record
moved_found k found = (k + found.0, found.1)

-- a segment, a given number of bytes further on
abbrev pub moved_segment : ℕ → Segment → Segment
moved_segment k s = record { start = k + s.start; fields = s.fields; records = map (moved_found k) s.records }

abbrev up : ℕ → Reader → Reader
up k r = record r { end = k + r.end }

next_up : (k : ℕ) (r : Reader) (found : ℕ × Record) → length r.left ≤ r.end → next_answer r ≡ Ok (Some found) → next_answer (up k r) ≡ Ok (Some (moved_found k found))
unfolding next_answer
next_up k r found le e = by_end r.ended e
  where
    nothing : Answer
    nothing = Ok None

    by_answer : (answer : Result (Record × List ℕ) Flaw) → answer_of_reader r answer ≡ Ok (Some found) → answer_of_reader (up k r) answer ≡ Ok (Some (moved_found k found))
    by_answer (Ok f) e =
        let same : (r.end - length r.left, f.0) ≡ found = same_found (r.end - length r.left, f.0) found e in
        let place : k + r.end - length r.left ≡ k + (r.end - length r.left) = omega arith in
        ap (λ (n : ℕ). gave (n, f.0)) place ∙ ap (λ (x : ℕ × Record). gave (moved_found k x)) same
    by_answer (Err flaw) e = absurd cc

    by_end : (b : Bool) → cond b nothing (answer_of_reader r (first_record r.layout r.left)) ≡ Ok (Some found) → cond b nothing (answer_of_reader (up k r) (first_record r.layout r.left)) ≡ Ok (Some (moved_found k found))
    by_end true e = absurd cc
    by_end false e = by_answer (first_record r.layout r.left) e

after_up : (k : ℕ) (r : Reader) → after_next (up k r) ≡ up k (after_next r)
unfolding after_next
after_up k r = by_end r.ended
  where
    by_answer : (answer : Result (Record × List ℕ) Flaw) → reader_after (up k r) answer ≡ up k (reader_after r answer)
    by_answer (Ok f) = refl
    by_answer (Err flaw) = refl

    by_end : (b : Bool) → cond b (up k r) (reader_after (up k r) (first_record r.layout r.left)) ≡ up k (cond b r (reader_after r (first_record r.layout r.left)))
    by_end true = refl
    by_end false = by_answer (first_record r.layout r.left)

after_end : (r : Reader) → (after_next r).end ≡ r.end
unfolding after_next
after_end r = by_end r.ended
  where
    by_answer : (answer : Result (Record × List ℕ) Flaw) → (reader_after r answer).end ≡ r.end
    by_answer (Ok f) = refl
    by_answer (Err flaw) = refl

    by_end : (b : Bool) → (cond b r (reader_after r (first_record r.layout r.left))).end ≡ r.end
    by_end true = refl
    by_end false = by_answer (first_record r.layout r.left)

run_up : (k : ℕ) (r : Reader) (founds : List (ℕ × Record)) (last : Reader) → IsBytes r.left → length r.left ≤ r.end → HandsOut r founds last → HandsOut (up k r) (map (moved_found k) founds) (up k last)
run_up k r [] last fits le run = ap (up k) run
run_up k r (found ∷ founds) last fits le run =
    let f = found_by r found run.0 in
    let takes = front-takes r.layout r.left (found.1, f.rest) fits f.front' in
    let rest_fits : IsBytes (after_next r).left = subst IsBytes (sym f.left) takes.taken.rest_fits in
    let shorter : length (after_next r).left ≤ length r.left = omega (arith, ap length takes.taken.parts, length-append (spelling r.layout found.1) f.rest, ap length f.left) in
    let within : length (after_next r).left ≤ (after_next r).end = omega (arith, shorter, after_end r) in
    (next_up k r found le run.0, subst (λ (m : Reader). HandsOut m (map (moved_found k) founds) (up k last)) (sym (after_up k r)) (run_up k (after_next r) founds last rest_fits within run.1))

-- ---- segments further on

reader_up : (before file following : List ℕ) (start : ℕ) (f : HeaderFields) → f.disp_data ≤ f.byte_count → start + f.byte_count ≤ length file
    → body_reader (length before + start) f (before ++ (file ++ following)) ≡ up (length before) (body_reader start f file)
unfolding body_reader
reader_up before file following start f ordered within =
    let p = length before in
    let whole = before ++ (file ++ following) in
    let count : p + start + f.byte_count ≡ p + (start + f.byte_count) = omega arith in
    let place : p + start + f.disp_data ≡ p + (start + f.disp_data) = omega arith in
    let front' : take (p + start + f.byte_count) whole ≡ before ++ take (start + f.byte_count) file =
    ap (λ (n : ℕ). take n whole) count ∙ take-append-add before (file ++ following) (start + f.byte_count) ∙ ap (λ (l : List ℕ). before ++ l) (take-append-le (start + f.byte_count) file following within) in
    let left : drop (p + start + f.disp_data) (take (p + start + f.byte_count) whole) ≡ drop (start + f.disp_data) (take (start + f.byte_count) file) =
    ap (λ (n : ℕ). drop n (take (p + start + f.byte_count) whole)) place ∙ ap (drop (p + (start + f.disp_data))) front' ∙ drop-append-add before (take (start + f.byte_count) file) (start + f.disp_data) in
    ap (λ (n : ℕ). at n (drop (p + start + f.disp_data) (take (p + start + f.byte_count) whole))) count ∙ ap (at (p + (start + f.byte_count))) left
  where
    at : ℕ → List ℕ → Reader
    at end left = record (body_reader start f file) { end = end; left = left }

left_within : (start : ℕ) (f : HeaderFields) (file : List ℕ) → length (body_reader start f file).left ≤ (body_reader start f file).end
unfolding body_reader
left_within start f file = omega (arith, length-drop (start + f.disp_data) (take (start + f.byte_count) file), length-take (start + f.byte_count) file)

segment_up : (before file following : List ℕ) (s : Segment) → IsBytes file → s.start < length file → IsSegment s file → IsSegment (moved_segment (length before) s) (before ++ (file ++ following))
segment_up before file following s fits lt is =
    let p = length before in
    let whole = before ++ (file ++ following) in
    let lies = header_lies s.start s.fields file is.header in
    let here : drop (p + s.start) whole ≡ drop s.start file ++ following = drop-append-add before (file ++ following) s.start ∙ drop-append-le s.start file following (omega arith) in
    let more = passes_more (drop s.start file) following is.header.passes in
    let reader = reader_up before file following s.start s.fields lies.ordered lies.within in
    record {
      header = record { passes = ap header_fault here ∙ more.0; fields = is.header.fields ∙ sym (ap fields_of here ∙ more.1) };
      last = up p is.last;
      records =
          subst (λ (r : Reader). HandsOut r (map (moved_found p) s.records) (up p is.last)) (sym reader)
          (run_up p (body_reader s.start s.fields file) s.records is.last (body_fits s.start s.fields file fits) (left_within s.start s.fields file) is.records);
      ended = is.ended;
    }

segments_up : (before file following : List ℕ) (segments : List Segment) (at next : ℕ) → IsBytes file → AreSegments segments at file next
    → AreSegments (map (moved_segment (length before)) segments) (length before + at) (before ++ (file ++ following)) (length before + next)
segments_up before file following [] at next fits are = ap (λ (n : ℕ). length before + n) are
segments_up before file following (s ∷ segments) at next fits are =
    let p = length before in
    let whole = before ++ (file ++ following) in
    let size : length whole ≡ p + (length file + length following) = omega (arith, length-append before (file ++ following), length-append file following) in
    let starts : s.start < length file = omega (arith, are.0, are.1) in
    let rest = segments_up before file following segments (at + s.fields.byte_count) next fits are.3 in
    let place : p + (at + s.fields.byte_count) ≡ p + at + s.fields.byte_count = omega arith in (
      ap (λ (n : ℕ). p + n) are.0,
      omega (arith, are.1, size),
      segment_up before file following s fits starts are.2,
      subst (λ (n : ℕ). AreSegments (map (moved_segment p) segments) n whole (p + next)) place rest,
    )

-- ---- files one after another

-- the segments of these files, the first of which begins there
abbrev pub members_of : ℕ → List LibraryFile → List Segment
members_of first_record [] = []
members_of first_record (file ∷ files) = map (moved_segment first_record) file.segments ++ members_of (first_record + length file.bytes) files

abbrev pub bytes_of : LibraryFile → List ℕ
bytes_of file = file.bytes

-- a file of segments, and its bytes are bytes
pub record IsWhole (file : LibraryFile) : Type 0 where
  pub segments : IsFile file.segments file.bytes
  pub fits : IsBytes file.bytes

pub members_are : (before : List ℕ) (files : List LibraryFile) (whole : List ℕ) → AllByRecursion IsWhole files → whole ≡ before ++ flat_map bytes_of files
    → AreSegments (members_of (length before) files) (length before) whole (length whole)
members_are before [] whole all is = sym (ap length (is ∙ append-nil before))
members_are before (file ∷ files) whole all is =
    let p = length before in
    let rest = flat_map bytes_of files in
    let parts : whole ≡ before ++ (file.bytes ++ rest) = is ∙ ap (λ (l : List ℕ). before ++ l) (flat_map-cons bytes_of file files) in
    let first = segments_up before file.bytes rest file.segments 0 (length file.bytes) all.0.fits all.0.segments in
    let start : p + 0 ≡ p = omega arith in
    let first' : AreSegments (map (moved_segment p) file.segments) p whole (p + length file.bytes) =
    subst (λ (l : List ℕ). AreSegments (map (moved_segment p) file.segments) p l (p + length file.bytes)) (sym parts)
    (subst (λ (n : ℕ). AreSegments (map (moved_segment p) file.segments) n (before ++ (file.bytes ++ rest)) (p + length file.bytes)) start first) in
    let others = members_are (before ++ file.bytes) files whole all.1 (parts ∙ sym (append_assoc before file.bytes rest)) in
    AreSegments-append (map (moved_segment p) file.segments) (members_of (p + length file.bytes) files) p whole (p + length file.bytes) (length whole) first'
    (subst (λ (n : ℕ). AreSegments (members_of n files) n whole (length whole)) (length-append before file.bytes) others)
