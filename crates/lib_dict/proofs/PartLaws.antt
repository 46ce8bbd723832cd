-- The three records of a dictionary, taken one after another.
use Rattle.std.proofs.Common.{◌≡◌, ℕ, ◌+◌, ◌≤◌, Bool, true, false, cond, List, [], ◌∷◌, length, Option, Some, None, Result, Ok, Err, refl, sym, ap, subst, ◌∙◌, arith}
use Rattle.std.proofs.lemmas.List.{length-append}
use Rattle.byteorder.specs.Endian.{little_bytes}
use Rattle.byteorder.specs.Numbers.{length-bytes_low_first}
use Rattle.omf_format.specs.declared.fault.Flaw.{Flaw}
use Rattle.omf_format.specs.Field.{Layout}
use Rattle.omf_format.specs.Number.{IsBytes}
use Rattle.omf_format.specs.Record.{Record, End, Const, LongConst, Align, Org, Space, Reloc, InterSeg, ShortReloc, ShortInterSeg, Super, Using, Strong, Label, Equate, Formula, Entry, spelling}
use Rattle.omf_format.specs.laws.RecordLaws.{front-takes}
use Rattle.omf_format.specs.Reading.{Reader, first_record, next_answer, after_next, HandsOut}
use Rattle.omf_format.specs.laws.Steps.{answer_of_reader, reader_after, place_of}
use Rattle.omf_format.specs.laws.FileLaws.{Answer, gave, same_found}
use Rattle.omf_format.specs.laws.BodyLaws.{found_by, none_at_end}
use Rattle.load_meaning.specs.Pathnames.{long_bytes}
use Rattle.lib_dict.specs.Parts.{DictionaryTexts, TakesLong, TakesLast, HasParts}

-- a record that was taken is the first of those that remained
record Took (new last : Reader) (at : ℕ) (bytes : List ℕ) (founds : List (ℕ × Record)) : Type 0 where
  record' : Record
  rest : List (ℕ × Record)
  are : founds ≡ (at, record') ∷ rest
  long : long_bytes record' ≡ Some bytes
  run : HandsOut new rest last

took : (r new last : Reader) (at : ℕ) (bytes : List ℕ) (founds : List (ℕ × Record)) → HandsOut r founds last → last.ended ≡ true → TakesLong r new (Some (at, bytes)) → Took new last at bytes founds
took r new last at bytes [] run ended t =
    let none : next_answer r ≡ Ok None = none_at_end r (ap (λ (m : Reader). m.ended) run ∙ ended) in
    let clash : gave (at, t.0) ≡ Ok None = sym t.1 ∙ none in
    absurd cc
took r new last at bytes (found ∷ founds) run ended t =
    let same : found ≡ (at, t.0) = same_found found (at, t.0) (sym run.0 ∙ t.1) in
    record {
      record' = t.0;
      rest = founds;
      are = ap (λ (f : ℕ × Record). f ∷ founds) same;
      long = t.2;
      run = subst (λ (m : Reader). HandsOut m founds last) (sym t.3) run.1;
    }

abbrev nothing : Answer
nothing = Ok None

abbrev tail_of : List (ℕ × Record) → List (ℕ × Record)
tail_of [] = []
tail_of (x ∷ xs) = xs

-- ---- the ends of the function that takes them

pub has_parts : (r r1 r2 r3 last : Reader) (at1 at2 at3 : ℕ) (first second third : List ℕ) (founds : List (ℕ × Record)) → HandsOut r founds last → last.ended ≡ true
    → TakesLong r r1 (Some (at1, first)) → TakesLong r1 r2 (Some (at2, second)) → TakesLong r2 r3 (Some (at3, third)) → TakesLast r3 true
    → HasParts (record { first = first; second = second; at = at2; third = third }) founds
has_parts r r1 r2 r3 last at1 at2 at3 first second third founds run ended one two three end =
    let t = took r r1 last at1 first founds run ended one in
    let u = took r1 r2 last at2 second t.rest t.run ended two in
    let v = took r2 r3 last at3 third u.rest u.run ended three in
    let fourth = last_one v.rest v.run in
    record {
      a = (at1, t.record');
      b = (at2, u.record');
      c = (at3, v.record');
      e = end.0;
      are =
          t.are ∙ ap (λ (l : List (ℕ × Record)). (at1, t.record') ∷ l) (u.are ∙ ap (λ (l : List (ℕ × Record)). (at2, u.record') ∷ l) (v.are ∙ ap (λ (l : List (ℕ × Record)). (at3, v.record') ∷ l) fourth));
      first = t.long;
      second = u.long;
      at = refl;
      third = v.long;
    }
  where
    none_left : (x : ℕ × Record) (rest : List (ℕ × Record)) → HandsOut (after_next r3) rest last → rest ≡ []
    none_left x [] h = refl
    none_left x (y ∷ rest) h = let clash : gave y ≡ Ok None = sym h.0 ∙ end.2 in absurd cc

    last_one : (rest : List (ℕ × Record)) → HandsOut r3 rest last → rest ≡ end.0 ∷ []
    last_one [] h =
        let none : next_answer r3 ≡ Ok None = none_at_end r3 (ap (λ (m : Reader). m.ended) h ∙ ended) in
        let clash : gave end.0 ≡ Ok None = sym end.1 ∙ none in
        absurd cc
    last_one (x ∷ rest) h =
        let same : x ≡ end.0 = same_found x end.0 (sym h.0 ∙ end.1) in
        ap (λ (f : ℕ × Record). f ∷ rest) same ∙ ap (λ (l : List (ℕ × Record)). end.0 ∷ l) (none_left x rest h.1)

pub none_last : (r r1 r2 r3 last : Reader) (at1 at2 at3 : ℕ) (first second third : List ℕ) (founds : List (ℕ × Record)) → HandsOut r founds last → last.ended ≡ true
    → TakesLong r r1 (Some (at1, first)) → TakesLong r1 r2 (Some (at2, second)) → TakesLong r2 r3 (Some (at3, third)) → TakesLast r3 false
    → (parts : DictionaryTexts) → HasParts parts founds → ⊥
none_last r r1 r2 r3 last at1 at2 at3 first second third founds run ended one two three not_end parts has =
    let t = took r r1 last at1 first founds run ended one in
    let rest : t.rest ≡ has.b ∷ has.c ∷ has.e ∷ [] = ap tail_of (sym t.are ∙ has.are) in
    let u = took r1 r2 last at2 second t.rest t.run ended two in
    let rest2 : u.rest ≡ has.c ∷ has.e ∷ [] = ap tail_of (sym u.are ∙ rest) in
    let v = took r2 r3 last at3 third u.rest u.run ended three in
    let rest3 : v.rest ≡ has.e ∷ [] = ap tail_of (sym v.are ∙ rest2) in
    let h : HandsOut r3 (has.e ∷ []) last = subst (λ (l : List (ℕ × Record)). HandsOut r3 l last) rest3 v.run in
    let over : next_answer (after_next r3) ≡ Ok None = none_at_end (after_next r3) (ap (λ (m : Reader). m.ended) h.1 ∙ ended) in
    not_end has.e h.0 over

-- ---- where the second record is

abbrev some_text : List ℕ → Option (List ℕ)
some_text x = Some x

text_same : (x y : List ℕ) → some_text x ≡ some_text y → x ≡ y
text_same x y e = cc

-- an LCONST has its code, its length and its bytes
long_size : (l : Layout) (r : Record) (bytes : List ℕ) → long_bytes r ≡ Some bytes → length (spelling l r) ≡ 5 + length bytes
unfolding spelling
long_size l (LongConst text) bytes is =
    let same = text_same text bytes is in
    omega (arith, ap length same, length-append (little_bytes 4 (length text)) text, length-bytes_low_first 0 4 (length text))
long_size l End bytes is = absurd cc
long_size l (Const text) bytes is = absurd cc
long_size l (Align n) bytes is = absurd cc
long_size l (Org n) bytes is = absurd cc
long_size l (Space n) bytes is = absurd cc
long_size l (Reloc count shift location offset) bytes is = absurd cc
long_size l (InterSeg count shift location file segment offset) bytes is = absurd cc
long_size l (ShortReloc count shift location offset) bytes is = absurd cc
long_size l (ShortInterSeg count shift location segment offset) bytes is = absurd cc
long_size l (Super form text) bytes is = absurd cc
long_size l (Using name) bytes is = absurd cc
long_size l (Strong name) bytes is = absurd cc
long_size l (Label global name size form private) bytes is = absurd cc
long_size l (Equate global name size form private expr) bytes is = absurd cc
long_size l (Formula code count n expr) bytes is = absurd cc
long_size l (Entry segment offset name) bytes is = absurd cc

reported_place : (r : Reader) (found : ℕ × Record) → next_answer r ≡ Ok (Some found) → found.0 ≡ place_of r
unfolding next_answer
reported_place r found e = by_end r.ended e
  where
    by_answer : (answer : Result (Record × List ℕ) Flaw) → answer_of_reader r answer ≡ Ok (Some found) → found.0 ≡ place_of r
    by_answer (Ok f) is = let same : (place_of r, f.0) ≡ found = same_found (place_of r, f.0) found is in sym (ap (λ (x : ℕ × Record). x.0) same)
    by_answer (Err flaw) is = absurd cc

    by_end : (b : Bool) → cond b nothing (answer_of_reader r (first_record r.layout r.left)) ≡ Ok (Some found) → found.0 ≡ place_of r
    by_end true is = absurd cc
    by_end false is = by_answer (first_record r.layout r.left) is

-- a step doesn't move the segment's end
same_end : (r : Reader) → (after_next r).end ≡ r.end
unfolding after_next
same_end r = by_end r.ended
  where
    by_answer : (answer : Result (Record × List ℕ) Flaw) → (reader_after r answer).end ≡ r.end
    by_answer (Ok f) = refl
    by_answer (Err flaw) = refl

    by_end : (b : Bool) → (cond b r (reader_after r (first_record r.layout r.left))).end ≡ r.end
    by_end true = refl
    by_end false = by_answer (first_record r.layout r.left)

-- a step takes the record's bytes
record Steps (r : Reader) (found : ℕ × Record) : Type 0 where
  size : length r.left ≡ length (spelling r.layout found.1) + length (after_next r).left
  bytes : IsBytes (after_next r).left

steps : (r : Reader) (found : ℕ × Record) → IsBytes r.left → next_answer r ≡ Ok (Some found) → Steps r found
steps r found fits e =
    let f = found_by r found e in
    let takes = front-takes r.layout r.left (found.1, f.rest) fits f.front' in
    record {
      size = omega (arith, ap length takes.taken.parts, length-append (spelling r.layout found.1) f.rest, ap length f.left);
      bytes = subst IsBytes (sym f.left) takes.taken.rest_fits;
    }

-- the second record ends in its segment, and so does the third
pub second_fits : (r last : Reader) (parts : DictionaryTexts) (founds : List (ℕ × Record)) → HasParts parts founds → HandsOut r founds last → IsBytes r.left → length r.left ≤ r.end
    → (parts.at + 5 + length parts.second ≤ r.end) × (length parts.third ≤ r.end)
second_fits r last parts founds has run fits within =
    let h : HandsOut r (has.a ∷ has.b ∷ has.c ∷ has.e ∷ []) last = subst (λ (l : List (ℕ × Record)). HandsOut r l last) has.are run in
    let r1 = after_next r in
    let r2 = after_next r1 in
    let one = steps r has.a fits h.0 in
    let two = steps r1 has.b one.bytes h.1.0 in
    let three = steps r2 has.c two.bytes h.1.1.0 in
    let size = long_size r1.layout has.b.1 parts.second has.second in
    let size3 = long_size r2.layout has.c.1 parts.third has.third in
    let place = reported_place r1 has.b h.1.0 in
    let end = same_end r in
    (omega (arith, one.size, two.size, size, place, end, has.at), omega (arith, one.size, two.size, three.size, size3))
