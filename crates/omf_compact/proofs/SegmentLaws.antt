-- Segments written one after another.
use Rattle.std.proofs.Common.{◌≡◌, ◌↔◌, ℕ, zero, suc, ◌+◌, ◌-◌, ◌<◌, ◌≤◌, List, [], ◌∷◌, ◌++◌, length, take, drop, replicate, Some, Result, Err, refl, sym, ap, subst, ◌∙◌, append_assoc, arith}
use Rattle.std.specs.Prelude.{slice_get}
use Rattle.std.proofs.Math.Seq.{take-append_seam, drop-append_seam}
use Rattle.std.proofs.lemmas.List.{length-append, length-replicate, append-nil}
use Rattle.std.proofs.lemmas.Grind.{flat_map-append}
use Rattle.omf_format.specs.Field.{written_layout}
use Rattle.omf_format.specs.Header.{HeaderFields, header_bytes}
use Rattle.omf_format.specs.laws.WrittenHeaderLaws.{length-header}
use Rattle.omf_format.specs.Record.{spelling}
use Rattle.omf_format.specs.File.{Segment, segment_at}
use Rattle.load_meaning.specs.Exports.{exports_of, exports_from}
use Rattle.object_meaning.specs.laws.RunLaws.{text}
use Rattle.omf_compact.specs.Canonical.{plain_of, plain, canon_fields, canon_segment, canon_from, canon}
use Rattle.omf_compact.specs.laws.Words.{canon_records}
use Rattle.omf_compact.specs.laws.Writing.{first_records, first_text, entries_text, AtExports}
use Rattle.omf_cells.specs.Load.{HasFields}
use Rattle.omf_header.specs.Written.{with_reserved_zeros}
use Rattle.omf_compact.specs.laws.AnswerLaws.{segment-length}
use Rattle.omf_compact.specs.laws.Writing.{IsKnown, HasSegment}
use Rattle.omf_compact.proofs.KnownLaws.{at_some, known_sound}

-- ---- the segment with a number, and its header

pub its_fields : (segments : List Segment) (number : ℕ) (f : HeaderFields) (s : Segment) → HasFields segments number f → segment_at segments number ≡ Some s → s.fields ≡ f
its_fields segments number f s has at = at_some (λ (t : Segment). t.fields ≡ f) segments number s at has

pub own_number : (segments : List Segment) (number : ℕ) (f : HeaderFields) → IsKnown segments → HasSegment segments number → HasFields segments number f → f.seg_num ≡ number
own_number segments number f known there has =
    sym (ap (λ (g : HeaderFields). g.seg_num) (its_fields segments number f there.0 has there.1)) ∙ (known_sound segments number there.0 known there.1).number'

pub at_own : (segments : List Segment) (own number : ℕ) (s : Segment) → own ≡ number → segment_at segments own ≡ Some s → segment_at segments number ≡ Some s
at_own segments own number s same at = subst (λ (n : ℕ). segment_at segments n ≡ Some s) same at

-- ---- one segment

-- its body without END
pub body_of : (number : ℕ) (s : Segment) → text (canon_records number (plain_of s)) ≡ (first_text number (plain_of s) ++ entries_text s) ++ 0 ∷ []
unfolding first_text first_records entries_text plain_of spelling
body_of number s = ap (λ (l : List ℕ). l ++ 0 ∷ []) (flat_map-append (spelling written_layout) (first_records number (plain_of s)) (plain_of s).entries)

-- its header's fields
pub fields_are : (number zeros : ℕ) (s : Segment) (f : HeaderFields) → s.fields ≡ f → f.seg_num ≡ number → zeros ≡ (canon_fields number (plain_of s)).res_spc → with_reserved_zeros f zeros ≡ canon_fields number (plain_of s)
unfolding canon_fields plain_of
fields_are number zeros s f is own space = subst (λ (g : HeaderFields). with_reserved_zeros g zeros ≡ canon_fields number (plain_of s)) is (ap (λ (n : ℕ). made n zeros) (ap (λ (g : HeaderFields). g.seg_num) is ∙ own) ∙ ap (λ (z : ℕ). made number z) space)
  where
    made : ℕ → ℕ → HeaderFields
    made n z = record s.fields { byte_count = 0; res_spc = z; lab_len = 0; version = 2; seg_num = n; disp_name = 0; disp_data = 0 }

pub segment_size : (number : ℕ) (s : Segment) → length s.fields.load_name ≡ 10 → length (canon_segment number (plain_of s)) ≡ 0x37 + length s.fields.name + (length (first_text number (plain_of s) ++ entries_text s) + 1)
unfolding plain_of
segment_size number s ten =
    omega (arith, segment-length number (plain_of s) ten, ap length (body_of number s), length-append (first_text number (plain_of s) ++ entries_text s) (0 ∷ []))

pub segment_text : (number : ℕ) (s : Segment) (front body : List ℕ) → body ≡ first_text number (plain_of s) ++ entries_text s → front ≡ header_bytes (canon_fields number (plain_of s)) (length body + 1)
    → front ++ (body ++ 0 ∷ []) ≡ canon_segment number (plain_of s)
unfolding canon_segment
segment_text number s front body b h =
    let p = plain_of s in
    let whole : body ++ 0 ∷ [] ≡ text (canon_records number p) = ap (λ (l : List ℕ). l ++ 0 ∷ []) b ∙ sym (body_of number s) in
    let size : length body + 1 ≡ length (text (canon_records number p)) = sym (length-append body (0 ∷ [])) ∙ ap length whole in
    ap (λ (l : List ℕ). l ++ (body ++ 0 ∷ [])) (h ∙ ap (header_bytes (canon_fields number p)) size)
    ∙ ap (λ (l : List ℕ). header_bytes (canon_fields number p) (length (text (canon_records number p))) ++ l) whole

-- ---- a header is written into the room before a body

pub after_size : (old body whole : List ℕ) (n : ℕ) → whole ≡ (old ++ replicate n 0) ++ body → length whole ≡ length old + n + length body
after_size old body whole n is = omega (arith, ap length is, length-append (old ++ replicate n 0) body, length-append old (replicate n 0), length-replicate {A = ℕ} n 0)

pub closed : (old front body mid new : List ℕ) (start n : ℕ) → start ≡ length old → mid ≡ (old ++ replicate n 0) ++ body → length front ≡ n
    → new ≡ take start mid ++ front ++ drop (start + length front) mid ++ 0 ∷ [] → new ≡ old ++ (front ++ (body ++ 0 ∷ []))
closed old front body mid new start n here is size new_is =
    let first : take start mid ≡ old =
    ap (take start) (is ∙ append_assoc old (replicate n 0) body) ∙ ap (λ (k : ℕ). take k (old ++ (replicate n 0 ++ body))) here ∙ take-append_seam old (replicate n 0 ++ body) in
    let room : length (old ++ replicate n 0) ≡ start + length front = omega (arith, here, size, length-append old (replicate n 0), length-replicate {A = ℕ} n 0) in
    let last : drop (start + length front) mid ≡ body =
    ap (drop (start + length front)) is ∙ ap (λ (k : ℕ). drop k ((old ++ replicate n 0) ++ body)) (sym room) ∙ drop-append_seam (old ++ replicate n 0) body in
    new_is
    ∙ ap (λ (l : List ℕ). l ++ front ++ drop (start + length front) mid ++ 0 ∷ []) first
    ∙ ap (λ (l : List ℕ). old ++ front ++ l ++ 0 ∷ []) last
    ∙ append_assoc (old ++ front) body (0 ∷ [])
    ∙ append_assoc old front (body ++ 0 ∷ [])

-- what follows the header
pub body_there : (out r1 r2 r3 : List ℕ) (room own number : ℕ) (s : Segment) → own ≡ number → r1 ≡ out ++ replicate room 0 → r2 ≡ r1 ++ first_text own (plain_of s) → r3 ≡ r2 ++ entries_text s
    → r3 ≡ (out ++ replicate room 0) ++ (first_text number (plain_of s) ++ entries_text s)
body_there out r1 r2 r3 room own number s same a b d =
    d ∙ ap (λ (l : List ℕ). l ++ entries_text s) (b ∙ ap (λ (l : List ℕ). l ++ first_text own (plain_of s)) a ∙ ap (λ (n : ℕ). (out ++ replicate room 0) ++ first_text n (plain_of s)) same)
    ∙ append_assoc (out ++ replicate room 0) (first_text number (plain_of s)) (entries_text s)

abbrev failed : {A E : Type 0} → E → Result A E
failed e = Err e

pub err_moved : {A B E : Type 0} → (a b : E) → failed {A = A} a ≡ failed b → failed {A = B} a ≡ failed b
err_moved a b e = let same : a ≡ b = cc in ap failed same

-- it is too long as the header is
pub made_long : {A B D E : Type 0} → (given own : D) (made long : E) → ((made ≡ long) ↔ (given ≡ own)) → failed {A = A} made ≡ failed long → failed {A = B} given ≡ failed own
made_long given own made long is e = let same : made ≡ long = cc in ap failed (is.0 same)

-- how long the segment is
pub long_by : (number n out size : ℕ) (s : Segment) (f : HeaderFields) (body : List ℕ) → s.fields ≡ f → length f.load_name ≡ 10 → body ≡ first_text number (plain_of s) ++ entries_text s → size ≡ length body
    → n < 0x37 + length f.name + (size + 1) → n < out + length (canon_segment number (plain_of s))
long_by number n out size s f body is ten body_is same long =
    let name : length s.fields.name ≡ length f.name = ap (λ (g : HeaderFields). length g.name) is in
    omega (arith, long, segment_size number s (ap (λ (g : HeaderFields). length g.load_name) is ∙ ten), name, same, ap length body_is)

pub long_all : (number n room : ℕ) (out r3 body : List ℕ) (s : Segment) (f : HeaderFields) → s.fields ≡ f → length f.load_name ≡ 10 → body ≡ first_text number (plain_of s) ++ entries_text s → room ≡ 0x37 + length f.name
    → length r3 ≡ length out + room + length body → n < length r3 + 1 → n < length out + length (canon_segment number (plain_of s))
long_all number n room out r3 body s f is ten body_is head size long =
    let name : length s.fields.name ≡ length f.name = ap (λ (g : HeaderFields). length g.name) is in
    omega (arith, long, segment_size number s (ap (λ (g : HeaderFields). length g.load_name) is ∙ ten), name, size, head, ap length body_is)

-- the whole segment
pub segment_done : (number zeros size start room : ℕ) (s : Segment) (f : HeaderFields) (out r3 front new : List ℕ) → s.fields ≡ f → f.seg_num ≡ number → zeros ≡ (canon_fields number (plain_of s)).res_spc
    → length f.load_name ≡ 10 → room ≡ 0x37 + length f.name → start ≡ length out → r3 ≡ (out ++ replicate room 0) ++ (first_text number (plain_of s) ++ entries_text s) → size ≡ length r3 - start - room
    → front ≡ header_bytes (with_reserved_zeros f zeros) (size + 1) → new ≡ take start r3 ++ front ++ drop (start + length front) r3 ++ 0 ∷ [] → new ≡ out ++ canon_segment number (plain_of s)
segment_done number zeros size start room s f out r3 front new is own space ten head here mid left top done =
    let body = first_text number (plain_of s) ++ entries_text s in
    let sizes = after_size out body r3 room mid in
    let long : size ≡ length body = omega (arith, left, here, sizes) in
    let g = fields_are number zeros s f is own space in
    let top' : front ≡ header_bytes (canon_fields number (plain_of s)) (length body + 1) = top ∙ ap (λ (h : HeaderFields). header_bytes h (size + 1)) g ∙ ap (λ (n : ℕ). header_bytes (canon_fields number (plain_of s)) (n + 1)) long in
    let front_size : length front ≡ room = omega (arith, ap length top, length-header (with_reserved_zeros f zeros) (size + 1) ten, head) in
    closed out front body r3 new start room here mid front_size done ∙ ap (λ (l : List ℕ). out ++ l) (segment_text number s front body refl top')

-- ---- all of them

drop_next : {A : Type 0} (xs : List A) (i : ℕ) (x : A) → slice_get xs i ≡ Some x → drop i xs ≡ x ∷ drop (i + 1) xs
drop_next [] i x e = absurd cc
drop_next {A} (y ∷ xs) zero x e = let same : y ≡ x = cc in ap (λ (z : A). z ∷ xs) same
drop_next (y ∷ xs) (suc i) x e = let step : suc i + 1 ≡ suc (i + 1) = omega arith in rw step (drop_next xs i x e)

drop_all : {A : Type 0} (xs : List A) (i : ℕ) → length xs ≤ i → drop i xs ≡ []
drop_all [] zero le = refl
drop_all [] (suc i) le = refl
drop_all (x ∷ xs) zero le = absurd (omega arith)
drop_all (x ∷ xs) (suc i) le = drop_all xs i (omega arith)

pub segment_there : (segments : List Segment) (i : ℕ) → i < length segments → (s : Segment) × (segment_at segments (i + 1) ≡ Some s)
segment_there segments i lt = let step : suc i ≡ i + 1 = omega arith in let found = there segments i lt in (found.0, subst (λ (n : ℕ). segment_at segments n ≡ Some found.0) step found.1)
  where
    there : (xs : List Segment) (k : ℕ) → k < length xs → (s : Segment) × (slice_get xs k ≡ Some s)
    there [] k lt' = absurd (omega arith)
    there (x ∷ xs) zero lt' = (x, refl)
    there (x ∷ xs) (suc k) lt' = there xs k (omega arith)

pub place_of : (segments : List Segment) (i : ℕ) (s : Segment) → segment_at segments (i + 1) ≡ Some s → slice_get segments i ≡ Some s
place_of segments i s at = let step : i + 1 ≡ suc i = omega arith in subst (λ (n : ℕ). segment_at segments n ≡ Some s) step at

-- with those that are left they are all
pub record Written (segments : List Segment) (i place : ℕ) (out : List ℕ) : Type 0 where
  pub whole : out ++ canon_from (i + 1) (plain (drop i segments)) ≡ canon (plain segments)
  pub exports : AtExports segments (i + 1) place
  pub short : length out ≤ 0x1000000

pub written_none : (segments : List Segment) (out : List ℕ) → out ≡ [] → Written segments 0 0 out
unfolding canon exports_of
written_none segments out none =
    let step : 0 + 1 ≡ 1 = omega arith in
    let first : 0 + 1 - 1 ≡ 0 = omega arith in
    record {
      whole = ap (λ (l : List ℕ). l ++ canon_from (0 + 1) (plain (drop 0 segments))) none ∙ ap (λ (n : ℕ). canon_from n (plain segments)) step;
      exports = ap (λ (n : ℕ). exports_from n segments) (sym step) ∙ ap (λ (n : ℕ). exports_from (0 + 1) (drop n segments)) (sym first);
      short = omega (arith, ap length none);
    }

pub parts_of : (segments : List Segment) (i : ℕ) (s : Segment) → segment_at segments (i + 1) ≡ Some s → canon_from (i + 1) (plain (drop i segments)) ≡ canon_segment (i + 1) (plain_of s) ++ canon_from (i + 1 + 1) (plain (drop (i + 1) segments))
parts_of segments i s at = ap (λ (l : List Segment). canon_from (i + 1) (plain l)) (drop_next segments i s (place_of segments i s at))

pub written_more : (segments : List Segment) (i place next : ℕ) (out new : List ℕ) (s : Segment) → Written segments i place out → segment_at segments (i + 1) ≡ Some s → new ≡ out ++ canon_segment (i + 1) (plain_of s)
    → AtExports segments (i + 1 + 1) next → length new ≤ 0x1000000 → Written segments (i + 1) next new
written_more segments i place next out new s so_far at put exports short = record {
  whole =
      ap (λ (l : List ℕ). l ++ canon_from (i + 1 + 1) (plain (drop (i + 1) segments))) put
      ∙ append_assoc out (canon_segment (i + 1) (plain_of s)) (canon_from (i + 1 + 1) (plain (drop (i + 1) segments)))
      ∙ ap (λ (l : List ℕ). out ++ l) (sym (parts_of segments i s at)) ∙ so_far.whole;
  exports = exports;
  short = short;
}

pub written_long : (segments : List Segment) (i place : ℕ) (out : List ℕ) (s : Segment) → Written segments i place out → segment_at segments (i + 1) ≡ Some s → 0x1000000 < length out + length (canon_segment (i + 1) (plain_of s))
    → 0x1000000 < length (canon (plain segments))
written_long segments i place out s so_far at long =
    omega (
      arith,
      long,
      ap length so_far.whole,
      length-append out (canon_from (i + 1) (plain (drop i segments))),
      ap length (parts_of segments i s at),
      length-append (canon_segment (i + 1) (plain_of s)) (canon_from (i + 1 + 1) (plain (drop (i + 1) segments))),
    )

pub written_all : (segments : List Segment) (i place : ℕ) (out : List ℕ) → Written segments i place out → length segments ≤ i → out ≡ canon (plain segments)
written_all segments i place out so_far all =
    sym (append-nil out) ∙ ap (λ (l : List Segment). out ++ canon_from (i + 1) (plain l)) (sym (drop_all segments i all)) ∙ so_far.whole
