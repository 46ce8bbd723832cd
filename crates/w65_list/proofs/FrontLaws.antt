-- Which headers can be listed, and how many cells records give.
use Rattle.std.proofs.Common.{◌≡◌, inl, inr, ℕ, ◌+◌, ◌-◌, ◌≤◌, ◌<◌, Bool, true, false, cond, eqb, leb, ltb, List, [], ◌∷◌, ◌++◌, length, Some, None, Ok, refl, sym, ap, subst, ◌∙◌, arith, append_assoc, append-nil}
use Rattle.std.specs.Prelude.{not, ◌&&◌, ◌||◌}
use Rattle.std.specs.List.{position_or_len}
use Rattle.std.proofs.lemmas.List.Sums.{prefix_len-le-length}
use Rattle.std.proofs.lemmas.Bool.{eqb-true, eq-eqb, ne_eqb, le-leb, ltb-false}
use Rattle.omf_format.specs.Record.{Record}
use Rattle.omf_format.specs.Reading.{Reader, next_answer, after_next, records_of, IsBody}
use Rattle.omf_format.specs.File.{Segment}
use Rattle.w65_list.proofs.RecordRuns.{rest_of}
use Rattle.omf_records.specs.WalkLaws.{walk_on, walk_ends}
use Rattle.object_meaning.specs.Sizes.{size_at, records_with_offsets, place_after, body_size}
use Rattle.list_meaning.specs.Listing.{is_lost}
use Rattle.list_meaning.specs.laws.Steps.{greatest_length, has_lost_place}
use Rattle.w65_list.specs.FrontView.{has_listable_length, is_lost_from, HaveCells, AreOver, Counted}

-- ---- a number as a place

pub some_place : (n size at : ℕ) → Some at ≡ cond (ltb n size) (Some n) None → at ≡ n
some_place n size at e = by (ltb n size) e
  where
    by : (b : Bool) → Some at ≡ cond b (Some n) None → at ≡ n
    by true e = cc
    by false e = absurd cc

pub none_place : (test : ℕ → Bool) (text : List ℕ) → None ≡ cond (ltb (position_or_len test text) (length text)) (Some (position_or_len test text)) None → length text ≡ position_or_len test text
none_place test text e = by (ltb (position_or_len test text) (length text)) refl e
  where
    by : (b : Bool) → ltb (position_or_len test text) (length text) ≡ b → None ≡ cond b (Some (position_or_len test text)) None → length text ≡ position_or_len test text
    by true p e = absurd cc
    by false p e = omega (arith, ltb-false (position_or_len test text) (length text) p, prefix_len-le-length (λ (x : ℕ). not (test x)) text)

-- ---- cells

lost_on : (most place : ℕ) (before : List (ℕ × Record)) (found : ℕ × Record) → is_lost place found.1 ≡ false → ((rest : List (ℕ × Record)) → is_lost_from 0 (before ++ rest) ≡ is_lost_from place rest)
    → (rest : List (ℕ × Record)) → is_lost_from 0 ((before ++ found ∷ []) ++ rest) ≡ is_lost_from (place + size_at place found.1) rest
lost_on most place before found not so_far rest =
    ap (is_lost_from 0) (append_assoc before (found ∷ []) rest) ∙ so_far (found ∷ rest) ∙ ap (λ (b : Bool). b || is_lost_from (place + size_at place found.1) rest) not

size_on : (place : ℕ) (before : List (ℕ × Record)) (found : ℕ × Record) → ((rest : List (ℕ × Record)) → place_after 0 (before ++ rest) ≡ place_after place rest)
    → (rest : List (ℕ × Record)) → place_after 0 ((before ++ found ∷ []) ++ rest) ≡ place_after (place + size_at place found.1) rest
size_on place before found so_far rest = ap (place_after 0) (append_assoc before (found ∷ []) rest) ∙ so_far (found ∷ rest)

pub counted_on : (start at next : Reader) (most place following : ℕ) (found : ℕ × Record) → Counted start at most place → next_answer at ≡ Ok (Some found) → next ≡ after_next at
    → is_lost place found.1 ≡ false → following ≡ place + size_at place found.1 → following ≤ most → Counted start next most following
counted_on start at next most place following found counted e after not is few = subst (Counted start next most) (sym is) (record {
  before = counted.before ++ found ∷ [];
  run = walk_on start at next counted.before found counted.run e after;
  lost = lost_on most place counted.before found not counted.lost;
  size = size_on place counted.before found counted.size;
  few = omega (arith, is, few);
})

pub counted_end : (start at : Reader) (most place : ℕ) → IsBody start → Counted start at most place → next_answer at ≡ Ok None → HaveCells place (records_of start)
counted_end start at most place body counted e =
    let all : counted.before ≡ records_of start = walk_ends start at body.last counted.before (records_of start) counted.run e body.run body.ended in
    record {
      lost = ap (is_lost_from 0) (sym all ∙ sym (append-nil counted.before)) ∙ counted.lost [];
      size = ap (place_after 0) (sym all ∙ sym (append-nil counted.before)) ∙ counted.size [];
    }

grows : (place : ℕ) (founds : List (ℕ × Record)) → place ≤ place_after place founds
grows place [] = omega arith
grows place (found ∷ founds) = omega (arith, grows (place + size_at place found.1) founds)

pub counted_lost : (start at : Reader) (most place : ℕ) (found : ℕ × Record) → IsBody start → Counted start at most place → next_answer at ≡ Ok (Some found) → is_lost place found.1 ≡ true → AreOver most (records_of start)
counted_lost start at most place found body counted e lost =
    let rest = rest_of start counted.before (records_of start) at body.last found counted.run body.run body.ended e in
    inl (ap (is_lost_from 0) rest.whole ∙ counted.lost (found ∷ rest.following) ∙ ap (λ (b : Bool). b || is_lost_from (place + size_at place found.1) rest.following) lost)

pub counted_over : (start at : Reader) (most place following : ℕ) (found : ℕ × Record) → IsBody start → Counted start at most place → next_answer at ≡ Ok (Some found) → following ≡ place + size_at place found.1 → most < following
    → AreOver most (records_of start)
counted_over start at most place following found body counted e is over =
    let rest = rest_of start counted.before (records_of start) at body.last found counted.run body.run body.ended e in
    let size : place_after 0 (records_of start) ≡ place_after (place + size_at place found.1) rest.following = ap (place_after 0) rest.whole ∙ counted.size (found ∷ rest.following) in
    inr (omega (arith, size, is, over, grows (place + size_at place found.1) rest.following))

-- ---- LENGTH

lost_is : (s : Segment) → has_lost_place s ≡ is_lost_from 0 s.records
unfolding records_with_offsets
lost_is s = refl

size_is : (s : Segment) → body_size s ≡ place_after 0 s.records
unfolding body_size
size_is s = refl

length_by : (s : Segment) (lost : Bool) (size : ℕ) → has_lost_place s ≡ lost → body_size s ≡ size → has_listable_length s ≡ ((not lost && eqb s.fields.length (size + s.fields.res_spc)) && leb s.fields.length (greatest_length s.fields.bank_size))
length_by s lost size p q =
    ap (λ (b : Bool). (not b && eqb s.fields.length (body_size s + s.fields.res_spc)) && leb s.fields.length (greatest_length s.fields.bank_size)) p
    ∙ ap (λ (n : ℕ). (not lost && eqb s.fields.length (n + s.fields.res_spc)) && leb s.fields.length (greatest_length s.fields.bank_size)) q

and_false : (x : Bool) → (x && false) ≡ false
and_false true = refl
and_false false = refl

other_length : (s : Segment) → (s.fields.length ≡ body_size s + s.fields.res_spc → ⊥) → has_listable_length s ≡ false
other_length s other =
    ap (λ (b : Bool). (not (has_lost_place s) && b) && leb s.fields.length (greatest_length s.fields.bank_size)) (ne_eqb s.fields.length (body_size s + s.fields.res_spc) other)
    ∙ ap (λ (b : Bool). b && leb s.fields.length (greatest_length s.fields.bank_size)) (and_false (not (has_lost_place s)))

pub length_over : (s : Segment) (most : ℕ) → most ≡ s.fields.length - s.fields.res_spc → s.fields.res_spc ≤ s.fields.length → AreOver most s.records → has_listable_length s ≡ false
length_over s most is less (inl lost) = length_by s true (body_size s) (lost_is s ∙ lost) refl
length_over s most is less (inr over) = other_length s (λ e. omega (arith, e, is, less, over, size_is s))

pub length_found : (s : Segment) (most found : ℕ) → most ≡ s.fields.length - s.fields.res_spc → s.fields.res_spc ≤ s.fields.length → s.fields.length ≤ greatest_length s.fields.bank_size → HaveCells found s.records
    → eqb found most ≡ has_listable_length s
length_found s most found is less few have =
    by (eqb found most) refl ∙ sym (length_by s false found (lost_is s ∙ have.lost) (size_is s ∙ have.size) ∙ ap (λ (b : Bool). eqb s.fields.length (found + s.fields.res_spc) && b) (le-leb s.fields.length (greatest_length s.fields.bank_size) few))
  where
    by : (b : Bool) → eqb found most ≡ b → b ≡ (eqb s.fields.length (found + s.fields.res_spc) && true)
    by true e = sym (ap (λ (b : Bool). b && true) (eq-eqb s.fields.length (found + s.fields.res_spc) (omega (arith, eqb-true found most e, is, less))))
    by false e = sym (ap (λ (b : Bool). b && true) (ne_eqb s.fields.length (found + s.fields.res_spc) (λ same. no_clash (eq-eqb found most (omega (arith, same, is, less))) e)))
      where
        no_clash : {x : Bool} → x ≡ true → x ≡ false → ⊥
        no_clash p q = let clash : true ≡ false = sym p ∙ q in cc

-- ---- the header
