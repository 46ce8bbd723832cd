-- The laws of source lines.
use Rattle.std.proofs.Common.{◌≡◌, ℕ, zero, suc, ◌+◌, ◌-◌, ◌<◌, ◌≤◌, Bool, true, false, cond, List, [], ◌∷◌, ◌++◌, length, take, drop, Option, None, refl, sym, ap, ◌∙◌, arith, is_none}
use Rattle.std.specs.Prelude.{◌&&◌, slice_index, ◌==◌, not}
use Rattle.std.specs.List.{AllByRecursion, prefix_len, position_or_len}
use Rattle.std.proofs.lemmas.List.{length-drop, take-append-drop, drop-drop}
use Rattle.std.proofs.lemmas.List.Sums.{prefix_len-le-length}
use Rattle.orca_meaning.specs.declared.forms.OperandUse.{OperandUse}
use Rattle.orca_meaning.specs.declared.forms.OperandUse.TheVariants.{Never, Accumulator, Signature, Always}
use Rattle.orca_meaning.specs.declared.lines.Span.{Span}
use Rattle.orca_meaning.specs.Characters.{is_blank}
use Rattle.orca_meaning.specs.Quotes.{outside_from, quote_following, quote_after}
use Rattle.orca_meaning.specs.Line.{is_comment, next_blank, next_ink, three_fields, operand_span, fields_of, part, LiesIn, HaveFields, AreParted}
use Rattle.orca_meaning.specs.laws.Steps.{is_ink, next_outside, statement_fields, no_fields}

-- ---- the fields lie in the line

pub outside_from-le : (test : ℕ → Bool) (quote : Option ℕ) (text : List ℕ) → outside_from test quote text ≤ length text
unfolding outside_from
outside_from-le test quote [] = omega arith
outside_from-le test quote (byte ∷ following) = by_test (is_none quote && test byte) (outside_from-le test (quote_following quote byte) following)
  where
    by_test : (b : Bool) → outside_from test (quote_following quote byte) following ≤ length following
        → cond b 0 (outside_from test (quote_following quote byte) following + 1) ≤ length (byte ∷ following)
    by_test true le = omega arith
    by_test false le = omega arith

place-le : (p : ℕ → Bool) (text : List ℕ) (at : ℕ) → at ≤ length text → at + position_or_len p (drop at text) ≤ length text
place-le p text at le = omega (arith, prefix_len-le-length (λ x. not (p x)) (drop at text), length-drop at text)

outside-le : (text : List ℕ) (at : ℕ) → at ≤ length text → next_outside text at ≤ length text
outside-le text at le = omega (arith, outside_from-le is_blank None (drop at text), length-drop at text)

three_lie : (text : List ℕ) → HaveFields text (three_fields text)
unfolding three_fields
three_lie text =
    let label_end = next_blank text 0 in
    let operation = next_ink text label_end in
    let operation_end = next_blank text operation in
    let operand = next_ink text operation_end in
    let a : label_end ≤ length text = place-le is_blank text 0 (omega arith) in
    let b : operation ≤ length text = place-le is_ink text label_end a in
    let c : operation_end ≤ length text = place-le is_blank text operation b in
    let d : operand ≤ length text = place-le is_ink text operation_end c in
    let e : next_outside text operand ≤ length text = outside-le text operand d in
    record { label = (omega arith, a); operation = (omega arith, c); operand = (omega arith, e) }

cut_lies : (b : Bool) (text : List ℕ) (third : Span) → LiesIn text third → LiesIn text (cond b (record { from = third.from; to = third.from }) third)
cut_lies true text third lies = (omega arith, omega (arith, lies))
cut_lies false text third lies = lies

operand_lies : (operand_use : OperandUse) (text : List ℕ) (third : Span) → LiesIn text third → LiesIn text (operand_span operand_use text third)
operand_lies Never text third lies = (omega arith, omega (arith, lies))
operand_lies Accumulator text third lies = cut_lies (slice_index text third.from == 0x3B) text third lies
operand_lies Signature text third lies = cut_lies (slice_index text third.from == 0x3B) text third lies
operand_lies Always text third lies = lies

pub have_fields : (text : List ℕ) → HaveFields text (fields_of text)
unfolding fields_of
have_fields text = by_comment (is_comment text)
  where
    by_comment : (b : Bool) → HaveFields text (cond b no_fields (statement_fields text (three_fields text)))
    by_comment true = record { label = (omega arith, omega arith); operation = (omega arith, omega arith); operand = (omega arith, omega arith) }
    by_comment false =
        let three = three_lie text in
        record { label = three.label; operation = three.operation; operand = operand_lies _ text _ three.operand }

-- ---- blanks separate them

abbrev AllPassing : (ℕ → Bool) → List ℕ → Type 0
AllPassing p text = AllByRecursion (λ byte. p byte ≡ true) text

front_passes : (p : ℕ → Bool) (text : List ℕ) → AllPassing p (take (prefix_len p text) text)
front_passes p [] = tt
front_passes p (byte ∷ following) = by_test (p byte) refl (front_passes p following)
  where
    by_test : (b : Bool) → p byte ≡ b → AllPassing p (take (prefix_len p following) following) → AllPassing p (take (cond b (1 + prefix_len p following) 0) (byte ∷ following))
    by_test true is others = let next : 1 + prefix_len p following ≡ suc (prefix_len p following) = omega arith in rw next (is, others)
    by_test false is others = tt

not_not : (b : Bool) → not (not b) ≡ true → b ≡ true
not_not true e = refl
not_not false e = absurd cc

is_false : (b : Bool) → not b ≡ true → b ≡ false
is_false true e = absurd cc
is_false false e = refl

all_blank : (text : List ℕ) → AllPassing (λ byte. not (is_ink byte)) text → AllByRecursion (λ byte. is_blank byte ≡ true) text
all_blank [] all = tt
all_blank (byte ∷ following) all = (not_not (is_blank byte) all.0, all_blank following all.1)

all_ink : (text : List ℕ) → AllPassing (λ byte. not (is_blank byte)) text → AllByRecursion (λ byte. is_blank byte ≡ false) text
all_ink [] all = tt
all_ink (byte ∷ following) all = (is_false (is_blank byte) all.0, all_ink following all.1)

-- the bytes from a place on are those up to another and those from there on
from_on : (text : List ℕ) (at n : ℕ) → drop at text ≡ take n (drop at text) ++ drop (at + n) text
from_on text at n = sym (take-append-drop n (drop at text)) ∙ ap (λ (l : List ℕ). take n (drop at text) ++ l) (drop-drop n at text)

span_part : (text : List ℕ) (at n : ℕ) → part text (record { from = at; to = at + n }) ≡ take n (drop at text)
span_part text at n = let size : at + n - at ≡ n = omega arith in ap (λ (k : ℕ). take k (drop at text)) size

pub are_parted : (text : List ℕ) → AreParted text (three_fields text)
unfolding three_fields
are_parted text =
    let a = position_or_len is_blank (drop 0 text) in
    let label_end = 0 + a in
    let b = position_or_len is_ink (drop label_end text) in
    let operation = label_end + b in
    let c = position_or_len is_blank (drop operation text) in
    let operation_end = operation + c in
    let d = position_or_len is_ink (drop operation_end text) in
    let operand = operation_end + d in
    let e = outside_from is_blank None (drop operand text) in
    record {
      before = take b (drop label_end text);
      between = take d (drop operation_end text);
      following = drop (operand + e) text;
      whole = from_on text 0 a ∙ ap (λ (l : List ℕ). take a (drop 0 text) ++ l) (from_on text label_end b
          ∙ ap (λ (l : List ℕ). take b (drop label_end text) ++ l) (from_on text operation c
          ∙ ap (λ (l : List ℕ). take c (drop operation text) ++ l) (from_on text operation_end d
          ∙ ap (λ (l : List ℕ). take d (drop operation_end text) ++ l) (from_on text operand e))))
          ∙ simp (sym (span_part text 0 a), sym (span_part text operation c), sym (span_part text operand e));
      label = rw (span_part text 0 a) (all_ink (take a (drop 0 text)) (front_passes (λ byte. not (is_blank byte)) (drop 0 text)));
      first_blanks = all_blank (take b (drop label_end text)) (front_passes (λ byte. not (is_ink byte)) (drop label_end text));
      operation = rw (span_part text operation c) (all_ink (take c (drop operation text)) (front_passes (λ byte. not (is_blank byte)) (drop operation text)));
      next_blanks = all_blank (take d (drop operation_end text)) (front_passes (λ byte. not (is_ink byte)) (drop operation_end text));
    }

-- ---- a byte outside quotes

pub outside_is_first : (test : ℕ → Bool) (quote : Option ℕ) (text : List ℕ) (k : ℕ) → k < length text
    → (k < outside_from test quote text → (is_none (quote_after quote (take k text)) && test (slice_index text k)) ≡ false)
    × (k ≡ outside_from test quote text → (is_none (quote_after quote (take k text)) && test (slice_index text k)) ≡ true)
unfolding outside_from
outside_is_first test quote [] k less = absurd (omega arith)
outside_is_first test quote (byte ∷ following) k less = by_test (is_none quote && test byte) refl k less (λ i less. outside_is_first test (quote_following quote byte) following i less)
  where
    by_test : (b : Bool) → (is_none quote && test byte) ≡ b → (k : ℕ) → k < length (byte ∷ following)
        → ((i : ℕ) → i < length following → (i < outside_from test (quote_following quote byte) following → (is_none (quote_after (quote_following quote byte) (take i following)) && test (slice_index following i)) ≡ false)
        × (i ≡ outside_from test (quote_following quote byte) following → (is_none (quote_after (quote_following quote byte) (take i following)) && test (slice_index following i)) ≡ true))
        → (k < cond b 0 (outside_from test (quote_following quote byte) following + 1) → (is_none (quote_after quote (take k (byte ∷ following))) && test (slice_index (byte ∷ following) k)) ≡ false)
        × (k ≡ cond b 0 (outside_from test (quote_following quote byte) following + 1) → (is_none (quote_after quote (take k (byte ∷ following))) && test (slice_index (byte ∷ following) k)) ≡ true)
    by_test true is zero less others = (λ none. absurd (omega arith), λ same. is)
    by_test true is (suc i) less others = (λ none. absurd (omega arith), λ same. absurd (omega arith))
    by_test false is zero less others = (λ some. is, λ same. absurd (omega arith))
    by_test false is (suc i) less others = let here = others i (omega arith) in (λ before. here.0 (omega arith), λ same. here.1 (omega arith))
