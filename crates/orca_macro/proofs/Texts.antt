-- Joined texts are no longer than what they are read from, and parts of texts.
use Rattle.std.proofs.Common.{◌≡◌, ◌≤◌, ◌<◌, ℕ, zero, suc, ◌+◌, ◌-◌, Bool, true, false, cond, ltb, eqb, ℤ, pos, negsuc, ◌≤ℤ◌, ◌<ℤ◌, List, [], ◌∷◌, ◌++◌, length, take, drop, Option, Some, None, refl, ap, arith, length-append}
use Rattle.std.proofs.lemmas.List.{length-take-le}
use Rattle.std.proofs.lemmas.Bool.{ltb-true}
use Rattle.std.proofs.lemmas.Int.{ints}
use Rattle.std.specs.List.{position_or_len}
use Rattle.std.specs.Prelude.{Ok, Err, ◌||◌, unsigned_abs}
use Rattle.orca_meaning.specs.Quotes.{quote_following}
use Rattle.macro_meaning.specs.declared.faults.MacroCause.TheVariants.{BadSetting}
use Rattle.macro_meaning.specs.Effect.{middle_from}
use Rattle.macro_meaning.specs.Pieces.{pieces_from, pieces, parts, open_after, closed_at, quoted_at, unquoted_text, joined_texts}
use Rattle.macro_meaning.specs.Statements.{whole_match}
use Rattle.macro_meaning.specs.laws.Steps.{with_byte, appended_texts}

-- how many bytes pieces have
total : List (List ℕ) → ℕ
total [] = 0
total (piece ∷ pieces) = length piece + total pieces

total-with_byte : (byte : ℕ) (ps : List (List ℕ)) → total (with_byte byte ps) ≤ total ps + 1
unfolding total
total-with_byte byte [] = omega arith
total-with_byte byte (p ∷ ps) = omega arith

total-pieces : (separator : ℕ) (quote : Option ℕ) (count : ℕ) (text : List ℕ) → total (pieces_from separator quote count text) ≤ length text
unfolding total pieces_from
total-pieces separator quote count [] = omega arith
total-pieces separator quote count (byte ∷ following) =
    by_test (parts separator quote count byte) (total-pieces separator None 0 following) (total-pieces separator (quote_following quote byte) (open_after quote count byte) following)
  where
    by_test : (b : Bool) → total (pieces_from separator None 0 following) ≤ length following → total (pieces_from separator (quote_following quote byte) (open_after quote count byte) following) ≤ length following
        → total (cond b ([] ∷ pieces_from separator None 0 following) (with_byte byte (pieces_from separator (quote_following quote byte) (open_after quote count byte) following))) ≤ length (byte ∷ following)
    by_test true p q = omega arith
    by_test false p q = omega (arith, q, total-with_byte byte (pieces_from separator (quote_following quote byte) (open_after quote count byte) following))

closed_short : (quote : ℕ) (following : List ℕ) (a b : List ℕ) → closed_at quote following ≡ Some (a, b) → length a ≤ length following
unfolding closed_at
closed_short quote following a b is = by_test (position_or_len (λ (byte : ℕ). eqb byte quote) following) (ltb (position_or_len (λ (byte : ℕ). eqb byte quote) following) (length following)) refl is
  where
    by_test : (n : ℕ) (t : Bool) → ltb n (length following) ≡ t → cond {A = Option (List ℕ × List ℕ)} t (Some (take n following, drop (n + 1) following)) None ≡ Some (a, b) → length a ≤ length following
    by_test n true within is =
        let same : take n following ≡ a = first_of (take n following) a (drop (n + 1) following) b is in
        let most : n < length following = ltb-true n (length following) within in
        omega (arith, most, ap length same, length-take-le n following (omega (arith, most)))
      where
        first_of : (x y p q : List ℕ) → ◌≡◌ {A = Option (List ℕ × List ℕ)} (Some (x, p)) (Some (y, q)) → x ≡ y
        first_of x y p q e = ap (λ (r : List ℕ × List ℕ). r.0) (inner (x, p) (y, q) e)
          where
            inner : (r s : List ℕ × List ℕ) → Some r ≡ Some s → r ≡ s
            inner r s e = cc
    by_test n false within is = absurd cc

quoted_at_short : (p x rest : List ℕ) → quoted_at p ≡ Some (x, rest) → length x ≤ length p
unfolding quoted_at
quoted_at_short [] x rest is = absurd cc
quoted_at_short (quote ∷ following) x rest is = by_test (eqb quote 0x27 || eqb quote 0x22) is
  where
    by_test : (b : Bool) → cond {A = Option (List ℕ × List ℕ)} b (closed_at quote following) None ≡ Some (x, rest) → length x ≤ length (quote ∷ following)
    by_test true is = omega (arith, closed_short quote following x rest is)
    by_test false is = absurd cc

quoted_short : (p a : List ℕ) → unquoted_text p ≡ Some a → length a ≤ length p
quoted_short p a is = by_found (quoted_at p) refl is
  where
    by_found : (o : Option (List ℕ × List ℕ)) → quoted_at p ≡ o → whole_match o ≡ Some a → length a ≤ length p
    by_found None found is = absurd cc
    by_found (Some (x, [])) found is = let same : x ≡ a = cc in omega (arith, quoted_at_short p x [] found, ap length same)
    by_found (Some (x, byte ∷ rest)) found is = absurd cc

joined_short : (ps : List (List ℕ)) (out : List ℕ) → joined_texts ps ≡ Some out → length out ≤ total ps
unfolding joined_texts total
joined_short [] out is = let same : [] ≡ out = cc in omega (arith, ap length same)
joined_short (p ∷ ps) out is = by_parts (unquoted_text p) (joined_texts ps) (quoted_short p) (joined_short ps) is
  where
    by_parts : (a b : Option (List ℕ)) → ((x : List ℕ) → a ≡ Some x → length x ≤ length p) → ((y : List ℕ) → b ≡ Some y → length y ≤ total ps) → appended_texts a b ≡ Some out → length out ≤ length p + total ps
    by_parts (Some x) (Some y) first others is =
        let same : x ++ y ≡ out = cc in
        omega (arith, first x refl, others y refl, ap length same, length-append x y)
    by_parts (Some x) None first others is = absurd cc
    by_parts None b first others is = by_rest b is
      where
        by_rest : (b : Option (List ℕ)) → appended_texts None b ≡ Some out → length out ≤ length p + total ps
        by_rest None is = absurd cc
        by_rest (Some y) is = absurd cc

pub joined_fits : (text out : List ℕ) → length text ≤ 255 → joined_texts (pieces 0x2B text) ≡ Some out → length out ≤ 255
joined_fits text out few is = omega (arith, few, joined_short (pieces 0x2B text) out is, total-pieces 0x2B None 0 text)

-- ---- parts of a text

pub take_whole : (l : List ℕ) (k : ℕ) → length l ≤ k → take k l ≡ l
take_whole [] zero few = refl
take_whole [] (suc k) few = refl
take_whole (x ∷ l) zero few = absurd (omega (arith, few))
take_whole (x ∷ l) (suc k) few = ap (λ (t : List ℕ). x ∷ t) (take_whole l k (omega (arith, few)))

pub middle_good : (text : List ℕ) (s n : ℤ) → pos 1 ≤ℤ s → pos 0 ≤ℤ n → Ok (take (unsigned_abs n) (drop (unsigned_abs s - 1) text)) ≡ middle_from text s n
middle_good text (pos zero) n some few = absurd (omega (arith, ints, some))
middle_good text (pos (suc k)) (pos m) some few = let back : suc k - 1 ≡ k = omega arith in ap (λ (i : ℕ). Ok (take m (drop i text))) back
middle_good text (pos (suc k)) (negsuc m) some few = absurd (omega (arith, ints, few))
middle_good text (negsuc k) n some few = absurd (omega (arith, ints, some))

pub middle_low : (text : List ℕ) (s n : ℤ) → s <ℤ pos 1 → Err BadSetting ≡ middle_from text s n
middle_low text (pos zero) n low = refl
middle_low text (pos (suc k)) n low = absurd (omega (arith, ints, low))
middle_low text (negsuc k) n low = refl

pub middle_few : (text : List ℕ) (s n : ℤ) → n <ℤ pos 0 → Err BadSetting ≡ middle_from text s n
middle_few text (pos zero) n low = refl
middle_few text (pos (suc k)) (pos m) low = absurd (omega (arith, ints, low))
middle_few text (pos (suc k)) (negsuc m) low = refl
middle_few text (negsuc k) n low = refl
