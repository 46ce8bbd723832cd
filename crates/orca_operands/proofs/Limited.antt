-- Bytes that are kept as long as a file may have them.
use Rattle.std.proofs.Common.{◌≡◌, ℕ, ◌<◌, ◌≤◌, Bool, true, false, cond, leb, List, [], ◌++◌, length, replicate, Option, Some, None, refl, sym, ap, ◌∙◌, arith}
use Rattle.std.proofs.lemmas.Bool.{leb-true, leb-false, le-leb}
use Rattle.std.proofs.lemmas.List.{length-append, length-replicate}
use Rattle.asm_meaning.specs.Object.{most_bytes}
use Rattle.orca_operands.specs.TextView.{text_within_limit}

pub limited_nothing : text_within_limit [] ≡ Some []
limited_nothing = refl

pub is_limited : (text : List ℕ) → length text ≤ most_bytes → text_within_limit text ≡ Some text
is_limited text few = by_size (leb (length text) most_bytes) (le-leb (length text) most_bytes few)
  where
    by_size : (b : Bool) → b ≡ true → cond b (Some text) None ≡ Some text
    by_size true e = refl
    by_size false e = absurd cc

pub is_too_long : (text : List ℕ) → most_bytes < length text → text_within_limit text ≡ None
is_too_long text many = by_size (leb (length text) most_bytes) refl
  where
    by_size : (b : Bool) → leb (length text) most_bytes ≡ b → cond b (Some text) None ≡ None
    by_size true e = absurd (omega (arith, leb-true (length text) most_bytes e, many))
    by_size false e = refl

-- what was limited was too long, or the text itself
pub long_text : (text : List ℕ) → None ≡ text_within_limit text → most_bytes < length text
long_text text e = by_size (leb (length text) most_bytes) refl e
  where
    by_size : (b : Bool) → leb (length text) most_bytes ≡ b → None ≡ cond b (Some text) None → most_bytes < length text
    by_size true is e = absurd cc
    by_size false is e = leb-false (length text) most_bytes is

pub same_text : (text bytes : List ℕ) → Some bytes ≡ text_within_limit text → text ≡ bytes
same_text text bytes e = by_size (leb (length text) most_bytes) e
  where
    by_size : (b : Bool) → Some bytes ≡ cond b (Some text) None → text ≡ bytes
    by_size true e = same text bytes e
      where
        same : (x y : List ℕ) → Some y ≡ Some x → x ≡ y
        same x y e = cc
    by_size false e = absurd cc

pub stays_long : (text more : List ℕ) → None ≡ text_within_limit text → None ≡ text_within_limit (text ++ more)
stays_long text more e = sym (is_too_long (text ++ more) (omega (arith, length-append text more, long_text text e)))

pub grows_long : (text bytes new more : List ℕ) → Some bytes ≡ text_within_limit text → new ≡ bytes ++ more → most_bytes < length new → None ≡ text_within_limit (text ++ more)
grows_long text bytes new more e put many =
    let same : new ≡ text ++ more = put ∙ ap (λ (l : List ℕ). l ++ more) (sym (same_text text bytes e)) in
    sym (ap text_within_limit (sym same) ∙ is_too_long new many)

pub grows : (text bytes new more : List ℕ) → Some bytes ≡ text_within_limit text → new ≡ bytes ++ more → length new ≤ most_bytes → Some new ≡ text_within_limit (text ++ more)
grows text bytes new more e put few =
    let same : new ≡ text ++ more = put ∙ ap (λ (l : List ℕ). l ++ more) (sym (same_text text bytes e)) in
    sym (ap text_within_limit (sym same) ∙ is_limited new few)

-- room for a header
pub limited_room : (bytes : List ℕ) (size : ℕ) → bytes ≡ replicate size 0 → size ≤ most_bytes → Some bytes ≡ text_within_limit (replicate size 0)
limited_room bytes size is few = ap Some is ∙ sym (is_limited (replicate size 0) (omega (arith, length-replicate {A = ℕ} size 0, few)))

-- what follows may be too long by itself
pub long_after : (text more : List ℕ) → None ≡ text_within_limit more → None ≡ text_within_limit (text ++ more)
long_after text more e = sym (is_too_long (text ++ more) (omega (arith, length-append text more, long_text more e)))

-- one text in the place of none
pub joins_first : (text more bytes : List ℕ) (kept : Option (List ℕ)) → Some bytes ≡ text_within_limit text → bytes ≡ [] → kept ≡ text_within_limit more → kept ≡ text_within_limit (text ++ more)
joins_first text more bytes kept shows none is = is ∙ ap (λ (l : List ℕ). text_within_limit (l ++ more)) (sym (same_text text bytes shows ∙ none))

-- one text after another
pub joins : (text more bytes : List ℕ) (old new : Option (List ℕ)) → ((before : List ℕ) → old ≡ text_within_limit before → new ≡ text_within_limit (before ++ bytes)) → old ≡ text_within_limit text → Some bytes ≡ text_within_limit more → new ≡ text_within_limit (text ++ more)
joins text more bytes old new put shows is = put text shows ∙ ap (λ (l : List ℕ). text_within_limit (text ++ l)) (sym (same_text more bytes is))
