-- Quotes that close.
use Rattle.std.proofs.Common.{◌≡◌, ◌≢◌, ℕ, ◌+◌, Bool, true, false, cond, eqb, ltb, List, [], ◌∷◌, ◌++◌, append-nil, length, take, drop, Some, None, refl, sym, ap, ◌∙◌, arith}
use Rattle.std.specs.Prelude.{position}
use Rattle.std.specs.List.{position_or_len}
use Rattle.std.proofs.lemmas.Bool.{eq-eqb, eqb-true}
use Rattle.orca_meaning.specs.Token.{Found}
use Rattle.asm_meaning.specs.Elements.{closed_at, text_at, with_byte}
use Rattle.orca_operands.specs.ElementView.{with_bytes}

abbrev found : List ℕ → List ℕ → Found (List ℕ)
found a b = Some (a, b)

by_found : (b : Bool) (n i : ℕ) → cond b (Some n) None ≡ Some i → (b ≡ true) × (n ≡ i)
by_found true n i e = (refl, cc)
by_found false n i e = absurd cc

none_found : (b : Bool) (n : ℕ) → cond b (Some n) None ≡ None → b ≡ false
none_found true n e = absurd cc
none_found false n e = refl

-- where a quote is
pub closes : (text inner rest : List ℕ) (n : ℕ) → Some n ≡ position (λ b. eqb b 0x27) text → inner ≡ take n text → rest ≡ drop (n + 1) text → closed_at text ≡ Some (inner, rest)
unfolding closed_at
closes text inner rest n at inner_is rest_is =
    let k = position_or_len (λ b. eqb b 0x27) text in
    let is = by_found (ltb k (length text)) k n (sym at) in
    rw is.0 (ap (λ (m : ℕ). found (take m text) (drop (m + 1) text)) is.1 ∙ ap (λ (t : List ℕ). found t (drop (n + 1) text)) (sym inner_is) ∙ ap (found inner) (sym rest_is))

pub never_closes : (text : List ℕ) → position (λ b. eqb b 0x27) text ≡ None → closed_at text ≡ None
unfolding closed_at
never_closes text none =
    let k = position_or_len (λ b. eqb b 0x27) text in
    rw (none_found (ltb k (length text)) k none) refl

-- ---- the text of C

with_none : (out : List ℕ) → with_bytes out None ≡ None
with_none [] = refl
with_none (byte ∷ out) = ap (with_byte byte) (with_none out)

with_some : (out text rest : List ℕ) → with_bytes out (found text rest) ≡ found (out ++ text) rest
with_some [] text rest = refl
with_some (byte ∷ out) text rest = ap (with_byte byte) (with_some out text rest)

with_push : (out : List ℕ) (byte : ℕ) (f : Found (List ℕ)) → with_bytes (out ++ byte ∷ []) f ≡ with_bytes out (with_byte byte f)
with_push [] byte f = refl
with_push (b ∷ out) byte f = ap (with_byte b) (with_push out byte f)

pub neq-eqb : (a b : ℕ) → a ≢ b → eqb a b ≡ false
neq-eqb a b other = by_test (eqb a b) refl
  where
    by_test : (t : Bool) → eqb a b ≡ t → t ≡ false
    by_test true is = absurd (other (eqb-true a b is))
    by_test false is = refl

pub nothing : (l : List ℕ) → length l ≡ 0 → l ≡ []
nothing [] e = refl
nothing (x ∷ l) e = absurd (omega (arith, e))

another : (byte : ℕ) (others : List ℕ) → eqb byte 0x27 ≡ false → text_at (byte ∷ others) ≡ with_byte byte (text_at others)
unfolding text_at
another byte [] is = rw is refl
another byte (next ∷ others) is = rw is refl

quote_then : (byte next : ℕ) (following : List ℕ) (b : Bool) → eqb byte 0x27 ≡ true → eqb next 0x27 ≡ b → text_at (byte ∷ next ∷ following) ≡ cond b (with_byte 0x27 (text_at following)) (found [] (next ∷ following))
unfolding text_at
quote_then byte next following b is e = rw (is, e) refl

quote_last : (byte : ℕ) → eqb byte 0x27 ≡ true → text_at (byte ∷ []) ≡ found [] []
unfolding text_at
quote_last byte is = rw is refl

pub text_none : (text left out : List ℕ) → with_bytes out (text_at left) ≡ text_at text → length left ≡ 0 → text_at text ≡ None
unfolding text_at
text_none text left out is none = sym is ∙ ap (λ (l : List ℕ). with_bytes out (text_at l)) (nothing left none) ∙ with_none out

pub text_more : (text left others out new : List ℕ) (byte : ℕ) → with_bytes out (text_at left) ≡ text_at text → left ≡ byte ∷ others → byte ≢ 0x27 → new ≡ out ++ byte ∷ [] → with_bytes new (text_at others) ≡ text_at text
text_more text left others out new byte is parts other push =
    ap (λ (l : List ℕ). with_bytes l (text_at others)) push ∙ with_push out byte (text_at others)
    ∙ ap (with_bytes out) (sym (another byte others (neq-eqb byte 0x27 other))) ∙ ap (λ (l : List ℕ). with_bytes out (text_at l)) (sym parts) ∙ is

pub text_last : (text left others out : List ℕ) (byte : ℕ) → with_bytes out (text_at left) ≡ text_at text → left ≡ byte ∷ others → byte ≡ 0x27 → length others ≡ 0 → text_at text ≡ Some (out, others)
text_last text left others out byte is parts quote none =
    let end : others ≡ [] = nothing others none in
    sym is ∙ ap (λ (l : List ℕ). with_bytes out (text_at l)) (parts ∙ ap (λ (l : List ℕ). byte ∷ l) end) ∙ ap (with_bytes out) (quote_last byte (eq-eqb byte 0x27 quote))
    ∙ with_some out [] [] ∙ ap (λ (l : List ℕ). found l []) (append-nil out) ∙ ap (found out) (sym end)

pub text_stops : (text left others following out : List ℕ) (byte next : ℕ) → with_bytes out (text_at left) ≡ text_at text → left ≡ byte ∷ others → byte ≡ 0x27 → others ≡ next ∷ following → next ≢ 0x27 → text_at text ≡ Some (out, others)
text_stops text left others following out byte next is parts quote split other =
    sym is ∙ ap (λ (l : List ℕ). with_bytes out (text_at l)) (parts ∙ ap (λ (l : List ℕ). byte ∷ l) split)
    ∙ ap (with_bytes out) (quote_then byte next following false (eq-eqb byte 0x27 quote) (neq-eqb next 0x27 other))
    ∙ with_some out [] (next ∷ following) ∙ ap (λ (l : List ℕ). found l (next ∷ following)) (append-nil out) ∙ ap (found out) (sym split)

pub text_quotes : (text left others following out new : List ℕ) (byte next : ℕ) → with_bytes out (text_at left) ≡ text_at text → left ≡ byte ∷ others → byte ≡ 0x27 → others ≡ next ∷ following → next ≡ 0x27
    → new ≡ out ++ 0x27 ∷ [] → with_bytes new (text_at following) ≡ text_at text
text_quotes text left others following out new byte next is parts quote split second push =
    ap (λ (l : List ℕ). with_bytes l (text_at following)) push ∙ with_push out 0x27 (text_at following)
    ∙ ap (with_bytes out) (sym (quote_then byte next following true (eq-eqb byte 0x27 quote) (eq-eqb next 0x27 second)))
    ∙ ap (λ (l : List ℕ). with_bytes out (text_at l)) (sym (parts ∙ ap (λ (l : List ℕ). byte ∷ l) split)) ∙ is
