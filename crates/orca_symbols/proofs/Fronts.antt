-- What precedes a text that may be none.
use Rattle.std.proofs.lemmas.Bool.{eqb-true, and_parts}
use Rattle.orca_symbols.specs.Plain.{plain_len}
use Rattle.std.proofs.Common.{◌≡◌, ℕ, zero, suc, ◌+◌, ◌-◌, ◌≤◌, Bool, true, false, cond, eqb, take, drop, subst, length-drop, List, [], ◌∷◌, ◌++◌, Option, Some, None, refl, sym, ap, ◌∙◌, length, arith, append_assoc, append-nil}
use Rattle.std.specs.Char.{to_ascii_uppercase}
use Rattle.std.specs.List.{list_all}
use Rattle.orca_meaning.specs.Characters.{folded}
use Rattle.macro_meaning.specs.Substitution.{Naming, with_front, in_place, substituted_from}

pub front_more : (a b : List ℕ) (rest : Option (List ℕ)) → with_front (a ++ b) rest ≡ with_front a (with_front b rest)
front_more a b None = refl
front_more a b (Some text) = ap (λ (t : List ℕ). Some t) (append_assoc a b text)

front_end : (a : List ℕ) → with_front a (Some []) ≡ Some a
front_end a = ap (λ (t : List ℕ). Some t) (append-nil a)

pub front_start : (out : List ℕ) (rest : Option (List ℕ)) → out ≡ [] → with_front out rest ≡ rest
front_start out None e = refl
front_start out (Some text) e = ap (λ (o : List ℕ). Some (o ++ text)) e

-- what replaces an `&`
pub put_more : (text_of : List ℕ → Option (List ℕ)) (naming : ℕ → Naming) (at byte : ℕ) (following old new : List ℕ) (put : List ℕ × ℕ) (whole : Option (List ℕ)) → byte ≡ 0x26
    → in_place text_of (naming at) following ≡ Some put → new ≡ old ++ put.0 → with_front old (substituted_from text_of naming at 0 (byte ∷ following)) ≡ whole
    → with_front new (substituted_from text_of naming (at + 1) put.1 following) ≡ whole
unfolding substituted_from
put_more text_of naming at byte following old new put whole ampersand is push so =
    let front : substituted_from text_of naming at 0 (0x26 ∷ following) ≡ with_front put.0 (substituted_from text_of naming (at + 1) put.1 following) = rw is refl in
    ap (λ (n : List ℕ). with_front n (substituted_from text_of naming (at + 1) put.1 following)) push ∙ front_more old put.0 (substituted_from text_of naming (at + 1) put.1 following)
    ∙ ap (with_front old) (sym front) ∙ ap (λ (b : ℕ). with_front old (substituted_from text_of naming at 0 (b ∷ following))) (sym ampersand) ∙ so

-- a symbol isn't declared
pub put_none : (text_of : List ℕ → Option (List ℕ)) (naming : ℕ → Naming) (at byte : ℕ) (following old : List ℕ) (whole : Option (List ℕ)) → byte ≡ 0x26
    → in_place text_of (naming at) following ≡ None → with_front old (substituted_from text_of naming at 0 (byte ∷ following)) ≡ whole → whole ≡ None
unfolding substituted_from
put_none text_of naming at byte following old whole ampersand none so =
    let front : substituted_from text_of naming at 0 (0x26 ∷ following) ≡ None = rw none refl in
    sym so ∙ ap (λ (b : ℕ). with_front old (substituted_from text_of naming at 0 (b ∷ following))) ampersand ∙ ap (with_front old) front

-- a byte that is no small letter
abbrev pub is_upper : ℕ → Bool
is_upper byte = eqb (to_ascii_uppercase byte) byte

pub folded_all : (name : List ℕ) → list_all is_upper name ≡ true → folded name ≡ name
folded_all [] all = refl
folded_all (byte ∷ following) all =
    let both = and_parts (is_upper byte) (list_all is_upper following) all in
    ap (λ (b : ℕ). b ∷ folded following) (eqb-true (to_ascii_uppercase byte) byte both.0) ∙ ap (λ (l : List ℕ). byte ∷ l) (folded_all following both.1)

-- ---- runs without `&`

pub plain_most : (text : List ℕ) → plain_len text ≤ length text
unfolding plain_len
plain_most [] = omega arith
plain_most (byte ∷ following) = by_test (eqb byte 0x26) (plain_most following)
  where
    by_test : (b : Bool) → plain_len following ≤ length following → cond b 0 (plain_len following + 1) ≤ length (byte ∷ following)
    by_test true most = omega arith
    by_test false most = omega (arith, most)

-- a run is copied as it is
pub plain_front : (text_of : List ℕ → Option (List ℕ)) (naming : ℕ → Naming) (at : ℕ) (text : List ℕ)
    → substituted_from text_of naming at 0 text ≡ with_front (take (plain_len text) text) (substituted_from text_of naming (at + plain_len text) 0 (drop (plain_len text) text))
unfolding substituted_from plain_len
plain_front text_of naming at [] = refl
plain_front text_of naming at (byte ∷ following) = by_test (eqb byte 0x26) refl (plain_front text_of naming (at + 1) following)
  where
    by_test : (b : Bool) → eqb byte 0x26 ≡ b
        → substituted_from text_of naming (at + 1) 0 following ≡ with_front (take (plain_len following) following) (substituted_from text_of naming (at + 1 + plain_len following) 0 (drop (plain_len following) following))
        → substituted_from text_of naming at 0 (byte ∷ following)
        ≡ with_front (take (cond b 0 (plain_len following + 1)) (byte ∷ following)) (substituted_from text_of naming (at + cond b 0 (plain_len following + 1)) 0 (drop (cond b 0 (plain_len following + 1)) (byte ∷ following)))
    by_test true is more = let same : at + 0 ≡ at = omega arith in sym (front_start [] (substituted_from text_of naming (at + 0) 0 (byte ∷ following)) refl ∙ ap (λ (n : ℕ). substituted_from text_of naming n 0 (byte ∷ following)) same)
    by_test false is more =
        let n = plain_len following in
        let here : substituted_from text_of naming at 0 (byte ∷ following) ≡ with_front (byte ∷ []) (substituted_from text_of naming (at + 1) 0 following) = rw is refl in
        let place : at + 1 + n ≡ at + (n + 1) = omega arith in
        let count : suc n ≡ n + 1 = omega arith in
        here ∙ ap (with_front (byte ∷ [])) more ∙ sym (front_more (byte ∷ []) (take n following) (substituted_from text_of naming (at + 1 + n) 0 (drop n following)))
        ∙ ap (λ (p : ℕ). with_front (byte ∷ take n following) (substituted_from text_of naming p 0 (drop n following))) place
        ∙ ap (λ (k : ℕ). with_front (take k (byte ∷ following)) (substituted_from text_of naming (at + (n + 1)) 0 (drop k (byte ∷ following)))) count

-- an `&` follows a run
pub after_run : (text : List ℕ) (byte : ℕ) (following : List ℕ) → drop (plain_len text) text ≡ byte ∷ following → byte ≡ 0x26
unfolding plain_len
after_run [] byte following is = absurd cc
after_run (first ∷ text) byte following is = by_test (eqb first 0x26) refl (after_run text byte following) is
  where
    by_test : (b : Bool) → eqb first 0x26 ≡ b → (drop (plain_len text) text ≡ byte ∷ following → byte ≡ 0x26) → drop (cond b 0 (plain_len text + 1)) (first ∷ text) ≡ byte ∷ following → byte ≡ 0x26
    by_test true test more is = let same : first ≡ byte = cc in sym same ∙ eqb-true first 0x26 test
    by_test false test more is = let count : plain_len text + 1 ≡ suc (plain_len text) = omega arith in more (rw count at is)

-- the bytes that were taken are left out
pub skipped : (text_of : List ℕ → Option (List ℕ)) (naming : ℕ → Naming) (at taken : ℕ) (text : List ℕ) → taken ≤ length text
    → substituted_from text_of naming at taken text ≡ substituted_from text_of naming (at + taken) 0 (drop taken text)
unfolding substituted_from
skipped text_of naming at zero text few = let same : at ≡ at + 0 = omega arith in ap (λ (n : ℕ). substituted_from text_of naming n 0 text) same
skipped text_of naming at (suc taken) [] few = absurd (omega (arith, few))
skipped text_of naming at (suc taken) (byte ∷ following) few =
    let same : at + 1 + taken ≡ at + suc taken = omega arith in
    skipped text_of naming (at + 1) taken following (omega (arith, few)) ∙ ap (λ (n : ℕ). substituted_from text_of naming n 0 (drop taken following)) same

-- nothing is left
pub nothing_left : (text_of : List ℕ → Option (List ℕ)) (naming : ℕ → Naming) (at : ℕ) (rest out : List ℕ) → length rest ≡ 0 → with_front out (substituted_from text_of naming at 0 rest) ≡ Some out
unfolding substituted_from
nothing_left text_of naming at [] out none = front_end out
nothing_left text_of naming at (byte ∷ rest) out none = absurd (omega (arith, none))

-- so far, where these bytes of a line are left
abbrev pub IsSoFar : (List ℕ → Option (List ℕ)) → (ℕ → Naming) → List ℕ → List ℕ → List ℕ → Type 0
IsSoFar text_of naming text left out = with_front out (substituted_from text_of naming (length text - length left) 0 left) ≡ substituted_from text_of naming 0 0 text

pub run_starts : (text_of : List ℕ → Option (List ℕ)) (naming : ℕ → Naming) (text out : List ℕ) → out ≡ [] → IsSoFar text_of naming text text out
run_starts text_of naming text out empty =
    front_start out (substituted_from text_of naming (length text - length text) 0 text) empty ∙ ap (λ (n : ℕ). substituted_from text_of naming n 0 text) (none (length text))
  where
    none : (n : ℕ) → n - n ≡ 0
    none n = omega arith

module _ (text_of : List ℕ → Option (List ℕ)) (naming : ℕ → Naming) (text left rest out new : List ℕ) (within : length left ≤ length text) (so : IsSoFar text_of naming text left out)
    (rest_is : rest ≡ drop (plain_len left) left) (copied : new ≡ out ++ take (plain_len left) left) where
  place : length text - length left + plain_len left ≡ length text - length rest
  place = omega (arith, within, plain_most left, ap length rest_is, length-drop (plain_len left) left)

  after_plain : with_front new (substituted_from text_of naming (length text - length rest) 0 rest) ≡ substituted_from text_of naming 0 0 text
  after_plain =
      ap (λ (n : List ℕ). with_front n (substituted_from text_of naming (length text - length rest) 0 rest)) copied
      ∙ front_more out (take (plain_len left) left) (substituted_from text_of naming (length text - length rest) 0 rest)
      ∙ ap (λ (r : List ℕ). with_front out (with_front (take (plain_len left) left) (substituted_from text_of naming (length text - length rest) 0 r))) rest_is
      ∙ ap (λ (p : ℕ). with_front out (with_front (take (plain_len left) left) (substituted_from text_of naming p 0 (drop (plain_len left) left)))) (sym place)
      ∙ ap (with_front out) (sym (plain_front text_of naming (length text - length left) left)) ∙ so

  pub run_ends : length rest ≡ 0 → substituted_from text_of naming 0 0 text ≡ Some new
  run_ends none = sym after_plain ∙ nothing_left text_of naming (length text - length rest) rest new none

  pub run_fails : (byte : ℕ) (following : List ℕ) → rest ≡ byte ∷ following → in_place text_of (naming (length text - length rest)) following ≡ None → substituted_from text_of naming 0 0 text ≡ None
  run_fails byte following first none =
      put_none text_of naming (length text - length rest) byte following new (substituted_from text_of naming 0 0 text) (after_run left byte following (sym rest_is ∙ first)) none
      (subst (λ (r : List ℕ). with_front new (substituted_from text_of naming (length text - length rest) 0 r) ≡ substituted_from text_of naming 0 0 text) first after_plain)

  pub run_goes : (byte : ℕ) (following put : List ℕ) (more : ℕ) (last others : List ℕ) → rest ≡ byte ∷ following → in_place text_of (naming (length text - length rest)) following ≡ Some (put, more) → more ≤ length following
      → last ≡ new ++ put → others ≡ drop more following → IsSoFar text_of naming text others last
  run_goes byte following put more last others first is few pushed others_are =
      let next = put_more text_of naming (length text - length rest) byte following new last (put, more) (substituted_from text_of naming 0 0 text) (after_run left byte following (sym rest_is ∙ first)) is pushed
      (subst (λ (r : List ℕ). with_front new (substituted_from text_of naming (length text - length rest) 0 r) ≡ substituted_from text_of naming 0 0 text) first after_plain) in
      let most : length rest ≤ length text = omega (arith, within, ap length rest_is, length-drop (plain_len left) left) in
      let at : length text - length rest + 1 + more ≡ length text - length others = omega (arith, most, few, ap length first, ap length others_are, length-drop more following) in
      ap (λ (o : List ℕ). with_front last (substituted_from text_of naming (length text - length o) 0 o)) others_are
      ∙ ap (λ (p : ℕ). with_front last (substituted_from text_of naming p 0 (drop more following))) (sym (at ∙ ap (λ (o : List ℕ). length text - length o) others_are))
      ∙ ap (with_front last) (sym (skipped text_of naming (length text - length rest + 1) more following few)) ∙ next

-- a text without `&` stays as it is
pub plain_text : (text_of : List ℕ → Option (List ℕ)) (naming : ℕ → Naming) (text : List ℕ) → plain_len text ≡ length text → substituted_from text_of naming 0 0 text ≡ Some text
plain_text text_of naming text plain =
    let place : 0 + plain_len text ≡ length text = omega (arith, plain) in
    plain_front text_of naming 0 text ∙ ap (λ (n : ℕ). with_front (take (plain_len text) text) (substituted_from text_of naming n 0 (drop (plain_len text) text))) place
    ∙ ap (λ (n : ℕ). with_front (take n text) (substituted_from text_of naming (length text) 0 (drop n text))) plain
    ∙ nothing_left text_of naming (length text) (drop (length text) text) (take (length text) text) (omega (arith, length-drop (length text) text)) ∙ ap (λ (t : List ℕ). Some t) (take_whole text)
  where
    take_whole : (t : List ℕ) → take (length t) t ≡ t
    take_whole [] = refl
    take_whole (byte ∷ t) = ap (λ (l : List ℕ). byte ∷ l) (take_whole t)
