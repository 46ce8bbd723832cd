-- A text that is a name.
use Rattle.std.proofs.Common.{◌≡◌, ℕ, ◌≤◌, ◌-◌, Bool, true, false, cond, eqb, List, [], ◌∷◌, ◌++◌, length, take, drop, Option, Some, None, refl, sym, ap, ◌∙◌, length-drop, append-nil, arith}
use Rattle.std.specs.Prelude.{◌&&◌, is_some}
use Rattle.std.specs.List.{prefix_len}
use Rattle.std.proofs.lemmas.Bool.{eq-eqb, ne_eqb}
use Rattle.std.proofs.lemmas.List.{take-append-drop}
use Rattle.std.proofs.lemmas.List.Sums.{prefix_len-le-length}
use Rattle.orca_meaning.specs.Characters.{is_name_start, is_name_byte, folded}
use Rattle.orca_meaning.specs.Token.{name_at}
use Rattle.macro_meaning.specs.Statements.{whole_match}

by_rest : (n size : ℕ) (name rest : List ℕ) → length rest ≡ size - n → n ≤ size → eqb n size ≡ is_some (whole_match (Some (name, rest)))
by_rest n size name [] is few = eq-eqb n size (omega (arith, is, few))
by_rest n size name (byte ∷ rest) is few = ne_eqb n size (λ same. omega (arith, is, few, same))

pub whole_name : (text : List ℕ) (first : ℕ) (others : List ℕ) → text ≡ first ∷ others → (is_name_start first && eqb (prefix_len is_name_byte others) (length others)) ≡ is_some (whole_match (name_at text))
unfolding name_at
whole_name text first others is = rw is (by_start (is_name_start first) refl)
  where
    by_start : (b : Bool) → is_name_start first ≡ b → (b && eqb (prefix_len is_name_byte others) (length others))
        ≡ is_some (whole_match (cond b (Some (folded (first ∷ take (prefix_len is_name_byte others) others), drop (prefix_len is_name_byte others) others)) None))
    by_start false start = refl
    by_start true start =
        by_rest (prefix_len is_name_byte others) (length others) (folded (first ∷ take (prefix_len is_name_byte others) others)) (drop (prefix_len is_name_byte others) others)
        (length-drop (prefix_len is_name_byte others) others) (prefix_len-le-length is_name_byte others)

pub no_bytes : (text : List ℕ) → length text ≡ 0 → false ≡ is_some (whole_match (name_at text))
unfolding name_at
no_bytes [] none = refl
no_bytes (byte ∷ text) none = absurd (omega (arith, none))

pub no_start : (text : List ℕ) (first : ℕ) (others : List ℕ) (starts : Bool) → text ≡ first ∷ others → starts ≡ is_name_start first → starts ≡ false → starts ≡ is_some (whole_match (name_at text))
unfolding name_at
no_start text first others starts is test other =
    let no_name : is_name_start first ≡ false = sym test ∙ other in
    rw (other, is, no_name) refl

some_whole : (byte n : ℕ) (following rest : List ℕ) → rest ≡ drop n following → is_some (whole_match (Some (folded (byte ∷ take n following), rest))) ≡ true
    → whole_match (Some (folded (byte ∷ take n following), rest)) ≡ Some (folded (byte ∷ following))
some_whole byte n following [] none some =
    ap (λ (t : List ℕ). Some (folded (byte ∷ t))) (sym (append-nil (take n following)) ∙ ap (λ (r : List ℕ). take n following ++ r) none ∙ take-append-drop n following)
some_whole byte n following (x ∷ rest) none some = absurd cc

name_is : (text : List ℕ) → is_some (whole_match (name_at text)) ≡ true → whole_match (name_at text) ≡ Some (folded text)
unfolding name_at
name_is [] some = absurd cc
name_is (byte ∷ following) some = by_start (is_name_start byte) some
  where
    n : ℕ
    n = prefix_len is_name_byte following

    by_start : (b : Bool) → is_some (whole_match (cond b (Some (folded (byte ∷ take n following), drop n following)) None)) ≡ true
        → whole_match (cond b (Some (folded (byte ∷ take n following), drop n following)) None) ≡ Some (folded (byte ∷ following))
    by_start true so = some_whole byte n following (drop n following) refl so
    by_start false so = absurd cc

pub some_name : (text word : List ℕ) (b : Bool) → b ≡ is_some (whole_match (name_at text)) → b ≡ true → word ≡ folded text → Some word ≡ whole_match (name_at text)
some_name text word b test so word_is = ap (λ (w : List ℕ). Some w) word_is ∙ sym (name_is text (sym test ∙ so))

none_is : (found : Option (List ℕ)) → is_some found ≡ false → None ≡ found
none_is None none = refl
none_is (Some name) none = absurd cc

pub none_name : (text : List ℕ) (b : Bool) → b ≡ is_some (whole_match (name_at text)) → b ≡ false → None ≡ whole_match (name_at text)
none_name text b test other = none_is (whole_match (name_at text)) (sym test ∙ other)
