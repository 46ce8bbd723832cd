-- Names of dynamic segments, which differ, and their values.
use Rattle.std.proofs.Common.{◌≡◌, ℕ, zero, suc, ◌+◌, ◌-◌, ◌*◌, ◌^◌, ◌<◌, ◌≤◌, Bool, true, false, cond, eqb, leb, List, [], ◌∷◌, ◌++◌, length, refl, sym, ap, ◌∙◌, append-nil, arith}
use Rattle.std.specs.Prelude.{codes, replicate, ◌&&◌}
use Rattle.std.specs.Fmt.{digits}
use Rattle.std.specs.Int.Digits.{digits_of}
use Rattle.std.proofs.lemmas.Int.Digits.{length-digits_of-le}
use Rattle.std.proofs.lemmas.Fmt.{decimal-digits_of}
use Rattle.std.specs.Str.{bytes_eq}
use Rattle.std.proofs.lemmas.Bool.{agree_below_at, eqb-true, false_from_ne_true}
use Rattle.std.proofs.lemmas.Slice.Eq.{bytes_eq-Decides}
use Rattle.std.proofs.lemmas.List.{length-map, length-append, length-replicate}
use Rattle.omf_base.specs.Digits.{decimal}
use Rattle.omf_format.specs.Field.{IsName}
use Rattle.omf_format.specs.Expression.{Named, Leaf, term_text, Spells, IsExpression}
use Rattle.workload_meaning.specs.Object.{name_of, padded, value_of}

-- a small number has at most nine digits
decimal_small : (n : ℕ) → n < 10 ^ 9 → length (decimal n) ≤ 9
unfolding digits
decimal_small zero fits = let one : length (decimal 0) ≡ 1 = refl in omega (arith, one)
decimal_small (suc k) fits =
    let same = decimal-digits_of (suc k) (omega arith) (omega (arith, fits)) in
    let few : length (digits_of 10 (suc k)) ≤ 9 = length-digits_of-le 10 9 (suc k) (omega arith) fits in
    omega (arith, few, ap length same, length-map (digits_of 10 (suc k)) (λ d. 48 + d))

pub name_short : (i : ℕ) → i < 10 ^ 9 → length (name_of i) ≤ 10
name_short i fits = omega (arith, decimal_small i fits)

pub is_name : (i : ℕ) → i < 10 ^ 9 → IsName 0 (name_of i)
is_name i fits = (omega arith, omega (arith, name_short i fits))

-- a name's value is an expression: the name alone
pub value_spells : (name : List ℕ) → IsName 0 name → Spells 0 (value_of name) (Leaf (Named 0x83 name))
unfolding value_of
value_spells name is = record {
  formed = (refl, is);
  shallow = omega arith;
  spelled = ap (λ (l : List ℕ). l ++ 0x00 ∷ []) (sym (append-nil (term_text 0 (Named 0x83 name))));
}

pub is_value : (name : List ℕ) → IsName 0 name → IsExpression 0 (value_of name)
is_value name is = record { tree = Leaf (Named 0x83 name); spells = value_spells name is }

-- ---- names differ

-- the number in the digits at the start, after one that was read
number_from : ℕ → List ℕ → ℕ
number_from n [] = n
number_from n (b ∷ bytes) = cond (leb 48 b && leb b 57) (number_from (n * 10 + (b - 48)) bytes) n

-- the number in a name after its first byte
number_named : List ℕ → ℕ
unfolding number_from
number_named [] = 0
number_named (b ∷ bytes) = number_from 0 bytes

abbrev yes : ℕ → Bool
yes i = true

name_is_read : (i : ℕ) → i < 65 → number_named (name_of i) ≡ i
unfolding digits number_from number_named
name_is_read i small = eqb-true (number_named (name_of i)) i (agree_below_at (λ (k : ℕ). eqb (number_named (name_of k)) k) yes 65 i refl small)

padded_is_read : (i : ℕ) → i < 65 → number_named (padded (name_of i)) ≡ i
unfolding digits number_from number_named
padded_is_read i small = eqb-true (number_named (padded (name_of i))) i (agree_below_at (λ (k : ℕ). eqb (number_named (padded (name_of k))) k) yes 65 i refl small)

pub name_differs : (i j : ℕ) → i < 65 → j < 65 → (i ≡ j → ⊥) → bytes_eq (name_of i) (name_of j) ≡ false
name_differs i j p q other =
    false_from_ne_true (bytes_eq (name_of i) (name_of j)) (λ e. other (sym (name_is_read i p) ∙ ap number_named ((bytes_eq-Decides (name_of i) (name_of j)).0 e) ∙ name_is_read j q))

pub padded_differs : (i j : ℕ) → i < 65 → j < 65 → (i ≡ j → ⊥) → bytes_eq (padded (name_of i)) (padded (name_of j)) ≡ false
padded_differs i j p q other =
    false_from_ne_true (bytes_eq (padded (name_of i)) (padded (name_of j)))
    (λ e. other (sym (padded_is_read i p) ∙ ap number_named ((bytes_eq-Decides (padded (name_of i)) (padded (name_of j))).0 e) ∙ padded_is_read j q))

-- the first bytes differ
first_byte : List ℕ → ℕ
first_byte [] = 0
first_byte (b ∷ bytes) = b

pub name_not_main : (i : ℕ) → bytes_eq (name_of i) (codes "MAIN") ≡ false
unfolding first_byte
name_not_main i = false_from_ne_true (bytes_eq (name_of i) (codes "MAIN")) (λ e. let clash : 0x44 ≡ 0x4D = ap first_byte ((bytes_eq-Decides (name_of i) (codes "MAIN")).0 e) in absurd (omega (arith, clash)))

pub padded_not_main : (i : ℕ) → bytes_eq (padded (name_of i)) (padded (codes "MAIN")) ≡ false
unfolding first_byte
padded_not_main i =
    false_from_ne_true (bytes_eq (padded (name_of i)) (padded (codes "MAIN"))) (λ e. let clash : 0x44 ≡ 0x4D = ap first_byte ((bytes_eq-Decides (padded (name_of i)) (padded (codes "MAIN"))).0 e) in absurd (omega (arith, clash)))

pub length-padded : (name : List ℕ) → length name ≤ 10 → length (padded name) ≡ 10
length-padded name short = omega (arith, length-append name (replicate (10 - length name) 0x20), length-replicate {A = ℕ} (10 - length name) 0x20, short)
