-- Names one after another, with commas between them.
use Rattle.std.proofs.Common.{◌≡◌, ◌≢◌, ℕ, ◌<◌, ◌≤◌, Bool, true, false, cond, List, [], ◌∷◌, ◌++◌, length, take, drop, Some, None, sym, ap, subst, ◌∙◌, append_assoc, arith}
use Rattle.std.specs.List.{prefix_len}
use Rattle.std.proofs.lemmas.List.{length-drop}
use Rattle.orca_meaning.specs.Characters.{is_name_start, is_name_byte, folded}
use Rattle.orca_meaning.specs.Token.{Found, name_at}
use Rattle.asm_meaning.specs.Elements.{AreNames}

-- some names were read, and others are left
pub record Reads (text : List ℕ) (out : List (List ℕ)) (left : List ℕ) : Type 0 where
  pub makes : (n : List ℕ) (ns : List (List ℕ)) → AreNames left (n ∷ ns) → AreNames text (out ++ n ∷ ns)
  pub only : (all : List (List ℕ)) → AreNames text all → (ns : List (List ℕ)) × AreNames left ns
  pub short : length left ≤ length text

one_found : (o : Found (List ℕ)) (m n r s : List ℕ) → o ≡ Some (m, r) → o ≡ Some (n, s) → r ≡ s
one_found o m n r s p q = ap (λ (x : List ℕ × List ℕ). x.1) (same (m, r) (n, s) (sym p ∙ q))
  where
    same : (x y : List ℕ × List ℕ) → Some x ≡ Some y → x ≡ y
    same x y e = cc

abbrev found : List ℕ × List ℕ → Found (List ℕ)
found x = Some x

-- what follows a name is shorter
pub name_shorter : (text name rest : List ℕ) → name_at text ≡ Some (name, rest) → length rest < length text
unfolding name_at
name_shorter [] name rest e = absurd cc
name_shorter (byte ∷ following) name rest e = by_start (is_name_start byte) e
  where
    n : ℕ
    n = prefix_len is_name_byte following

    there : List ℕ × List ℕ
    there = (folded (byte ∷ take n following), drop n following)

    same : found there ≡ Some (name, rest) → there ≡ (name, rest)
    same e = cc

    by_start : (b : Bool) → cond b (found there) None ≡ Some (name, rest) → length rest < length (byte ∷ following)
    by_start true e = omega (arith, ap (λ (x : List ℕ × List ℕ). length x.1) (same e), length-drop n following)
    by_start false e = absurd cc

pub reads_more : (text : List ℕ) (out new : List (List ℕ)) (left rest following name : List ℕ) → Reads text out left → name_at left ≡ Some (name, rest) → new ≡ out ++ name ∷ [] → rest ≡ 0x2C ∷ following → Reads text new following
reads_more text out new left rest following name reads is push comma =
    let here : name_at left ≡ Some (name, 0x2C ∷ following) = is ∙ ap (λ (r : List ℕ). found (name, r)) comma in
    record {
      makes = λ n ns are. subst (λ (o : List (List ℕ)). AreNames text (o ++ n ∷ ns)) (sym push)
          (subst (AreNames text) (sym (append_assoc out (name ∷ []) (n ∷ ns))) (reads.makes name (n ∷ ns) (following, here, are)));
      only = λ all are. let found' = reads.only all are in following_first left following name found'.0 here found'.1;
      short = omega (arith, name_shorter left name rest is, ap length comma, reads.short);
    }
  where
    same_after : (r s : List ℕ) → 0x2C ∷ r ≡ 0x2C ∷ s → r ≡ s
    same_after r s e = cc

    following_first : (left following name : List ℕ) (ns : List (List ℕ)) → name_at left ≡ Some (name, 0x2C ∷ following) → AreNames left ns → (us : List (List ℕ)) × AreNames following us
    following_first left following name [] here are = absurd are
    following_first left following name (u ∷ []) here are = let same : 0x2C ∷ following ≡ [] = one_found (name_at left) name u (0x2C ∷ following) [] here are in absurd cc
    following_first left following name (u ∷ v ∷ us) here are =
        let same = same_after following are.0 (one_found (name_at left) name u (0x2C ∷ following) (0x2C ∷ are.0) here are.1) in
        (v ∷ us, subst (λ (b : List ℕ). AreNames b (v ∷ us)) (sym same) are.2)

pub reads_none : (text : List ℕ) (out : List (List ℕ)) (left : List ℕ) → Reads text out left → name_at left ≡ None → (all : List (List ℕ)) → AreNames text all → ⊥
reads_none text out left reads none all are = let found' = reads.only all are in by_count found'.0 found'.1
  where
    clash : (x : List ℕ × List ℕ) → name_at left ≡ Some x → ⊥
    clash x e = let both : None ≡ found x = sym none ∙ e in absurd cc

    by_count : (ns : List (List ℕ)) → AreNames left ns → ⊥
    by_count [] are = are
    by_count (n ∷ []) are = clash (n, []) are
    by_count (n ∷ u ∷ ns) are = clash (n, 0x2C ∷ are.0) are.1

pub reads_wrong : (text : List ℕ) (out : List (List ℕ)) (left rest name : List ℕ) → Reads text out left → name_at left ≡ Some (name, rest) → rest ≢ [] → ((following : List ℕ) → rest ≢ 0x2C ∷ following)
    → (all : List (List ℕ)) → AreNames text all → ⊥
reads_wrong text out left rest name reads is some other all are = let found' = reads.only all are in by_count found'.0 found'.1
  where
    by_count : (ns : List (List ℕ)) → AreNames left ns → ⊥
    by_count [] are = are
    by_count (n ∷ []) are = some (one_found (name_at left) name n rest [] is are)
    by_count (n ∷ u ∷ ns) are = other are.0 (one_found (name_at left) name n rest (0x2C ∷ are.0) is are.1)
