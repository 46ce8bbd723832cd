-- A text of one to four bytes as a number.
use Rattle.std.proofs.Common.{◌≡◌, ℕ, ◌+◌, ◌<◌, ◌≤◌, Bool, true, false, cond, ltb, leb, eqb, List, length, drop, Some, None, refl, sym, ap, ◌∙◌, arith, ◌⊎◌, inl, inr}
use Rattle.std.specs.List.{position, position_or_len}
use Rattle.std.proofs.lemmas.Bool.{le-leb}
use Rattle.omf_format.specs.Number.{number_at}
use Rattle.orca_meaning.specs.Token.{quoted_number_at}
use Rattle.orca_text.proofs.Places.{found}

cond_true : (b : Bool) (n i : ℕ) → cond b (Some n) None ≡ Some i → b ≡ true
cond_true true n i e = refl
cond_true false n i e = absurd cc

pub text_found : (quote close number : ℕ) (following rest : List ℕ) → position (λ byte. eqb byte quote) following ≡ Some close → 1 ≤ close → close ≤ 4
    → number ≡ number_at close 0 following → rest ≡ drop (close + 1) following → quoted_number_at quote following ≡ Some (number, rest)
unfolding quoted_number_at number_at
text_found quote close number following rest is some few number_is rest_is =
    let n = position_or_len (λ byte. eqb byte quote) following in
    let same : close ≡ n = found (λ byte. eqb byte quote) following close is in
    let inside : ltb n (length following) ≡ true = cond_true (ltb n (length following)) n close is in
    let a : leb 1 n ≡ true = le-leb 1 n (omega arith) in
    let b : leb n 4 ≡ true = le-leb n 4 (omega arith) in
    let plus : drop (n + 1) following ≡ rest = ap (λ (k : ℕ). drop (k + 1) following) (sym same) ∙ sym rest_is in
    let value : number_at n 0 following ≡ number = ap (λ (k : ℕ). number_at k 0 following) (sym same) ∙ sym number_is in
    rw (a, b, inside) (rw (plus, ← value) refl)

-- a text that has a number has one to four bytes
pub text_bounds : (close size : ℕ) → ((close < 1) ⊎ ((4 < close) ⊎ (size < 0 + close)) → true ≡ false) → (1 ≤ close) × (close ≤ 4)
text_bounds close size none = (low (Rattle.std.proofs.lemmas.Bool.cases_lt close 1), high (Rattle.std.proofs.lemmas.Bool.cases_lt 4 close))
  where
    low : (close < 1) ⊎ (1 ≤ close) → 1 ≤ close
    low (inl less) = let clash = none (inl less) in absurd cc
    low (inr more) = more

    high : (4 < close) ⊎ (close ≤ 4) → close ≤ 4
    high (inl more) = let clash = none (inr (inl more)) in absurd cc
    high (inr less) = less
