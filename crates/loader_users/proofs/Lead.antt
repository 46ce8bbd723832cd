-- The targets of a table stay while its entries follow.
use Rattle.std.proofs.Common.{◌≡◌, inl, inr, ℕ, zero, suc, Bool, true, false, cond, ◌+◌, ◌≤◌, List, length, Option, refl, ◌∙◌, arith}
use Rattle.std.proofs.lemmas.Bool.{cases_lt}
use Rattle.omf_format.specs.Number.{number_at}
use Rattle.load_meaning.specs.Table.{entry_start, written_at}
use Rattle.load_meaning.specs.laws.TableLaws.{length-written_at, written-before, written-following, length-code_bytes}
use Rattle.load_meaning.specs.LoadTable.{target_at}
use Rattle.loader_users.specs.Renewing.{Choice, is_chosen, code_for, renewed_at, relinked_entries}

module _ (only : Choice) (address : Option ℕ) where
  -- one entry follows: numbers outside its code stay
  code_length : (n : ℕ) → length (code_for address n) ≡ 4
  code_length n = length-code_bytes _

  one_same : (w n at : ℕ) (bytes : List ℕ) → at + 14 ≤ length bytes → (n + w ≤ at + 10) → number_at w n (renewed_at only address at bytes) ≡ number_at w n bytes
  unfolding renewed_at
  one_same w n at bytes inside before = go (is_chosen only (number_at 2 (at + 2) bytes) (number_at 2 (at + 4) bytes))
    where
      go : (c : Bool) → number_at w n (cond c (written_at (at + 10) (code_for address (number_at 4 (at + 6) bytes)) bytes) bytes) ≡ number_at w n bytes
      go true = written-before (at + 10) (code_for address (number_at 4 (at + 6) bytes)) bytes (omega (arith, inside, code_length (number_at 4 (at + 6) bytes))) w n before
      go false = refl

  one_after : (w n at : ℕ) (bytes : List ℕ) → at + 14 ≤ length bytes → at + 14 ≤ n → number_at w n (renewed_at only address at bytes) ≡ number_at w n bytes
  unfolding renewed_at
  one_after w n at bytes inside following = go (is_chosen only (number_at 2 (at + 2) bytes) (number_at 2 (at + 4) bytes))
    where
      go : (c : Bool) → number_at w n (cond c (written_at (at + 10) (code_for address (number_at 4 (at + 6) bytes)) bytes) bytes) ≡ number_at w n bytes
      go true = written-following (at + 10) (code_for address (number_at 4 (at + 6) bytes)) bytes (omega (arith, inside, code_length (number_at 4 (at + 6) bytes))) w n (omega (arith, following, code_length (number_at 4 (at + 6) bytes)))
      go false = refl

  one_length : (at : ℕ) (bytes : List ℕ) → at + 14 ≤ length bytes → length (renewed_at only address at bytes) ≡ length bytes
  unfolding renewed_at
  one_length at bytes inside = go (is_chosen only (number_at 2 (at + 2) bytes) (number_at 2 (at + 4) bytes))
    where
      go : (c : Bool) → length (cond c (written_at (at + 10) (code_for address (number_at 4 (at + 6) bytes)) bytes) bytes) ≡ length bytes
      go true = length-written_at (at + 10) (code_for address (number_at 4 (at + 6) bytes)) bytes (omega (arith, inside, code_length (number_at 4 (at + 6) bytes)))
      go false = refl

  -- a number in an entry, before its code
  in_entry : (w n k j : ℕ) (bytes : List ℕ) → entry_start k + 14 ≤ length bytes → n + w ≤ 10 → number_at w (entry_start j + n) (renewed_at only address (entry_start k) bytes) ≡ number_at w (entry_start j + n) bytes
  in_entry w n k j bytes inside within = elim (cases_lt k j) [
    | inl less ↦ one_after w (entry_start j + n) (entry_start k) bytes inside (omega (arith, less))
    | inr above ↦ one_same w (entry_start j + n) (entry_start k) bytes inside (omega (arith, above, within))
  ]

  renewed_length : (count : ℕ) (bytes : List ℕ) → entry_start count ≤ length bytes → length (relinked_entries only address count bytes) ≡ length bytes
  renewed_length zero bytes inside = refl
  renewed_length (suc k) bytes inside =
      let rest = renewed_length k bytes (omega (arith, inside)) in
      one_length (entry_start k) (relinked_entries only address k bytes) (omega (arith, inside, rest)) ∙ rest

  number_stays : (w n j count : ℕ) (bytes : List ℕ) → entry_start count ≤ length bytes → n + w ≤ 10 → number_at w (entry_start j + n) (relinked_entries only address count bytes) ≡ number_at w (entry_start j + n) bytes
  number_stays w n j zero bytes inside within = refl
  number_stays w n j (suc k) bytes inside within =
      let rest = renewed_length k bytes (omega (arith, inside)) in
      in_entry w n k j (relinked_entries only address k bytes) (omega (arith, inside, rest)) within ∙ number_stays w n j k bytes (omega (arith, inside)) within

  -- an entry leads where it led
  pub target_stays : (j count : ℕ) (bytes : List ℕ) → entry_start count ≤ length bytes → target_at (relinked_entries only address count bytes) j ≡ target_at bytes j
  unfolding target_at
  target_stays j count bytes inside = cc (number_stays 2 2 j count bytes inside (omega arith), number_stays 2 4 j count bytes inside (omega arith), number_stays 4 6 j count bytes inside (omega arith))
