-- Going over the fields of a table, and over the segments for a second one.
use Rattle.std.proofs.Common.{◌≡◌, ℕ, zero, suc, ◌+◌, ◌-◌, Bool, true, false, List, [], ◌∷◌, ◌++◌, length, take, Option, Some, None, refl, sym, ap, ◌∙◌, arith}
use Rattle.std.specs.Prelude.{◌||◌, ◌*◌, not, ◌==◌, nat_lt, slice_get, IsSomeAnd}
use Rattle.std.proofs.lemmas.Bool.{lt-ltb}
use Rattle.std.specs.Option.{option_or}
use Rattle.std.specs.List.{list_any}
use Rattle.omf_format.specs.Header.{first_of, is_dynamic, is_skipped}
use Rattle.omf_format.specs.Number.{number_at}
use Rattle.omf_format.specs.File.{Segment}
use Rattle.load_meaning.specs.Table.{entry_start}
use Rattle.load_meaning.specs.LoadTable.{is_table, entry_count, Check, zero_checks, entries_checks}
use Rattle.load_meaning.specs.laws.Steps.{table_checks, entry_checks}
use Rattle.load_meaning.specs.Cells.{Patch, segment_bytes, patches_of}
use Rattle.load_meaning.specs.Loadable.{table_flaw}

pub first_of-append : (xs ys : List Check) → first_of (xs ++ ys) ≡ option_or (first_of xs) (first_of ys)
first_of-append [] ys = refl
first_of-append ((true, at) ∷ xs) ys = refl
first_of-append ((false, at) ∷ xs) ys = first_of-append xs ys

-- one zero, and then the others
pub zeros_next : (bytes : List ℕ) (at n m : ℕ) → n ≡ suc m → first_of (zero_checks bytes at n) ≡ first_of ((not (number_at 1 at bytes == 0), at) ∷ zero_checks bytes (at + 1) m)
zeros_next bytes at n m e = ap (λ (k : ℕ). first_of (zero_checks bytes at k)) e

-- one entry, and then the others
pub entries_next : (segments : List Segment) (bytes : List ℕ) (k n m : ℕ) → n ≡ suc m
    → first_of (entries_checks segments bytes k n) ≡ option_or (first_of (entry_checks segments bytes (entry_start k))) (first_of (entries_checks segments bytes (k + 1) m))
entries_next segments bytes k n m e =
    ap (λ (j : ℕ). first_of (entries_checks segments bytes k j)) e
    ∙ first_of-append (entry_checks segments bytes (entry_start k)) (entries_checks segments bytes (k + 1) m)

pub or-here : (a b : Option ℕ) (at : ℕ) → Some at ≡ a → option_or a b ≡ Some at
or-here None b at e = absurd cc
or-here (Some x) b at e = sym e

pub or-next : (a b : Option ℕ) → None ≡ a → option_or a b ≡ b
or-next None b e = refl
or-next (Some x) b e = absurd cc

or_assoc : (a b c : Bool) → ((a || b) || c) ≡ (a || (b || c))
or_assoc true b c = refl
or_assoc false b c = refl

or_false : (a : Bool) → (a || false) ≡ a
or_false true = refl
or_false false = refl

segment_same : (s t : Segment) → Some s ≡ Some t → s ≡ t
segment_same s t e = cc

-- one segment more that may be one of these
pub any_more : (test : Segment → Bool) (segments : List Segment) (i : ℕ) (s : Segment) → slice_get segments i ≡ Some s → list_any test (take (i + 1) segments) ≡ (list_any test (take i segments) || test s)
any_more test [] i s e = absurd cc
any_more test (t ∷ segments) zero s e = or_false (test t) ∙ ap test (segment_same t s e)
any_more test (t ∷ segments) (suc i) s e =
    let step : suc i + 1 ≡ suc (i + 1) = omega arith in
    ap (λ (n : ℕ). list_any test (take n (t ∷ segments))) step
    ∙ ap (λ (b : Bool). test t || b) (any_more test segments i s e)
    ∙ sym (or_assoc (test t) (list_any test (take i segments)) (test s))

-- ---- flaws

abbrev rest_of : List Segment → Segment → List Check
rest_of segments s = table_checks segments (segment_bytes s) (entry_count s.fields.length)

module _ (segments : List Segment) (number : ℕ) (s : Segment) (first : list_any is_table (take (number - 1) segments) ≡ false)
    (static : is_dynamic s.fields.kind ≡ false) (kept : is_skipped s.fields.kind ≡ false) where
  kinds : (is_dynamic s.fields.kind || is_skipped s.fields.kind) ≡ false
  kinds = rw static kept

  pub flaw_patch : nat_lt 0 (length (patches_of s)) ≡ true → table_flaw segments number s ≡ Some 0
  unfolding table_flaw
  flaw_patch some = rw (first, kinds, some) refl

  pub flaw_size : nat_lt 0 (length (patches_of s)) ≡ false → (s.fields.length == 12 + 14 * entry_count s.fields.length) ≡ false → table_flaw segments number s ≡ Some s.fields.length
  unfolding table_flaw
  flaw_size none wrong = rw (first, kinds, none, wrong) refl

  pub flaw_layout : nat_lt 0 (length (patches_of s)) ≡ false → (s.fields.length == 12 + 14 * entry_count s.fields.length) ≡ true → table_flaw segments number s ≡ first_of (rest_of segments s)
  unfolding table_flaw
  flaw_layout none right = rw (first, kinds, none, right) refl

pub some_items : (patches : List (ℕ × Patch)) → (patches ≡ [] → ⊥) → nat_lt 0 (length patches) ≡ true
some_items [] some = absurd (some refl)
some_items (p ∷ patches) some = lt-ltb 0 (length (p ∷ patches)) (omega arith)

pub no_items : (patches : List (ℕ × Patch)) → patches ≡ [] → nat_lt 0 (length patches) ≡ false
no_items patches none = ap (λ (l : List (ℕ × Patch)). nat_lt 0 (length l)) none

pub some_and : {A : Type 0} (o : Option A) (P : A → Type 0) → IsSomeAnd o P → (x : A) × (o ≡ Some x) × P x
some_and None P h = absurd h
some_and (Some x) P h = (x, refl, h)
