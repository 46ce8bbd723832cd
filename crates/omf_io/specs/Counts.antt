-- Counts of failures, and objects that reveal what they hold or don't.
use Rattle.std.specs.Prelude.{◌≡◌, ℕ, ◌+◌, ◌-◌, ◌^◌, List, ◌++◌, min, zero, suc, Option, None, Some}

-- one more, up to 2^64 - 1, where a count stops
abbrev pub one_more : ℕ → ℕ
one_more count = min (count + 1) (2 ^ 64 - 1)

-- a given number more, up to 2^64 - 1
abbrev pub saturating_sum : ℕ → ℕ → ℕ
saturating_sum zero count = count
saturating_sum (suc more) count = one_more (saturating_sum more count)

-- where the object reveals what it holds, `P` is true of that, and where it doesn't, `Q` is true
abbrev pub IfRevealedOr : {X : Type 0} → Option X → Type 0 → (X → Type 0) → Type 0
IfRevealedOr None Q P = Q
IfRevealedOr (Some x) Q P = P x

-- the bytes begin with these, which may be none or all of them
abbrev pub IsFront : List ℕ → List ℕ → Type 0
IsFront front bytes = (rest : List ℕ) × (bytes ≡ front ++ rest)
