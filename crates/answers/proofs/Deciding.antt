-- Decisions on numbers, and on all numbers of a range.
use Rattle.std.proofs.Common.{◌≡◌, ◌⊎◌, inl, inr, ℕ, zero, suc, ◌+◌, ◌-◌, ◌<◌, ◌≤◌, Option, Some, None, IsSomeAnd, subst, arith}
use Rattle.std.specs.Prelude.{IfSome}
use Rattle.std.proofs.lemmas.Bool.{cases_lt, cases_eq}
use Rattle.answers.specs.laws.Decisions.{Decided}

pub equal : (m n : ℕ) → Decided (m ≡ n)
equal m n = cases_eq m n

pub less : (m n : ℕ) → Decided (m < n)
less m n = elim (cases_lt m n) [ inl lt ↦ inl lt | inr ge ↦ inr (λ lt. omega (arith, lt, ge)) ]

pub at_most : (m n : ℕ) → Decided (m ≤ n)
at_most m n = elim (cases_lt n m) [ inl gt ↦ inr (λ le. omega (arith, gt, le)) | inr le ↦ inl le ]

pub both : {P Q : Type 0} → Decided P → Decided Q → Decided (P × Q)
both (inl p) (inl q) = inl (p, q)
both (inl p) (inr none) = inr (λ x. none x.1)
both (inr none) second = inr (λ x. none x.0)

pub implies : {P Q : Type 0} → Decided P → Decided Q → Decided (P → Q)
implies first (inl q) = inl (λ p. q)
implies (inl p) (inr none) = inr (λ f. none (f p))
implies (inr none) (inr other) = inl (λ p. absurd (none p))

pub refutes : {P : Type 0} → Decided P → Decided (P → ⊥)
refutes (inl p) = inr (λ none. none p)
refutes (inr none) = inl none

pub same_as : {P Q : Type 0} → (P → Q) → (Q → P) → Decided P → Decided Q
same_as to from (inl p) = inl (to p)
same_as to from (inr none) = inr (λ q. none (from q))

pub some_and : {A : Type 0} (P : A → Type 0) (o : Option A) → ((x : A) → Decided (P x)) → Decided (IsSomeAnd o P)
some_and P None decide = inr (λ e. e)
some_and P (Some x) decide = decide x

pub if_some : {A : Type 0} (P : A → Type 0) (o : Option A) → ((x : A) → Decided (P x)) → Decided (IfSome o P)
if_some P None decide = inl tt
if_some P (Some x) decide = decide x

-- the least number below a limit that has a property
pub record Least (P : ℕ → Type 0) (limit : ℕ) : Type 0 where
  pub at : ℕ
  pub within : at < limit
  pub here : P at
  pub none : (lower : ℕ) → lower < at → P lower → ⊥

pub least_below : (P : ℕ → Type 0) (limit : ℕ) → ((i : ℕ) → Decided (P i)) → Least P limit ⊎ ((i : ℕ) → i < limit → P i → ⊥)
least_below P zero decide = inr (λ i less p. omega (arith, less))
least_below P (suc n) decide = settle (least_below P n decide) (decide n)
  where
    settle : Least P n ⊎ ((i : ℕ) → i < n → P i → ⊥) → Decided (P n) → Least P (suc n) ⊎ ((i : ℕ) → i < suc n → P i → ⊥)
    settle (inl found) here = inl (record { at = found.at; within = omega (arith, found.within); here = found.here; none = found.none })
    settle (inr none) (inl p) = inl (record { at = n; within = omega arith; here = p; none = none })
    settle (inr none) (inr refuted) = inr (λ i less p. elim (cases_eq i n) [
      | inl same ↦ refuted (subst P same p)
      | inr ne ↦ none i (omega (arith, less, ne)) p
    ])

pub all_below : (P : ℕ → Type 0) (limit : ℕ) → ((i : ℕ) → Decided (P i)) → Decided ((i : ℕ) → i < limit → P i)
all_below P limit decide = elim (least_below (λ i. P i → ⊥) limit (λ i. refutes (decide i))) [
  | inl found ↦ inr (λ all. found.here (all found.at found.within))
  | inr none ↦ inl (λ i less. stands i less (none i less) (decide i))
]
  where
    stands : (i : ℕ) → i < limit → ((P i → ⊥) → ⊥) → Decided (P i) → P i
    stands i less double (inl p) = p
    stands i less double (inr refuted) = absurd (double refuted)

pub all_in : (P : ℕ → Type 0) (from size : ℕ) → ((i : ℕ) → Decided (P i)) → Decided ((i : ℕ) → from ≤ i → i < from + size → P i)
all_in P from size decide = same_as
    (λ all i above within. let same : from + (i - from) ≡ i = omega (arith, above) in subst P same (all (i - from) (omega (arith, above, within))))
    (λ all k less. all (from + k) (omega arith) (omega (arith, less)))
    (all_below (λ k. P (from + k)) size (λ k. decide (from + k)))
