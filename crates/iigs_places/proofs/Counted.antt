-- How many numbers below a limit have a property.
use Rattle.std.proofs.Common.{◌≡◌, ◌⊎◌, inl, inr, ℕ, zero, suc, ◌+◌, ◌-◌, ◌<◌, ◌≤◌, ◌↔◌, arith, refl, ap, subst}
use Rattle.iigs_meaning.specs.Room.{CountsBelow}
use Rattle.iigs_meaning.specs.Room.CountsBelow.{none, one_more, no_more}

-- the same count under other names of its numbers
pub counts_at : (P : ℕ → Type 0) (limit other count number : ℕ) → limit ≡ other → count ≡ number → CountsBelow P limit count → CountsBelow P other number
counts_at P limit other count number limits counts holds =
    subst (λ (l : ℕ). CountsBelow P l number) limits (subst (λ (k : ℕ). CountsBelow P limit k) counts holds)

-- a property has one count
pub counts_once : (P : ℕ → Type 0) (limit p q : ℕ) → CountsBelow P limit p → CountsBelow P limit q → p ≡ q
counts_once P _ _ _ none none = refl
counts_once P _ _ _ (one_more limit p one has) (one_more _ q two has') = ap suc (counts_once P limit p q one two)
counts_once P _ _ _ (one_more limit p one has) (no_more _ q two has') = absurd (has' has)
counts_once P _ _ _ (no_more limit p one has) (one_more _ q two has') = absurd (has has')
counts_once P _ _ _ (no_more limit p one has) (no_more _ q two has') = counts_once P limit p q one two

-- properties that are the same below the limit have the same count
pub counts_same : (P Q : ℕ → Type 0) (limit count : ℕ) → CountsBelow P limit count → ((i : ℕ) → i < limit → P i ↔ Q i) → CountsBelow Q limit count
counts_same P Q _ _ none same = none
counts_same P Q _ _ (one_more limit count before has) same =
    one_more limit count (counts_same P Q limit count before (λ i less. same i (omega arith))) ((same limit (omega arith)).0 has)
counts_same P Q _ _ (no_more limit count before has) same =
    no_more limit count (counts_same P Q limit count before (λ i less. same i (omega arith))) (λ q. has ((same limit (omega arith)).1 q))

-- a run of numbers that all have it
pub counts_all : (P : ℕ → Type 0) (limit count len : ℕ) → CountsBelow P limit count → ((i : ℕ) → limit ≤ i → i < limit + len → P i) → CountsBelow P (limit + len) (count + len)
counts_all P limit count zero before all = counts_at P limit (limit + 0) count (count + 0) (omega arith) (omega arith) before
counts_all P limit count (suc len) before all =
    counts_at P (suc (limit + len)) (limit + suc len) (suc (count + len)) (count + suc len) (omega arith) (omega arith)
    (one_more (limit + len) (count + len) (counts_all P limit count len before (λ i from to. all i from (omega arith))) (all (limit + len) (omega arith) (omega arith)))

-- a run of numbers that all haven't
pub counts_none : (P : ℕ → Type 0) (limit count len : ℕ) → CountsBelow P limit count → ((i : ℕ) → limit ≤ i → i < limit + len → ¬ P i) → CountsBelow P (limit + len) count
counts_none P limit count zero before lacks = counts_at P limit (limit + 0) count count (omega arith) refl before
counts_none P limit count (suc len) before lacks =
    counts_at P (suc (limit + len)) (limit + suc len) count count (omega arith) refl
    (no_more (limit + len) count (counts_none P limit count len before (λ i from to. lacks i from (omega arith))) (lacks (limit + len) (omega arith) (omega arith)))

-- a part of the next numbers, from one up to another, has it
pub counts_window : (P : ℕ → Type 0) (start len low high count : ℕ) → low ≤ high → high ≤ len → CountsBelow P start count
    → ((i : ℕ) → start ≤ i → i < start + len → P i → (start + low ≤ i) × (i < start + high))
    → ((i : ℕ) → start + low ≤ i → i < start + high → P i)
    → CountsBelow P (start + len) (count + (high - low))
counts_window P start len low high count order within before only all =
    let one : CountsBelow P (start + low) count = counts_none P start count low before (λ i from to has. absurd (omega (arith, only i from (omega arith) has))) in
    let two : CountsBelow P (start + low + (high - low)) (count + (high - low)) = counts_all P (start + low) count (high - low) one (λ i from to. all i from (omega arith)) in
    let three : CountsBelow P (start + high) (count + (high - low)) = counts_at P (start + low + (high - low)) (start + high) (count + (high - low)) (count + (high - low)) (omega arith) refl two in
    let four : CountsBelow P (start + high + (len - high)) (count + (high - low)) = counts_none P (start + high) (count + (high - low)) (len - high) three
    (λ i from to has. absurd (omega (arith, only i (omega arith) (omega arith) has))) in
    counts_at P (start + high + (len - high)) (start + len) (count + (high - low)) (count + (high - low)) (omega arith) refl four

-- two properties of which no number has both
pub counts_either : (P Q : ℕ → Type 0) (limit p q : ℕ) → CountsBelow P limit p → CountsBelow Q limit q → ((i : ℕ) → P i → ¬ Q i) → CountsBelow (λ i. P i ⊎ Q i) limit (p + q)
counts_either P Q _ _ _ none none apart = none
counts_either P Q _ _ _ (one_more limit p one has) (one_more _ q two has') apart = absurd (apart limit has has')
counts_either P Q _ _ _ (one_more limit p one has) (no_more _ q two has') apart =
    counts_at (λ i. P i ⊎ Q i) (suc limit) (suc limit) (suc (p + q)) (suc p + q) refl (omega arith)
    (one_more limit (p + q) (counts_either P Q limit p q one two apart) (inl has))
counts_either P Q _ _ _ (no_more limit p one has) (one_more _ q two has') apart =
    counts_at (λ i. P i ⊎ Q i) (suc limit) (suc limit) (suc (p + q)) (p + suc q) refl (omega arith)
    (one_more limit (p + q) (counts_either P Q limit p q one two apart) (inr has'))
counts_either P Q _ _ _ (no_more limit p one has) (no_more _ q two has') apart =
    no_more limit (p + q) (counts_either P Q limit p q one two apart) (λ either. elim either [ inl a ↦ has a | inr b ↦ has' b ])

-- those of a property without those of a part of it
pub counts_without : (P Q : ℕ → Type 0) (limit p q : ℕ) → CountsBelow P limit p → CountsBelow Q limit q → ((i : ℕ) → Q i → P i)
    → (r : ℕ) × (r + q ≡ p) × CountsBelow (λ i. P i × ¬ Q i) limit r
counts_without P Q _ _ _ none none part = (0, omega arith, none)
counts_without P Q _ _ _ (one_more limit p one has) (one_more _ q two has') part =
    let rest = counts_without P Q limit p q one two part in
    (rest.0, omega (arith, rest.1), no_more limit rest.0 rest.2 (λ both. both.1 has'))
counts_without P Q _ _ _ (one_more limit p one has) (no_more _ q two has') part =
    let rest = counts_without P Q limit p q one two part in
    (suc rest.0, omega (arith, rest.1), one_more limit rest.0 rest.2 (has, has'))
counts_without P Q _ _ _ (no_more limit p one has) (one_more _ q two has') part = absurd (has (part limit has'))
counts_without P Q _ _ _ (no_more limit p one has) (no_more _ q two has') part =
    let rest = counts_without P Q limit p q one two part in
    (rest.0, rest.1, no_more limit rest.0 rest.2 (λ both. has both.0))
