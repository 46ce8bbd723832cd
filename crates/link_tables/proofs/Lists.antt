-- Places in lists.
use Rattle.std.proofs.Common.{◌≡◌, ℕ, zero, suc, ◌+◌, ◌<◌, List, [], ◌∷◌, length, get_or, drop, Some, refl, sym, ap, ◌∙◌, arith, inl, inr, ◌≤◌, ◌++◌, take}
use Rattle.std.specs.Prelude.{slice_get}
use Rattle.link_meaning.specs.First.{IsIn}

-- the items from a place on
pub drop_at : {A : Type 0} → (xs : List A) (k : ℕ) (x : A) → slice_get xs k ≡ Some x → drop k xs ≡ x ∷ drop (k + 1) xs
drop_at [] k x e = absurd cc
drop_at {A} (y ∷ xs) zero x e = let same : y ≡ x = cc in ap (λ (z : A). z ∷ xs) same
drop_at {A} (y ∷ xs) (suc k) x e =
    let next : suc k + 1 ≡ suc (k + 1) = omega arith in
    drop_at xs k x e ∙ ap (λ (n : ℕ). x ∷ drop n (y ∷ xs)) (sym next)

pub empty : {A : Type 0} → (xs : List A) → length xs ≡ 0 → xs ≡ []
empty [] e = refl
empty (x ∷ xs) e = absurd (omega (arith, e))

pub not_empty : {A : Type 0} → (xs : List A) → (length xs ≡ 0 → ⊥) → xs ≡ [] → ⊥
not_empty xs some e = some (ap length e)

pub drop_twice : {A : Type 0} → (a b : ℕ) (xs : List A) → drop (a + b) xs ≡ drop b (drop a xs)
drop_twice zero b xs = let same : 0 + b ≡ b = omega arith in ap (λ (n : ℕ). drop n xs) same
drop_twice (suc a) b [] = drop_none (suc a + b) ∙ sym (drop_none b)
  where
    drop_none : {A : Type 0} → (n : ℕ) → drop {A = A} n [] ≡ []
    drop_none zero = refl
    drop_none (suc n) = refl
drop_twice (suc a) b (x ∷ xs) =
    let same : suc a + b ≡ suc (a + b) = omega arith in
    ap (λ (n : ℕ). drop n (x ∷ xs)) same ∙ drop_twice a b xs

pub drop_or : {A : Type 0} → (xs : List A) (k : ℕ) (d : A) → k < length xs → drop k xs ≡ get_or xs k d ∷ drop (k + 1) xs
drop_or [] k d less = absurd (omega arith)
drop_or (x ∷ xs) zero d less = refl
drop_or {A} (x ∷ xs) (suc k) d less =
    let next : suc k + 1 ≡ suc (k + 1) = omega arith in
    drop_or xs k d (omega arith) ∙ ap (λ (n : ℕ). get_or xs k d ∷ drop n (x ∷ xs)) (sym next)

pub within_length : {A : Type 0} → (xs : List A) (k : ℕ) (x : A) → slice_get xs k ≡ Some x → k < length xs
within_length [] k x e = absurd cc
within_length (y ∷ xs) zero x e = omega arith
within_length (y ∷ xs) (suc k) x e = let rest = within_length xs k x e in omega arith

pub in_at : {A : Type 0} → (xs : List A) (k : ℕ) (x : A) → slice_get xs k ≡ Some x → IsIn xs x
in_at [] k x e = absurd cc
in_at {A} (y ∷ xs) zero x e = let same : y ≡ x = cc in inl same
in_at (y ∷ xs) (suc k) x e = inr (in_at xs k x e)

pub take_more : {A : Type 0} → (xs : List A) (k : ℕ) (x : A) → slice_get xs k ≡ Some x → take (k + 1) xs ≡ take k xs ++ x ∷ []
take_more [] k x e = absurd cc
take_more {A} (y ∷ xs) zero x e = let same : y ≡ x = cc in ap (λ (z : A). z ∷ []) same
take_more {A} (y ∷ xs) (suc k) x e =
    let next : suc k + 1 ≡ suc (k + 1) = omega arith in
    ap (λ (n : ℕ). take n (y ∷ xs)) next ∙ ap (λ (l : List A). y ∷ l) (take_more xs k x e)

pub take_all : {A : Type 0} → (xs : List A) (n : ℕ) → length xs ≤ n → take n xs ≡ xs
take_all [] zero less = refl
take_all [] (suc n) less = refl
take_all (x ∷ xs) zero less = absurd (omega arith)
take_all {A} (x ∷ xs) (suc n) less = ap (λ (l : List A). x ∷ l) (take_all xs n (omega arith))
