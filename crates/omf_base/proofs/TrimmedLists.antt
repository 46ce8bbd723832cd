-- One item more at the end of a list, and what is left without the trailing ones.
use Rattle.std.proofs.Common.{◌≡◌, ℕ, ◌+◌, ◌-◌, ◌<◌, ◌≤◌, Bool, true, false, eqb, List, [], ◌∷◌, ◌++◌, length, get_or, take, refl, sym, ap, ◌∙◌, arith}
use Rattle.std.specs.Prelude.{◌&&◌}
use Rattle.std.specs.List.{list_all}
use Rattle.std.proofs.lemmas.Bool.{eq-eqb, ne_eqb}
use Rattle.std.proofs.lemmas.List.{take_more}
use Rattle.omf_format.specs.Name.{without_trailing}

and-assoc : (p q r : Bool) → (p && (q && r)) ≡ ((p && q) && r)
and-assoc true q r = refl
and-assoc false q r = refl

and-true : (p : Bool) → (p && true) ≡ p
and-true true = refl
and-true false = refl

and-false : (p : Bool) → (p && false) ≡ false
and-false true = refl
and-false false = refl

all-push : (b c : ℕ) (xs : List ℕ) → list_all (λ y. eqb y b) (xs ++ c ∷ []) ≡ (list_all (λ y. eqb y b) xs && eqb c b)
all-push b c [] = and-true (eqb c b)
all-push b c (x ∷ xs) = ap (λ (r : Bool). eqb x b && r) (all-push b c xs) ∙ and-assoc (eqb x b) (list_all (λ y. eqb y b) xs) (eqb c b)

pub push-same : (b c : ℕ) (xs : List ℕ) → c ≡ b → without_trailing b (xs ++ c ∷ []) ≡ without_trailing b xs
push-same b c [] e = let same = eq-eqb c b e in rw same refl
push-same b c (x ∷ xs) e =
    let whole : list_all (λ y. eqb y b) (x ∷ xs ++ c ∷ []) ≡ list_all (λ y. eqb y b) (x ∷ xs) =
    all-push b c (x ∷ xs) ∙ ap (λ (r : Bool). list_all (λ y. eqb y b) (x ∷ xs) && r) (eq-eqb c b e) ∙ and-true (list_all (λ y. eqb y b) (x ∷ xs)) in
    rw (whole, push-same b c xs e) refl

pub push-other : (b c : ℕ) (xs : List ℕ) → (c ≡ b → ⊥) → without_trailing b (xs ++ c ∷ []) ≡ xs ++ c ∷ []
push-other b c [] ne = let other = ne_eqb c b ne in rw other refl
push-other b c (x ∷ xs) ne =
    let whole : list_all (λ y. eqb y b) (x ∷ xs ++ c ∷ []) ≡ false =
    all-push b c (x ∷ xs) ∙ ap (λ (r : Bool). list_all (λ y. eqb y b) (x ∷ xs) && r) (ne_eqb c b ne) ∙ and-false (list_all (λ y. eqb y b) (x ∷ xs)) in
    rw (whole, push-other b c xs ne) refl

-- a prefix whose last item is b
pub trim-step : (b n : ℕ) (xs : List ℕ) → 0 < n → n ≤ length xs → get_or xs (n - 1) 0 ≡ b → without_trailing b (take (n - 1) xs) ≡ without_trailing b (take n xs)
trim-step b n xs some le is =
    let more : n - 1 + 1 ≡ n = omega arith in
    let split : take n xs ≡ take (n - 1) xs ++ get_or xs (n - 1) 0 ∷ [] = ap (λ (k : ℕ). take k xs) (sym more) ∙ take_more xs (n - 1) 0 (omega arith) in
    rw split (sym (push-same b (get_or xs (n - 1) 0) (take (n - 1) xs) is))

-- a prefix, not empty, whose last item isn't b
pub trim-end : (b n : ℕ) (xs : List ℕ) → 0 < n → n ≤ length xs → (get_or xs (n - 1) 0 ≡ b → ⊥) → without_trailing b (take n xs) ≡ take n xs
trim-end b n xs some le other =
    let more : n - 1 + 1 ≡ n = omega arith in
    let split : take n xs ≡ take (n - 1) xs ++ get_or xs (n - 1) 0 ∷ [] = ap (λ (k : ℕ). take k xs) (sym more) ∙ take_more xs (n - 1) 0 (omega arith) in
    rw split (push-other b (get_or xs (n - 1) 0) (take (n - 1) xs) other)

-- an empty prefix
pub trim-none : (b n : ℕ) (xs : List ℕ) → n ≡ 0 → take n xs ≡ without_trailing b (take n xs)
trim-none b n xs e = rw e refl
