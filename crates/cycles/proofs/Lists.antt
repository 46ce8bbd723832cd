-- Items of lists by their numbers.
use Rattle.std.proofs.Common.{◌≡◌, ℕ, zero, suc, ◌+◌, ◌-◌, ◌≤◌, List, [], ◌∷◌, ◌++◌, length, take, drop, Some, ◌⊎◌, inl, inr, refl, ap, subst, ◌∙◌, arith}
use Rattle.std.specs.Prelude.{slice_get}
use Rattle.std.proofs.lemmas.List.{length-append}
use Rattle.cycles.specs.Graphs.{IsIn, at_or}
use Rattle.cycles.specs.Kept.{ends_of, Fits, AllFit, rows_in}
use Rattle.cycles.specs.declared.graph.EdgeSpan.{EdgeSpan}

some_same : {A : Type 0} (x y : A) → Some x ≡ Some y → x ≡ y
some_same x y e = cc

pub at_some : {A : Type 0} (other : A) (xs : List A) (k : ℕ) (x : A) → slice_get xs k ≡ Some x → at_or other xs k ≡ x
at_some other [] k x e = absurd cc
at_some other (y ∷ xs) zero x e = some_same y x e
at_some other (y ∷ xs) (suc k) x e = at_some other xs k x e

pub at_none : {A : Type 0} (other : A) (xs : List A) (k : ℕ) → length xs ≤ k → at_or other xs k ≡ other
at_none other [] k past = refl
at_none other (y ∷ xs) zero past = absurd (omega (arith, past))
at_none other (y ∷ xs) (suc k) past = at_none other xs k (omega (arith, past))

pub in_at : (xs : List ℕ) (k x : ℕ) → slice_get xs k ≡ Some x → IsIn xs x
in_at [] k x e = absurd cc
in_at (y ∷ xs) zero x e = inl (some_same y x e)
in_at (y ∷ xs) (suc k) x e = inr (in_at xs k x e)

pub in_front : (xs ys : List ℕ) (x : ℕ) → IsIn xs x → IsIn (xs ++ ys) x
in_front [] ys x is = absurd is
in_front (y ∷ xs) ys x (inl e) = inl e
in_front (y ∷ xs) ys x (inr more) = inr (in_front xs ys x more)

pub in_last : (xs : List ℕ) (x : ℕ) → IsIn (xs ++ x ∷ []) x
in_last [] x = inl refl
in_last (y ∷ xs) x = inr (in_last xs x)

pub in_pushed : (xs : List ℕ) (y x : ℕ) → IsIn (xs ++ y ∷ []) x → IsIn xs x ⊎ (y ≡ x)
in_pushed [] y x (inl e) = inr e
in_pushed [] y x (inr more) = absurd more
in_pushed (z ∷ xs) y x (inl e) = inl (inl e)
in_pushed (z ∷ xs) y x (inr more) = elim (in_pushed xs y x more) [
  | inl h ↦ inl (inr h)
  | inr h ↦ inr h
]

-- ---- rows

front_same : (ends row : List ℕ) (from n : ℕ) → from + n ≤ length ends → take n (drop from (ends ++ row)) ≡ take n (drop from ends)
front_same ends row zero n within = front ends n (omega (arith, within))
  where
    front : (xs : List ℕ) (n : ℕ) → n ≤ length xs → take n (xs ++ row) ≡ take n xs
    front xs zero le = refl
    front [] (suc n) le = absurd (omega (arith, le))
    front (x ∷ xs) (suc n) le = ap (λ (l : List ℕ). x ∷ l) (front xs n (omega (arith, le)))
front_same [] row (suc from) n within = absurd (omega (arith, within))
front_same (x ∷ ends) row (suc from) n within = front_same ends row from n (omega (arith, within))

row_same : (ends row : List ℕ) (span : EdgeSpan) → Fits ends span → ends_of (ends ++ row) span ≡ ends_of ends span
row_same ends row span fits = front_same ends row span.from (span.to - span.from) (omega (arith, fits.ordered, fits.within))

pub fit_more : (ends row : List ℕ) (spans : List EdgeSpan) → AllFit ends spans → AllFit (ends ++ row) spans
fit_more ends row [] fit = tt
fit_more ends row (span ∷ spans) fit =
    (record { ordered = fit.0.ordered; within = omega (arith, fit.0.within, length-append ends row) }, fit_more ends row spans fit.1)

pub fit_one : (ends : List ℕ) (spans : List EdgeSpan) (span : EdgeSpan) → AllFit ends spans → Fits ends span → AllFit ends (spans ++ span ∷ [])
fit_one ends [] span fit one = (one, tt)
fit_one ends (x ∷ spans) span fit one = (fit.0, fit_one ends spans span fit.1 one)

new_row : (ends row : List ℕ) → take (length (ends ++ row) - length ends) (drop (length ends) (ends ++ row)) ≡ row
new_row [] row = let n : length row - 0 ≡ length row = omega arith in ap (λ (k : ℕ). take k row) n ∙ all row
  where
    all : (xs : List ℕ) → take (length xs) xs ≡ xs
    all [] = refl
    all (x ∷ xs) = ap (λ (l : List ℕ). x ∷ l) (all xs)
new_row (x ∷ ends) row =
    let n : length (x ∷ (ends ++ row)) - length (x ∷ ends) ≡ length (ends ++ row) - length ends = omega arith in
    ap (λ (k : ℕ). take k (drop (length ends) (ends ++ row))) n ∙ new_row ends row

-- a row more
pub row_more : (ends row : List ℕ) (spans : List EdgeSpan) (span : EdgeSpan) → AllFit ends spans → span.from ≡ length ends → span.to ≡ length (ends ++ row)
    → rows_in (ends ++ row) (spans ++ span ∷ []) ≡ rows_in ends spans ++ row ∷ []
row_more ends row [] span fit from to =
    ap (λ (n : ℕ). take (n - span.from) (drop span.from (ends ++ row)) ∷ []) to
    ∙ ap (λ (n : ℕ). take (length (ends ++ row) - n) (drop n (ends ++ row)) ∷ []) from
    ∙ ap (λ (r : List ℕ). r ∷ []) (new_row ends row)
row_more ends row (x ∷ spans) span fit from to =
    ap (λ (r : List ℕ). r ∷ rows_in (ends ++ row) (spans ++ span ∷ [])) (row_same ends row x fit.0)
    ∙ ap (λ (l : List (List ℕ)). ends_of ends x ∷ l) (row_more ends row spans span fit.1 from to)

pub fits_at : (ends : List ℕ) (spans : List EdgeSpan) (k : ℕ) (span : EdgeSpan) → AllFit ends spans → slice_get spans k ≡ Some span → Fits ends span
fits_at ends [] k span fit e = absurd cc
fits_at ends (x ∷ spans) zero span fit e = subst (Fits ends) (some_same x span e) fit.0
fits_at ends (x ∷ spans) (suc k) span fit e = fits_at ends spans k span fit.1 e

pub row_there : (ends : List ℕ) (spans : List EdgeSpan) (k : ℕ) (span : EdgeSpan) → slice_get spans k ≡ Some span → at_or [] (rows_in ends spans) k ≡ ends_of ends span
row_there ends [] k span e = absurd cc
row_there ends (x ∷ spans) zero span e = ap (ends_of ends) (some_same x span e)
row_there ends (x ∷ spans) (suc k) span e = row_there ends spans k span e

pub row_gone : (ends : List ℕ) (spans : List EdgeSpan) (k : ℕ) → length spans ≤ k → at_or [] (rows_in ends spans) k ≡ []
row_gone ends [] k past = refl
row_gone ends (x ∷ spans) zero past = absurd (omega (arith, past))
row_gone ends (x ∷ spans) (suc k) past = row_gone ends spans k (omega (arith, past))
