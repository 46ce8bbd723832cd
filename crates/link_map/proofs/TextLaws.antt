-- Numbered texts of the first items.
use Rattle.std.proofs.Common.{◌≡◌, ℕ, zero, suc, ◌+◌, ◌<◌, ◌≤◌, List, [], ◌∷◌, ◌++◌, length, take, Option, Some, None, refl, sym, ap, ◌∙◌, append_assoc, append-nil, arith}
use Rattle.std.specs.Prelude.{slice_get}
use Rattle.std.proofs.lemmas.List.{take_all}
use Rattle.link_map.specs.MapText.{numbered_texts}

abbrev value_or : {A : Type 0} → A → Option A → A
value_or d None = d
value_or d (Some x) = x

pub same_some : {A : Type 0} (x y : A) → Some x ≡ Some y → x ≡ y
same_some x y e = ap (value_or x) e

pub some_none : {A : Type 0} (x : A) → Some x ≡ None → ⊥
some_none x e = cc

-- the item at a place below the length
pub item_there : {A : Type 0} (xs : List A) (k : ℕ) → k < length xs → (x : A) × (slice_get xs k ≡ Some x)
item_there [] k less = absurd (omega (arith, less))
item_there (x ∷ xs) zero less = (x, refl)
item_there (x ∷ xs) (suc k) less = item_there xs k (omega (arith, less))

-- the text of one more
numbered-more : {A : Type 0} (text_of : ℕ → A → List ℕ) (number k : ℕ) (xs : List A) (x : A) → slice_get xs k ≡ Some x
    → numbered_texts text_of number (take k xs) ++ text_of (number + k) x ≡ numbered_texts text_of number (take (k + 1) xs)
numbered-more text_of number k [] x found = absurd (some_none x (sym found))
numbered-more text_of number zero (y ∷ xs) x found =
    let at : number + 0 ≡ number = omega arith in
    ap (λ (n : ℕ). text_of n x) at ∙ ap (text_of number) (sym (same_some y x found)) ∙ sym (append-nil (text_of number y))
numbered-more {A} text_of number (suc k) (y ∷ xs) x found =
    let more : suc k + 1 ≡ suc (k + 1) = omega arith in
    let next : number + suc k ≡ number + 1 + k = omega arith in
    append_assoc (text_of number y) (numbered_texts text_of (number + 1) (take k xs)) (text_of (number + suc k) x)
    ∙ ap (λ (n : ℕ). text_of number y ++ (numbered_texts text_of (number + 1) (take k xs) ++ text_of n x)) next
    ∙ ap (λ (l : List ℕ). text_of number y ++ l) (numbered-more text_of (number + 1) k xs x found)
    ∙ ap (λ (n : ℕ). numbered_texts text_of number (take n (y ∷ xs))) (sym more)

-- after a text, those of the first items: of none
pub reported_none : {A : Type 0} (text_of : ℕ → A → List ℕ) (number : ℕ) (xs : List A) (before : List ℕ) → before ≡ before ++ numbered_texts text_of number (take 0 xs)
reported_none text_of number [] before = sym (append-nil before)
reported_none text_of number (x ∷ xs) before = sym (append-nil before)

-- of one more
pub reported_more : {A : Type 0} (text_of : ℕ → A → List ℕ) (number k at : ℕ) (xs : List A) (x : A) (before text after : List ℕ) → slice_get xs k ≡ Some x → at ≡ number + k
    → text ≡ before ++ numbered_texts text_of number (take k xs) → after ≡ text ++ text_of at x → after ≡ before ++ numbered_texts text_of number (take (k + 1) xs)
reported_more text_of number k at xs x before text after found place is more =
    let so_far = numbered_texts text_of number (take k xs) in
    more
    ∙ ap (λ (l : List ℕ). l ++ text_of at x) is
    ∙ append_assoc before so_far (text_of at x)
    ∙ ap (λ (n : ℕ). before ++ (so_far ++ text_of n x)) place
    ∙ ap (λ (l : List ℕ). before ++ l) (numbered-more text_of number k xs x found)

-- of all
pub reported_all : {A : Type 0} (text_of : ℕ → A → List ℕ) (number k : ℕ) (xs : List A) (before text : List ℕ) → length xs ≤ k
    → text ≡ before ++ numbered_texts text_of number (take k xs) → text ≡ before ++ numbered_texts text_of number xs
reported_all {A} text_of number k xs before text most is = is ∙ ap (λ (l : List A). before ++ numbered_texts text_of number l) (take_all k xs most)

-- ---- texts after a text

-- what is appended to a text, in two pieces
pub both : (before one other text after : List ℕ) → text ≡ before ++ one → after ≡ text ++ other → after ≡ before ++ (one ++ other)
both before one other text after is more = more ∙ ap (λ (l : List ℕ). l ++ other) is ∙ append_assoc before one other

-- what is nothing
pub nothing : (before none : List ℕ) → none ≡ [] → before ≡ before ++ none
nothing before none is = sym (append-nil before) ∙ ap (λ (l : List ℕ). before ++ l) (sym is)
