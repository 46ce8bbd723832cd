-- What can be decided, and the first of a list that has something.
use Rattle.std.proofs.Common.{◌≡◌, ◌⊎◌, inl, inr, Bool, true, false, List, [], ◌∷◌, ◌++◌, refl, sym, subst, ◌∙◌, append_assoc}
use Rattle.std.proofs.lemmas.List.{append-nil}
use Rattle.link_meaning.specs.First.{IsFirst, HasNone, IsIn}
use Rattle.link_meaning.specs.laws.FirstLaws.{none_yet, none_more}

abbrev pub Decided : Type 0 → Type 0
Decided P = P ⊎ (P → ⊥)

pub is_it : (b : Bool) → Decided (b ≡ true)
is_it true = inl refl
is_it false = inr (λ e. cc)

-- one of the list has the property, or none
pub search : {A : Type 0} (P : A → Type 0) (xs : List A) → ((x : A) → IsIn xs x → Decided (P x)) → ((x : A) × IsIn xs x × P x) ⊎ ((x : A) → IsIn xs x → P x → ⊥)
search P [] decide = inr (λ x is p. absurd is)
search {A = A} P (x ∷ xs) decide = by_head (decide x (inl refl)) (search P xs (λ y is. decide y (inr is)))
  where
    by_head : Decided (P x) → ((y : A) × IsIn xs y × P y) ⊎ ((y : A) → IsIn xs y → P y → ⊥) → ((y : A) × IsIn (x ∷ xs) y × P y) ⊎ ((y : A) → IsIn (x ∷ xs) y → P y → ⊥)
    by_head (inl p) rest = inl (x, inl refl, p)
    by_head (inr refuted) (inl found) = inl (found.0, inr found.1, found.2)
    by_head (inr refuted) (inr none) = inr (λ y is p. elim is [
      | inl e ↦ refuted (subst P (sym e) p)
      | inr more ↦ none y more p
    ])

-- an item has something, or nothing
abbrev pub HasOrNot : {A B : Type 0} → (List A → A → B → Type 0) → List A → A → Type 0
HasOrNot {A} {B} Has before item = ((what : B) × Has before item what) ⊎ ((what : B) → Has before item what → ⊥)

-- there is a first, or there is none
abbrev pub FirstOrNone : {A B : Type 0} → (List A → A → B → Type 0) → List A → Type 0
FirstOrNone {A} {B} Has items = ((what : B) × IsFirst Has items what) ⊎ HasNone Has items

first_from : {A B : Type 0} (Has : List A → A → B → Type 0) (items before rest : List A) → items ≡ before ++ rest → HasNone Has before
    → ((before : List A) (item : A) (following : List A) → items ≡ before ++ item ∷ following → HasOrNot Has before item) → FirstOrNone Has items
first_from Has items before [] e none decide = inr (subst (HasNone Has) (sym (e ∙ append-nil before)) none)
first_from {A = A} {B = B} Has items before (x ∷ rest) e none decide =
    by_item (decide before x rest e) (λ none'. first_from Has items (before ++ x ∷ []) rest (e ∙ sym (append_assoc before (x ∷ []) rest)) none' decide)
  where
    by_item : HasOrNot Has before x → (HasNone Has (before ++ x ∷ []) → FirstOrNone Has items) → FirstOrNone Has items
    by_item (inl has) later = inl (has.0, record { before = before; item = x; after = rest; parts = e; none = none; here = has.1 })
    by_item (inr refuted) later = later (none_more Has before x none refuted)

pub first_or_none : {A B : Type 0} (Has : List A → A → B → Type 0) (items : List A)
    → ((before : List A) (item : A) (following : List A) → items ≡ before ++ item ∷ following → HasOrNot Has before item) → FirstOrNone Has items
first_or_none Has items decide = first_from Has items [] items refl (none_yet Has) decide

-- where there is none, there is no first
pub no_first : {A B : Type 0} (Has : List A → A → B → Type 0) (items : List A) (what : B) → HasNone Has items → IsFirst Has items what → ⊥
no_first Has items what none is = none is.before is.item is.after what is.parts is.here

-- an item of a list is in it
pub is_in_middle : {A : Type 0} (before : List A) (x : A) (following : List A) → IsIn (before ++ x ∷ following) x
is_in_middle [] x following = inl refl
is_in_middle (y ∷ before) x following = inr (is_in_middle before x following)
