-- Lists that are gathered item by item, and facts of each item of such a list.
use Rattle.std.proofs.Common.{◌≡◌, ℕ, Bool, false, cond, suc, ◌+◌, ◌<◌, ◌≤◌, List, [], ◌∷◌, ◌++◌, take, length, get_or, Option, Some, None, All, count_by, arith, refl, ap, sym, ◌∙◌}
use Rattle.std.specs.List.{filter_map, cons_option}
use Rattle.std.specs.Option.{option_to_list, option_map_or, IfSome}
use Rattle.std.proofs.lemmas.List.Elements.{filter_map-append, All-cons, All-head, All-tail}
use Rattle.std.proofs.lemmas.List.Sums.{sum_by-cons}
use Rattle.std.proofs.lemmas.List.{take_more}

module _ {X Y : Type 0} (f : X → Option Y) where
  one_more : (o : Option Y) (x : X) → f x ≡ o → filter_map f (x ∷ []) ≡ option_to_list o
  one_more None x e = rw e refl
  one_more (Some y) x e = rw e refl

  -- one item more
  pub filter_map_more : (xs : List X) (i : ℕ) (d : X) → i < length xs
      → filter_map f (take (i + 1) xs) ≡ filter_map f (take i xs) ++ option_to_list (f (get_or xs i d))
  filter_map_more xs i d inside = rw (take_more xs i d inside) (filter_map-append f (take i xs) (get_or xs i d ∷ [])
      ∙ ap (λ ys. filter_map f (take i xs) ++ ys) (one_more (f (get_or xs i d)) (get_or xs i d) refl))

  length-cons_option : (o : Option Y) (ys : List Y) (n : ℕ) → length ys ≤ n → length (cons_option o ys) ≤ suc n
  length-cons_option None ys n le = omega arith
  length-cons_option (Some y) ys n le = omega arith

  pub length-filter_map : (xs : List X) → length (filter_map f xs) ≤ length xs
  length-filter_map [] = omega arith
  length-filter_map (x ∷ xs) = length-cons_option (f x) (filter_map f xs) (length xs) (length-filter_map xs)

  All-cons_option : (P : Y → Type 0) (o : Option Y) (ys : List Y) → IfSome o P → All P ys → All P (cons_option o ys)
  All-cons_option P None ys one all = all
  All-cons_option P (Some y) ys one all = All-cons P y ys one all

  -- a fact of each item that was gathered
  pub All-gathered : (P : Y → Type 0) (xs : List X) → All (λ x. IfSome (f x) P) xs → All P (filter_map f xs)
  All-gathered P [] all = λ k d inside. absurd (omega arith)
  All-gathered P (x ∷ xs) all = All-cons_option P (f x) (filter_map f xs) (All-head (λ x. IfSome (f x) P) x xs all)
      (All-gathered P xs (All-tail (λ x. IfSome (f x) P) x xs all))

  one_of : (P : Y → Type 0) (o : Option Y) (ys : List Y) → All P (cons_option o ys) → IfSome o P
  one_of P None ys all = tt
  one_of P (Some y) ys all = All-head P y ys all

  rest_of : (P : Y → Type 0) (o : Option Y) (ys : List Y) → All P (cons_option o ys) → All P ys
  rest_of P None ys all = all
  rest_of P (Some y) ys all = All-tail P y ys all

  pub All-from_gathered : (P : Y → Type 0) (xs : List X) → All P (filter_map f xs) → All (λ x. IfSome (f x) P) xs
  All-from_gathered P [] all = λ k d inside. absurd (omega arith)
  All-from_gathered P (x ∷ xs) all = All-cons (λ x. IfSome (f x) P) x xs (one_of P (f x) (filter_map f xs) all)
      (All-from_gathered P xs (rest_of P (f x) (filter_map f xs) all))

  count-cons_option : (p : Y → Bool) (o : Option Y) (ys : List Y) → count_by p (cons_option o ys) ≡ cond (option_map_or p o false) 1 0 + count_by p ys
  count-cons_option p None ys = omega arith
  count-cons_option p (Some y) ys = sum_by-cons (λ y. cond (p y) 1 0) y ys

  -- how many of them pass
  pub count-gathered : (p : Y → Bool) (xs : List X) → count_by p (filter_map f xs) ≡ count_by (λ x. option_map_or p (f x) false) xs
  count-gathered p [] = refl
  count-gathered p (x ∷ xs) = count-cons_option p (f x) (filter_map f xs)
      ∙ ap (λ n. cond (option_map_or p (f x) false) 1 0 + n) (count-gathered p xs)
      ∙ sym (sum_by-cons (λ x. cond (option_map_or p (f x) false) 1 0) x xs)
