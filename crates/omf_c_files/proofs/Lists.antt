-- A list that is filled from its start.
use Rattle.std.proofs.Common.{◌≡◌, ℕ, ◌+◌, ◌<◌, List, [], ◌∷◌, ◌++◌, length, map, take, drop, set, Some, sym, ap, ◌∙◌, arith}
use Rattle.std.specs.Prelude.{slice_get}
use Rattle.std.proofs.lemmas.List.{take_more, take_more_set, drop-set-lt, drop-drop, length-set, map-append}
use Rattle.std.proofs.lemmas.Option.{slice_get_within, get_or_from_slice_get}

take_next : {X : Type 0} (xs : List X) (k : ℕ) (x : X) → slice_get xs k ≡ Some x → take (k + 1) xs ≡ take k xs ++ x ∷ []
take_next {X = X} xs k x is = take_more xs k x (slice_get_within xs k x is) ∙ ap (λ (y : X). take k xs ++ y ∷ []) (get_or_from_slice_get xs k x x is)

-- the next item of a list whose items are put, each converted, at the start of a room
pub put_next : {X Y : Type 0} (f : X → Y) (xs : List X) (room old : List Y) (k : ℕ) (x : X) (y : Y) → y ≡ f x → slice_get xs k ≡ Some x → k < length room
    → (length room ≡ length old) × (take k room ≡ map f (take k xs)) × (drop k room ≡ drop k old)
    → (length (set room k y) ≡ length old) × (take (k + 1) (set room k y) ≡ map f (take (k + 1) xs)) × (drop (k + 1) (set room k y) ≡ drop (k + 1) old)
put_next {Y = Y} f xs room old k x y same found inside is =
    let less : k < k + 1 = omega arith in
    let front = ap (λ (l : List Y). l ++ y ∷ []) is.1 ∙ ap (λ (z : Y). map f (take k xs) ++ z ∷ []) same ∙ sym (map-append f (take k xs) (x ∷ [])) ∙ sym (ap (map f) (take_next xs k x found)) in
    let following = sym (drop-drop 1 k room) ∙ ap (drop 1) is.2 ∙ drop-drop 1 k old in
    (length-set room k y ∙ is.0, take_more_set room k y inside ∙ front, drop-set-lt (k + 1) room k y less ∙ following)
