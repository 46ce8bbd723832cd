-- Lists that aren't empty, and what is left of a list.
use Rattle.std.proofs.Common.{◌≡◌, ◌≢◌, ℕ, ◌+◌, ◌<◌, false, eqb, List, [], ◌∷◌, length, get_or, drop, sym, ap, ◌∙◌}
use Rattle.std.proofs.lemmas.List.{at_drop_more}

pub some_list : (l : List ℕ) → eqb (length l) 0 ≡ false → l ≢ []
some_list [] is e = absurd cc
some_list (x ∷ l) is e = absurd cc

-- what is left starts with the next element
pub next_is : {X Y : Type 0} (f : List X → Y) (xs : List X) (i : ℕ) (x : X) → i < length xs → x ≡ get_or xs i x → f (drop i xs) ≡ f (x ∷ drop (i + 1) xs)
next_is {X = X} f xs i x less is = at_drop_more f xs i x less ∙ ap (λ (y : X). f (y ∷ drop (i + 1) xs)) (sym is)
