-- Lists whose items are changed one after the other.
use Rattle.std.proofs.Common.{◌≡◌, ℕ, ◌<◌, ◌≤◌, List, map, length, get_or, arith, sym, ◌∙◌}
use Rattle.std.proofs.lemmas.List.{get_or-map, same_lists, length-map}

module _ {X : Type 0} (f : X → X) where
  -- the items so far are changed, and the others aren't
  pub record SoFar (old now : List X) (n : ℕ) : Type 0 where
    pub len : length now ≡ length old
    pub changed : (k : ℕ) (d : X) → k < n → k < length old → get_or now k d ≡ f (get_or old k d)
    pub same : (k : ℕ) (d : X) → n ≤ k → get_or now k d ≡ get_or old k d

  -- all are changed
  pub so_far_all : (old now : List X) (n : ℕ) → SoFar old now n → length old ≤ n → now ≡ map f old
  so_far_all old now n so le = same_lists now (map f old) (so.len ∙ sym (length-map old f))
      (λ k d less. let inside : k < length old = omega (arith, so.len) in
      so.changed k d (omega arith) inside ∙ sym (get_or-map f old k d d inside))
