-- The prefix of what is left, where it is shorter than the limit, is all of it.
use Rattle.std.proofs.Common.{◌≡◌, ℕ, ◌+◌, ◌≤◌, List, length, take, Option, None, Some, IfSome, ap, ◌∙◌, arith}
use Rattle.std.specs.Option.{option_map}
use Rattle.std.proofs.lemmas.List.{take_all, length-take}

pub whole_front : (known : Option (List ℕ)) (limit : ℕ) (bytes : List ℕ) → IfSome (option_map (take (limit + 1)) known) (λ front. bytes ≡ front) → length bytes ≤ limit → IfSome known (λ left. bytes ≡ left)
whole_front None limit bytes is short = tt
whole_front (Some left) limit bytes is short =
    let size = ap length is ∙ length-take (limit + 1) left in
    let few : length left ≤ limit + 1 = omega (arith, size, short) in
    is ∙ take_all (limit + 1) left few
