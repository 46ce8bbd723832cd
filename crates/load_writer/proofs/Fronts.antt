-- The start of a list to which something was appended.
use Rattle.std.proofs.Common.{◌≡◌, ℕ, List, [], ◌++◌, length, take, sym, ap, ◌∙◌, append_assoc}
use Rattle.std.proofs.lemmas.List.{append-nil}
use Rattle.std.proofs.Math.Seq.{take-append_seam}
use Rattle.load_writer.specs.WrittenParts.{IsFront}

-- a list is a prefix of itself
pub front_whole : (xs ys : List ℕ) → ys ≡ xs → IsFront xs ys
front_whole xs ys e = ([], e ∙ sym (append-nil xs))

-- a prefix of a prefix is a prefix
pub front_after : (xs ys zs : List ℕ) → IsFront xs ys → IsFront ys zs → IsFront xs zs
front_after xs ys zs f g = (f.0 ++ g.0, g.1 ∙ ap (λ (l : List ℕ). l ++ g.0) f.1 ∙ append_assoc xs f.0 g.0)

-- what is left where all after the prefix is cut off
pub front_left : (n : ℕ) (xs ys zs : List ℕ) → n ≡ length xs → IsFront xs ys → zs ≡ take n ys → zs ≡ xs
front_left n xs ys zs size f e = e ∙ ap (λ (k : ℕ). take k ys) size ∙ ap (take (length xs)) f.1 ∙ take-append_seam xs f.0
