-- Cells so far, and those of the records that remain.
use Rattle.std.proofs.Common.{◌≡◌, ℕ, ◌+◌, ◌≤◌, ◌^◌, Bool, Option, List, [], ◌∷◌, Some, None, sym, ap, arith}
use Rattle.std.specs.Prelude.{if◌then◌else◌}
use Rattle.std.proofs.lemmas.Bool.{le-ltb}
use Rattle.omf_format.specs.Record.{Record}
use Rattle.object_meaning.specs.Sizes.{size_at, place_after}
use Rattle.link_tables.specs.Sizes.{in_32_bits}

-- no record makes it less
pub grows : (at : ℕ) (founds : List (ℕ × Record)) → at ≤ place_after at founds
grows at [] = omega arith
grows at (found ∷ founds) = omega (arith, grows (at + size_at at found.1) founds)

abbrev pub nothing : Option ℕ
nothing = None

abbrev pub choice : ℕ → Bool → Option ℕ
choice n b = if b then Some n else None

pub past_32 : (n : ℕ) → 2 ^ 32 ≤ n → nothing ≡ in_32_bits n
past_32 n past = sym (ap (choice n) (le-ltb n (2 ^ 32) past))
