-- The name of the count of calls.
use Rattle.std.proofs.Common.{◌≡◌, ◌≢◌, ℕ, Bool, true, false, List, length, refl, sym, ap}
use Rattle.std.specs.Prelude.{bytes_eq}
use Rattle.std.specs.Cmp.Lexicographic.{bytes_decides}
use Rattle.macro_meaning.specs.Symbol.{is_count}
use Rattle.macro_meaning.specs.laws.Steps.{count_name}

pub other_length : (name : List ℕ) → length name ≢ 6 → false ≡ is_count name
other_length name other = by_test (bytes_eq count_name name) refl
  where
    by_test : (b : Bool) → bytes_eq count_name name ≡ b → false ≡ b
    by_test false is = refl
    by_test true is = absurd (other (sym (ap length ((bytes_decides count_name name).0 is))))
