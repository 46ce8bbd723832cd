-- What names have, as a function of the name.
use Rattle.std.specs.Prelude.{List, ℕ, bytes_eq, Option, Some, if◌then◌else◌}

-- these values with one more name
abbrev pub with_name : {A : Type 0} → List ℕ → A → (List ℕ → Option A) → List ℕ → Option A
with_name name value values asked = if bytes_eq name asked then Some value else values asked
