-- What every list of banks keeps.
use Rattle.std.specs.Prelude.{ℕ, ◌≤◌, List, length}

-- 1 to 256 of them
pub record AreBanks (banks : List ℕ) : Type 0 where
  pub some : 1 ≤ length banks
  pub few : length banks ≤ 256
