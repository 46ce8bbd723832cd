-- Numbers of banks read one by one.
use Rattle.std.proofs.Common.{◌≡◌, ℕ, List, ◌++◌, map}
use Rattle.std.specs.List.{list_all}
use Rattle.loader_machine.specs.Script.{is_number, number_of}

-- the words so far wrote these numbers, and these words are left
pub record HasRead (words left : List (List ℕ)) (banks : List ℕ) : Type 0 where
  pub tests : list_all (is_number 0 0xFF) words ≡ list_all (is_number 0 0xFF) left
  pub numbers : map number_of words ≡ banks ++ map number_of left
