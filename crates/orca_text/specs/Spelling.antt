-- Mnemonics as numbers, by which they are looked up.
use Rattle.std.specs.Prelude.{ℕ, ◌+◌, ◌*◌, Bool, false, ◌&&◌, nat_lt, List, [], ◌∷◌}

-- the number that three letters are, the first highest
abbrev pub key_of : List ℕ → ℕ
key_of (a ∷ b ∷ c ∷ []) = a * 65536 + b * 256 + c
key_of _ = 0

-- three bytes
abbrev pub is_three : List ℕ → Bool
is_three (a ∷ b ∷ c ∷ []) = nat_lt a 256 && nat_lt b 256 && nat_lt c 256
is_three _ = false
