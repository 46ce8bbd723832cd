-- The prefix of a text without `&`.
use Rattle.std.specs.Prelude.{ℕ, ◌+◌, ◌==◌, List, [], ◌∷◌, if◌then◌else◌}

-- how many bytes are before the first `&`
unfoldable pub plain_len : List ℕ → ℕ
plain_len [] = 0
plain_len (byte ∷ following) = if byte == 0x26 then 0 else plain_len following + 1
