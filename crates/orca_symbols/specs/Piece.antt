-- The first piece of a text.
use Rattle.std.specs.Prelude.{ℕ, ◌+◌, List, [], ◌∷◌, Option, Some, None, if◌then◌else◌}
use Rattle.orca_meaning.specs.Quotes.{quote_following}
use Rattle.macro_meaning.specs.Pieces.{parts, open_after, pieces}

-- how many bytes are before the first separator outside quotes and parentheses
unfoldable pub piece_len : ℕ → Option ℕ → ℕ → List ℕ → ℕ
piece_len separator quote count [] = 0
piece_len separator quote count (byte ∷ following) =
    if parts separator quote count byte then 0 else piece_len separator (quote_following quote byte) (open_after quote count byte) following + 1

-- the pieces of a text that may be missing
abbrev pub more_pieces : ℕ → Option (List ℕ) → List (List ℕ)
more_pieces separator None = []
more_pieces separator (Some text) = pieces separator text

-- not just two
abbrev pub AreNotTwo : List (List ℕ) → Type 0
AreNotTwo [] = Unit {0}
AreNotTwo (first ∷ []) = Unit {0}
AreNotTwo (first ∷ second ∷ []) = ⊥
AreNotTwo (first ∷ second ∷ third ∷ more) = Unit {0}
