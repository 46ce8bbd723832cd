-- Quotes in a line: `'` and `"`. A blank or a comma in quotes is text.
use Rattle.std.specs.Prelude.{ℕ, ◌+◌, Bool, ◌||◌, ◌&&◌, ◌==◌, List, [], ◌∷◌, Option, Some, None, is_none, if◌then◌else◌}
use Rattle.omf_format.specs.Ascii as ascii

-- the quote that is open after a byte
abbrev pub quote_following : Option ℕ → ℕ → Option ℕ
quote_following None byte = if byte == ascii.apostrophe || byte == ascii.double_quote then Some byte else None
quote_following (Some quote) byte = if byte == quote then None else Some quote

-- how many bytes are before the first outside quotes that passes the test, where this quote is open; all where none does
unfoldable pub outside_from : (ℕ → Bool) → Option ℕ → List ℕ → ℕ
outside_from test quote [] = 0
outside_from test quote (byte ∷ following) =
    if is_none quote && test byte then 0 else outside_from test (quote_following quote byte) following + 1

-- the quote that is open after a text
abbrev pub quote_after : Option ℕ → List ℕ → Option ℕ
quote_after quote [] = quote
quote_after quote (byte ∷ following) = quote_after (quote_following quote byte) following
