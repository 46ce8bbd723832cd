-- Texts separated by commas or plus signs, and texts in quotes.
use Rattle.std.specs.Prelude.{ℕ, ◌+◌, ◌-◌, Bool, ◌&&◌, ◌||◌, ◌==◌, nat_lt, List, [], ◌∷◌, ◌++◌, length, take, drop, Option, Some, None, if◌then◌else◌, is_none}
use Rattle.std.specs.List.{position_or_len}
use Rattle.omf_format.specs.Ascii as ascii
use Rattle.orca_meaning.specs.Quotes.{quote_following}
use Rattle.orca_meaning.specs.Token.{Found}
use Rattle.macro_meaning.specs.Statements.{whole_match}

-- How many parentheses are open after a byte. In quotes a parenthesis is text, and so is one that closes none.
abbrev pub open_after : Option ℕ → ℕ → ℕ → ℕ
open_after None count byte = if byte == ascii.opening_round then count + 1 else if byte == ascii.closing_round then count - 1 else count
open_after (Some quote) count byte = count

-- whether the byte is a separator outside quotes and parentheses
abbrev pub parts : ℕ → Option ℕ → ℕ → ℕ → Bool
parts separator quote count byte = is_none quote && count == 0 && byte == separator

-- the pieces between the separators outside quotes and parentheses, where this quote and this number of parentheses are open
unfoldable pub pieces_from : ℕ → Option ℕ → ℕ → List ℕ → List (List ℕ)
pieces_from separator quote count [] = [] ∷ []
pieces_from separator quote count (byte ∷ following) =
    if parts separator quote count byte then [] ∷ pieces_from separator None 0 following
    else elim (pieces_from separator (quote_following quote byte) (open_after quote count byte) following) [
      | [] ↦ (byte ∷ []) ∷ []
      | piece ∷ pieces ↦ (byte ∷ piece) ∷ pieces
    ]

-- the pieces of a whole text
abbrev pub pieces : ℕ → List ℕ → List (List ℕ)
pieces separator text = pieces_from separator None 0 text

-- ---- texts in quotes

-- the text between a quote at the start and the next one of its kind, and what follows that
unfoldable pub closed_at : ℕ → List ℕ → Found (List ℕ)
closed_at quote following =
    let n = position_or_len (λ byte. byte == quote) following in
    if nat_lt n (length following) then Some (take n following, drop (n + 1) following) else None

-- the text in quotes of either kind at the start, and what follows it
unfoldable pub quoted_at : List ℕ → Found (List ℕ)
quoted_at [] = None
quoted_at (quote ∷ following) = if quote == ascii.apostrophe || quote == ascii.double_quote then closed_at quote following else None

-- the text in quotes that this is, with nothing after it
abbrev pub unquoted_text : List ℕ → Option (List ℕ)
unquoted_text text = whole_match (quoted_at text)

-- texts in quotes, joined
unfoldable pub joined_texts : List (List ℕ) → Option (List ℕ)
joined_texts [] = Some []
joined_texts (piece ∷ pieces) = elim (unquoted_text piece) [ None ↦ None | Some a ↦ elim (joined_texts pieces) [ None ↦ None | Some b ↦ Some (a ++ b) ] ]
