-- A text line by line, as long as it may have that many bytes and lines.
use Rattle.std.specs.Prelude.{ℕ, ◌+◌, ◌&&◌, nat_lt, List, [], ◌∷◌, ◌++◌, length, Option, Some, None, if◌then◌else◌}
use Rattle.omf_format.specs.Ascii as ascii
use Rattle.list_meaning.specs.Listed.{ListedStatement, said_text, listing_text}
use Rattle.list_meaning.specs.Listing.{is_small}

-- the whole lines and their number, unless they are too many
abbrev pub Kept : Type 0
Kept = Option (List ℕ × ℕ)

-- what is kept of these lines
abbrev pub so_far : List ListedStatement → Kept
so_far all = if is_small all then Some (listing_text all, length all) else None

-- one more line
unfoldable pub with_line : List ℕ → Kept → Kept
with_line line None = None
with_line line (Some (text, lines)) =
    if nat_lt lines 65536 && nat_lt (length text + length line) 16777216 then Some (text ++ (line ++ ascii.line_feed ∷ []), lines + 1) else None

-- these lines
abbrev pub with_lines : List ListedStatement → Kept → Kept
with_lines [] kept = kept
with_lines (said ∷ rest) kept = with_lines rest (with_line (said_text said) kept)
