-- How the text of a listing is seen while it is written.
use Rattle.std.specs.Prelude.{ℕ, Bool, true, false, not, ◌&&◌, nat_lt, List, take, drop, Some, None}
use Rattle.list_lines.specs.declared.output.ListingText.{ListingText}
use Rattle.list_lines.specs.Kept.{Kept}

-- the text with its number of lines, unless it became too long
abbrev pub kept_by : Bool → List ℕ → ℕ → Kept
kept_by true text lines = None
kept_by false text lines = Some (text, lines)

-- the whole lines
abbrev pub finished_lines : ListingText → Kept
finished_lines o = kept_by o.over (take o.start o.text) o.lines

-- one more line may be kept
abbrev pub has_room : Bool → ℕ → ℕ → Bool
has_room over lines size = not over && nat_lt lines 65536 && nat_lt size 16777216

-- the line that is being written
abbrev pub open_line : ListingText → List ℕ
open_line o = drop o.start o.text
