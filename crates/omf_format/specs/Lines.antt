-- Lines of a text, as scripts and assembly sources have them.
use Rattle.std.specs.Prelude.{◌≡◌, ℕ, false, List, [], ◌∷◌, ◌||◌, ◌&&◌, ◌==◌, not, slice_index, if◌then◌else◌}
use Rattle.std.specs.List.{AllByRecursion, onto_first}
use Rattle.omf_format.specs.Ascii as ascii

-- The lines of a text, without their ends, which are LF, CR or CR LF. Bytes after the last end are a line too.
unfoldable pub lines_of : List ℕ → List (List ℕ)
lines_of [] = []
lines_of (byte ∷ following) =
    if byte == ascii.line_feed || (byte == ascii.carriage_return && not (slice_index following 0 == ascii.line_feed)) then [] ∷ lines_of following
    else if byte == ascii.carriage_return then lines_of following
    else onto_first byte (lines_of following)

-- no LF and no CR is among the bytes
abbrev pub HasNoEnd : List ℕ → Type 0
HasNoEnd line = AllByRecursion (λ byte. byte == ascii.line_feed || byte == ascii.carriage_return ≡ false) line
