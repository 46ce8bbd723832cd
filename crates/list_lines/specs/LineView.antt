-- How a line is written, and how an operand is seen.
use Rattle.std.specs.Prelude.{◌≡◌, ◌≤◌, ℕ, Bool, true, false, List, [], ◌∷◌}
use Rattle.std.specs.List.{list_all}
use Rattle.list_meaning.specs.Listed as listed
use Rattle.list_meaning.specs.Listed.{ListedStatement, said_text}
use Rattle.list_meaning.specs.Listing.{is_short}
use Rattle.list_lines.specs.declared.lines.Wanted.{Wanted}
use Rattle.list_lines.specs.declared.lines.Wanted.TheVariants as wanted
use Rattle.list_lines.specs.declared.output.ListingText.{ListingText}
use Rattle.list_lines.specs.Kept.{with_line, with_lines}
use Rattle.list_lines.specs.OutputView.{finished_lines, open_line}

-- the line was written, and is no longer than 255 bytes
pub record Wrote (said : ListedStatement) (old new : ListingText) : Type 0 where
  pub whole : finished_lines new ≡ with_line (said_text said) (finished_lines old)
  pub line : open_line new ≡ []
  pub short : is_short said ≡ true

-- an operand
abbrev pub operand_view : Wanted → listed.Wanted
operand_view wanted.Missing = listed.None'
operand_view (wanted.Number bytes n) = listed.Number bytes n
operand_view (wanted.Banks source destination) = listed.Banks source destination
operand_view (wanted.Label name) = listed.Label name.now
operand_view (wanted.Moved name adds n) = listed.Moved name.now adds n

-- a number has at most three bytes
abbrev pub HasSize : listed.Wanted → Type 0
HasSize (listed.Number bytes n) = bytes ≤ 3
HasSize _ = Unit {0}

-- no bytes
abbrev pub is_nothing : List ℕ → Bool
is_nothing [] = true
is_nothing (byte ∷ text) = false

-- an operand without text
abbrev pub has_no_text : listed.Wanted → Bool
has_no_text listed.None' = true
has_no_text (listed.Label name) = is_nothing name
has_no_text _ = false

-- these lines were written, and are no longer than 255 bytes
pub record WroteAll (lines : List ListedStatement) (old new : ListingText) : Type 0 where
  pub whole : finished_lines new ≡ with_lines lines (finished_lines old)
  pub line : open_line new ≡ []
  pub short : list_all is_short lines ≡ true
