-- How the widths are seen, and how much of a run the lines have covered.
use Rattle.std.specs.Prelude.{◌≡◌, ℕ, Bool, List, [], ◌∷◌, if◌then◌else◌}
use Rattle.std.specs.List.{list_all}
use Rattle.asm_meaning.specs.declared.directives.Switch.{Switch}
use Rattle.asm_meaning.specs.Instruction as meaning
use Rattle.list_meaning.specs.Listed.{ListedStatement, SwitchIs}
use Rattle.list_meaning.specs.Listing.{is_short, said_rest, same_bool, widths_rest}
use Rattle.list_lines.specs.declared.output.ListingText.{ListingText}
use Rattle.list_lines.specs.Kept.{with_lines}
use Rattle.list_lines.specs.OutputView.{finished_lines, open_line}
use Rattle.w65_list.specs.declared.run.RegisterWidths.{RegisterWidths}

-- the widths of the registers
abbrev pub widths_view : RegisterWidths → meaning.Widths
widths_view w = record { long_a = w.long_a; long_i = w.long_i }

-- LONGA or LONGI where the width changed
abbrev pub turned_between : Switch → Bool → Bool → List ListedStatement
turned_between switch old new = if same_bool old new then [] else SwitchIs switch new ∷ []

-- what is left of a run, at these widths, gives what the whole gives
pub record IsOn (w : meaning.Widths) (run : List ℕ) (old : ListingText) (v : meaning.Widths) (left : List ℕ) (now : ListingText) : Type 0 where
  pub line : open_line now ≡ []
  pub whole : with_lines (said_rest v 0 left) (finished_lines now) ≡ with_lines (said_rest w 0 run) (finished_lines old)
  pub short : list_all is_short (said_rest v 0 left) ≡ list_all is_short (said_rest w 0 run)
  pub widths : widths_rest v 0 left ≡ widths_rest w 0 run
