use Rattle.std.proofs.Common.{◌≡◌, ◌-◌, length, take}
use Rattle.std.specs.List.{flat_map}
use Rattle.expand_lines.specs.LinesText.{line_text}
use Rattle.expand_lines.proofs.expanding.text_of.Given as goal

-- the text of the first `place` lines
abbrev pub invariant-lines : goal.invariant-lines
invariant-lines l = l.text ≡ flat_map line_text (take l.place l.lines)

abbrev pub decreases-lines : goal.decreases-lines
decreases-lines l = length l.lines - l.place
