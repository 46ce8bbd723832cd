use Rattle.std.proofs.Common.{length}
use Rattle.orca_text.proofs.Reading.{HasRead}
use Rattle.orca_text.proofs.lines.read_lines.Given as goal

abbrev pub invariant-lines : goal.invariant-lines
invariant-lines l = HasRead l.file l.source l.rest l.number l.lines

abbrev pub decreases-lines : goal.decreases-lines
decreases-lines l = length l.rest
