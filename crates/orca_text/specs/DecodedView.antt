-- How decoded lines are seen.
use Rattle.orca_meaning.specs.Line as meaning
use Rattle.orca_text.specs.declared.decoded_line.DecodedLine.{DecodedLine}
use Rattle.orca_text.specs.View.{line}

-- a decoded line, as the line that it is of
abbrev pub decoded_line : DecodedLine → meaning.Line
decoded_line d = line d.line
