use Rattle.std.proofs.Common.{length}
use Rattle.lib_dict.proofs.RowLoops.{ReadRows}
use Rattle.lib_dict.proofs.rows.rows_of.Given as goal

-- the rows before what is left were read
abbrev pub invariant-rows : goal.invariant-rows
invariant-rows l = ReadRows l.tables l.at l.second l.place l.rest l.rows.items

abbrev pub decreases-rows : goal.decreases-rows
decreases-rows l = length l.rest
