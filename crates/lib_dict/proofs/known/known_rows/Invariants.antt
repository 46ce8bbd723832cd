use Rattle.std.proofs.Common.{map, take}
use Rattle.lib_dict.specs.View.{outer_row}
use Rattle.lib_dict.specs.Tables.{HoldsRows}
use Rattle.lib_dict.proofs.known.known_rows.Given as goal

-- the rows so far are in the set
abbrev pub invariant-rows : goal.invariant-rows
invariant-rows l = HoldsRows (map outer_row l.known.keys) (map outer_row (take l.row-index l.rows.items))
