use Rattle.std.proofs.Common.{◌-◌, ◌+◌, length}
use Rattle.lib_dict.proofs.After.{PassedRows}
use Rattle.lib_dict.proofs.names_following.names_following.Given as goal

-- the segments that were passed gave their rows
abbrev pub invariant-segments : goal.invariant-segments
invariant-segments l = PassedRows l.list l.passed l.rows.items

abbrev pub decreases-segments : goal.decreases-segments
decreases-segments l = length l.list + 1 - l.passed
