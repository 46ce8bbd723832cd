use Rattle.std.proofs.Common.{length}
use Rattle.w65_list.specs.FrontView.{Counted}
use Rattle.w65_list.proofs.front.cells.Given as goal

-- the cells of the records so far
abbrev pub invariant-records : goal.invariant-records
invariant-records l = Counted l.initial.records l.records l.most l.place

abbrev pub decreases-records : goal.decreases-records
decreases-records l = length l.records.left
