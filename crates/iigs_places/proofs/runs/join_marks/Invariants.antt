use Rattle.std.proofs.Common.{◌≤◌, ◌-◌, length, vec_len, vec_capacity}
use Rattle.iigs_places.proofs.Covered.{Joined}
use Rattle.iigs_places.proofs.runs.join_marks.Given as goal

-- the marks so far are joined
abbrev pub invariant-loop-first : goal.invariant-loop-first
invariant-loop-first l = Joined l.marks l.first l.runs.items × (l.first ≤ length l.marks) × (vec_len l.runs ≤ l.first) × (vec_capacity l.fn.runs ≤ vec_capacity l.runs)

abbrev pub decreases-loop-first : goal.decreases-loop-first
decreases-loop-first l = length l.marks - l.first
