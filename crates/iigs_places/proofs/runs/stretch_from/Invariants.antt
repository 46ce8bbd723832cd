use Rattle.iigs_places.specs.Runs.{IsStretch}
use Rattle.iigs_places.proofs.runs.stretch_from.Given as goal

-- the blocks so far have no byte between them
abbrev pub invariant-loop-place : goal.invariant-loop-place
invariant-loop-place l = IsStretch l.marks l.first (record { end = l.end; next = l.place })
