use Rattle.omf_cells.specs.Ends.{HaveReach}
use Rattle.omf_cells.proofs.ends.end_from.Given as goal

-- those so far reach there
abbrev pub invariant-pieces : goal.invariant-pieces
invariant-pieces l = HaveReach l.pieces l.piece-index l.low l.end
