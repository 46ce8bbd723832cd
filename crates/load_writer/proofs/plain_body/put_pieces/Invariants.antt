use Rattle.std.proofs.Common.{◌≡◌, ◌++◌, take}
use Rattle.load_writer.specs.Joined.{joined}
use Rattle.load_writer.proofs.plain_body.put_pieces.Given as goal

-- the pieces so far are there
abbrev pub invariant-loop-piece : goal.invariant-loop-piece
invariant-loop-piece l = l.out.items ≡ l.initial.out.items ++ joined (take l.piece-index l.pieces)
