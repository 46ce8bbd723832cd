use Rattle.std.proofs.Common.{◌≡◌, take}
use Rattle.load_writer.specs.Joined.{joined}
use Rattle.link_content.specs.Holding.{last_of}
use Rattle.link_content.proofs.content.last_in.Given as goal

-- it is the last byte of the pieces so far
abbrev pub invariant-loop-piece : goal.invariant-loop-piece
invariant-loop-piece l = l.found ≡ last_of (joined (take l.piece-index l.pieces))
