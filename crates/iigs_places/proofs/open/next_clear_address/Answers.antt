use Rattle.std.proofs.Common.{arith}
use Rattle.iigs_places.proofs.open.next_clear_address.Goals as goal
use Rattle.iigs_places.proofs.open.next_clear_address.Goals.{else-want-via-then-want+else-first-last, else-want-via-else-want}

pub returns : goal.returns
returns c = record {
  allowed = λ i from to. c.loop-bank.invariant i from to (omega arith);
  crossing = λ no_cross i from to. elim c.else-want.branch [
    | else-want-via-then-want+else-first-last w ↦ omega arith
    | else-want-via-else-want w ↦ absurd (cc)
  ];
}
