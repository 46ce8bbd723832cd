use Rattle.std.proofs.Common.{◌≡◌, ◌+◌}
use Rattle.loader_users.specs.Lying.{LiesInNone}
use Rattle.loader_users.proofs.locate.search.Given as goal

-- the address lies in none of the segments so far
abbrev pub invariant-segments : goal.invariant-segments
invariant-segments l = record {
  none : LiesInNone l.banks.slots l.segments.items l.segment-index l.h l.address;
  count : l.number ≡ l.segment-index + 1;
}
