use Rattle.std.specs.Prelude.{All}
use Rattle.iigs_meaning.specs.Fits.{IsWant}
use Rattle.loader_users.proofs.Wants.{Gathered}
use Rattle.loader_users.proofs.place.wants_of.Given as goal

-- the wants so far are those of the segments so far
abbrev pub invariant-segments : goal.invariant-segments
invariant-segments l = record {
  gathered : Gathered l.segments.items l.segment-index l.wants.items;
  are : All IsWant l.wants.items;
}
