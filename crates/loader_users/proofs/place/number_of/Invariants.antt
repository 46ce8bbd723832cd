use Rattle.std.specs.Prelude.{◌≡◌, ◌<◌, ◌+◌, length, drop}
use Rattle.loader_machine.specs.Heads.{wants_of, number_of}
use Rattle.loader_users.proofs.Wants.{heads}
use Rattle.loader_users.proofs.place.number_of.Given as goal

-- the segment is among those that are left, at a place among the static ones
abbrev pub invariant-segments : goal.invariant-segments
invariant-segments l = record {
  count : l.number ≡ l.segment-index + 1;
  left : l.left < length (wants_of (heads (drop l.segment-index l.segments.items)));
  sought : number_of (l.segment-index + 1) (heads (drop l.segment-index l.segments.items)) l.left ≡ number_of 1 (heads l.segments.items) l.fn.place;
}
