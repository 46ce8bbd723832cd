use Rattle.std.proofs.Common.{◌≤◌, vec_len, vec_capacity}
use Rattle.iigs_places.specs.Marks.{AreGathered}
use Rattle.iigs_places.proofs.marks.gather_marks.Given as goal

-- the marks of the slots so far
abbrev pub invariant-loop-place : goal.invariant-loop-place
invariant-loop-place l = record {
  gathered : AreGathered l.slots l.place l.marks.items;
  few : vec_len l.marks ≤ l.place;
  room : vec_capacity l.fn.marks ≤ vec_capacity l.marks;
}
