use Rattle.iigs_places.proofs.Fresh.{new_arranged, new_layout}
use Rattle.iigs_places.proofs.places.parts.Goals as goal

pub invariant_of-result : goal.invariant_of-result
invariant_of-result c = rw c.in_ok-table.ensures (
  new_arranged _ c.requires,
  new_layout _ c.in_ok-new_layout.ensures.marks c.in_ok-new_layout.ensures.runs c.in_ok-new_layout.ensures.room,
  c.in_ok-scratch.ensures,
  c.in_ok-scratch-2.ensures,
)
