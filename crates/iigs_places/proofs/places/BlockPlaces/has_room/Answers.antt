use Rattle.iigs_places.proofs.Marked.{marks_sized}
use Rattle.iigs_places.proofs.Quick.{has_yes, has_no}
use Rattle.iigs_places.proofs.places.BlockPlaces.has_room.Goals as goal

pub join-requires-clause-sized : goal.join-requires-clause-sized
join-requires-clause-sized c = marks_sized c.self.inside.table c.self.inside.layout.marks.items c.self.invariant.0.bounded c.self.invariant.1.have

pub invariant_of-self : goal.invariant_of-self
invariant_of-self c = (
  c.self.invariant.0,
  record { laid = c.join.ensures.laid; have = rw c.join.ensures.marks c.self.invariant.1.have },
  c.self.invariant.2,
  c.self.invariant.3,
)

pub returns-clause-yes : goal.returns-clause-yes
returns-clause-yes c = rw (← c.self.view_is) (has_yes c.self.inside.table c.join.new.layout.marks.items (rw c.join.ensures.marks c.self.invariant.1.have) c.join.new.layout.runs.items
    (c.join.ensures.laid.cover c.join.ensures.joined) c.self.inside.map c.args.want.now c.requires c.least_among.result c.is_some.result c.is_some.ensures (rw c.deref.ensures.value at c.least_among.ensures))

pub returns-clause-no : goal.returns-clause-no
returns-clause-no c = rw (← c.self.view_is) (has_no c.self.inside.table c.join.new.layout.marks.items (rw c.join.ensures.marks c.self.invariant.1.have) c.join.new.layout.runs.items
    (c.join.ensures.laid.cover c.join.ensures.joined) c.self.inside.map c.args.want.now c.requires c.least_among.result c.is_some.result c.is_some.ensures (rw c.deref.ensures.value at c.least_among.ensures))
