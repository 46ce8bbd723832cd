use Rattle.iigs_places.proofs.Marked.{marks_sized}
use Rattle.iigs_places.proofs.layout.lay_all.Goals as goal

pub join_marks-requires-clause-sized : goal.join_marks-requires-clause-sized
join_marks-requires-clause-sized c = rw c.deref.ensures.value (marks_sized c.args.table.now c.mark_all.new.marks.items c.requires.bounded c.mark_all.ensures.marked)
