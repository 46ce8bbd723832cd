use Rattle.std.proofs.lemmas.List.Sorted.{IsPermutation-insert}
use Rattle.iigs_places.proofs.marks.add_mark.Goals as goal

pub returns-clause-added : goal.returns-clause-added
returns-clause-added c = rw c.insert_reserved.ensures.items (IsPermutation-insert c.args.marks.now.items c.count_up_to-place.result c.args.mark)
