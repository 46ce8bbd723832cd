use Rattle.std.proofs.Common.{rules, arith}
use Rattle.std.proofs.lemmas.List.Sorted.{IsNonDecreasingBy-from_sort_by_key, length_permutation}
use Rattle.iigs_places.specs.declared.marks.BlockMark.{BlockMark}
use Rattle.iigs_places.proofs.Marked.{sorted_marks, gathered_all}
use Rattle.iigs_places.proofs.marks.mark_all.Goals as goal

pub returns-clause-order : goal.returns-clause-order
returns-clause-order c = IsNonDecreasingBy-from_sort_by_key (λ (m : BlockMark). m.at) _ c.sort_unstable_by_key.ensures.sorted (λ a r q k. search rules)

pub returns-clause-marked : goal.returns-clause-marked
returns-clause-marked c = sorted_marks c.args.table.now c.gather_marks.new.marks.items c.sort_unstable_by_key.new.self.items
    (gathered_all c.args.table.now c.end.result c.gather_marks.new.marks.items (rw c.slots.ensures.value at c.gather_marks.ensures.gathered) c.end.ensures.unused (omega (arith, c.end.ensures.within, c.slots.ensures.count)))
    c.sort_unstable_by_key.ensures.permutation

pub returns-clause-few : goal.returns-clause-few
returns-clause-few c = omega (arith, length_permutation _ _ c.sort_unstable_by_key.ensures.permutation, c.gather_marks.ensures.few, c.end.ensures.within)
