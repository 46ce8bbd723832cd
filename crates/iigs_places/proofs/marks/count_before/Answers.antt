use Rattle.std.proofs.Common.{ltb, arith, rules, get_or}
use Rattle.std.proofs.lemmas.Bool.{ltb-true, ltb-false}
use Rattle.std.proofs.lemmas.List.Sorted.{IsPartitionPoint-from_clause, IsPartitionedBy-ltb}
use Rattle.iigs_places.specs.declared.marks.BlockMark.{BlockMark}
use Rattle.iigs_places.proofs.marks.count_before.Goals as goal

pub returns : goal.returns
returns c =
    let parted = IsPartitionedBy-ltb (λ (m : BlockMark). m.at) c.args.marks.now c.args.address c.requires in
    let point = IsPartitionPoint-from_clause (λ (m : BlockMark). ltb m.at c.args.address) c.args.marks.now _ c.partition_point.ensures.partitioned parted (λ a r q k. search rules) in
    record {
      within = c.partition_point.ensures.bound;
      before = λ k d lt. ltb-true (get_or c.args.marks.now k d).at c.args.address (point.0 k d (omega (arith, lt, c.partition_point.ensures.bound)) lt);
      following = λ k d le lt. ltb-false (get_or c.args.marks.now k d).at c.args.address (point.1 k d le lt);
    }
