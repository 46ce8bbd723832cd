use Rattle.std.proofs.Common.{leb, rules}
use Rattle.std.proofs.lemmas.List.Sorted.{IsPartitionPoint-from_clause, IsPartitionedBy-leb}
use Rattle.iigs_places.specs.declared.marks.BlockMark.{BlockMark}
use Rattle.iigs_places.proofs.Marked.{counted}
use Rattle.iigs_places.proofs.marks.count_up_to.Goals as goal

pub returns-clause-count : goal.returns-clause-count
returns-clause-count c =
    let parted = IsPartitionedBy-leb (λ (m : BlockMark). m.at) c.args.marks.now c.args.address c.requires in
    counted c.args.marks.now c.args.address _
    (IsPartitionPoint-from_clause (λ (m : BlockMark). leb m.at c.args.address) c.args.marks.now _ c.partition_point.ensures.partitioned parted (λ a r q k. search rules))
    c.partition_point.ensures.bound
