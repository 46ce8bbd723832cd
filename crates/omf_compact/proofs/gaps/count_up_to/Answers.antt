use Rattle.std.proofs.Common.{leb, rules}
use Rattle.std.proofs.lemmas.List.Sorted.{IsPartitionPoint-from_clause, IsPartitionedBy-leb}
use Rattle.load_content.specs.declared.spots.PatchSpot.{PatchSpot}
use Rattle.load_content.specs.Content.{offset_of}
use Rattle.load_content.proofs.Splits.{split_at}
use Rattle.omf_compact.proofs.gaps.count_up_to.Goals as goal

pub returns-clause-split : goal.returns-clause-split
returns-clause-split c =
    let parted = IsPartitionedBy-leb offset_of c.args.spots.now c.args.at c.requires in
    split_at offset_of c.args.spots.now c.args.at _
    (IsPartitionPoint-from_clause (λ (s : PatchSpot). leb (offset_of s) c.args.at) c.args.spots.now _ c.partition_point.ensures.partitioned parted (λ a r q k. search rules))
