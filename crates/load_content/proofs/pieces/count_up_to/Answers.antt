use Rattle.std.proofs.Common.{leb, rules}
use Rattle.std.proofs.lemmas.List.Sorted.{IsPartitionPoint-from_clause, IsPartitionedBy-leb}
use Rattle.load_content.specs.declared.pieces.BytePiece.{BytePiece}
use Rattle.load_content.specs.Content.{start_of}
use Rattle.load_content.proofs.Splits.{split_at}
use Rattle.load_content.proofs.pieces.count_up_to.Goals as goal

pub returns-clause-split : goal.returns-clause-split
returns-clause-split c =
    let parted = IsPartitionedBy-leb start_of c.args.pieces.now c.args.at c.requires in
    split_at start_of c.args.pieces.now c.args.at _
    (IsPartitionPoint-from_clause (λ (p : BytePiece). leb (start_of p) c.args.at) c.args.pieces.now _ c.partition_point.ensures.partitioned parted (λ a r q k. search rules))
