use Rattle.std.proofs.Common.{leb, leb-true, arith, rules, get_or}
use Rattle.std.proofs.lemmas.Bool.{leb-false}
use Rattle.std.proofs.lemmas.List.Sorted.{IsPartitionPoint-from_clause, IsPartitionedBy-leb}
use Rattle.iigs_places.specs.declared.spots.BlockSpot.{BlockSpot}
use Rattle.iigs_places.proofs.runs.count_up_to.Goals as goal

pub returns : goal.returns
returns c =
    let parted = IsPartitionedBy-leb (λ (run : BlockSpot). run.at) c.args.runs.now c.args.address c.requires in
    let point = IsPartitionPoint-from_clause (λ (run : BlockSpot). leb run.at c.args.address) c.args.runs.now _ c.partition_point.ensures.partitioned parted (λ a r q k. search rules) in
    record {
      within = c.partition_point.ensures.bound;
      before = λ k d lt. leb-true (get_or c.args.runs.now k d).at c.args.address (point.0 k d (omega (arith, lt, c.partition_point.ensures.bound)) lt);
      following = λ k d le lt. omega (arith, leb-false (get_or c.args.runs.now k d).at c.args.address (point.1 k d le lt));
    }
