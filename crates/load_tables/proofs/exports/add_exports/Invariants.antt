use Rattle.std.proofs.Common.{◌+◌, ◌≤◌, length, map}
use Rattle.load_tables.specs.View.{seen_export}
use Rattle.load_tables.proofs.ExportWalks.{Exported}
use Rattle.load_tables.proofs.exports.add_exports.Given as goal

-- what the records so far export was added, no more than their bytes
abbrev pub invariant-records : goal.invariant-records
invariant-records l = record {
  added : Exported l.holder l.initial.records l.records (map seen_export l.initial.exports.items) (map seen_export l.exports.items);
  few : length l.exports.items + length l.records.left ≤ length l.initial.exports.items + length l.initial.records.left;
}

abbrev pub decreases-records : goal.decreases-records
decreases-records l = length l.records.left
