use Rattle.std.proofs.Common.{◌≡◌, ℕ, ◌++◌, List, length, map}
use Rattle.omf_format.specs.Record.{Record}
use Rattle.omf_format.specs.Reading.{HandsOut}
use Rattle.lib_dict.specs.View.{outer_row, record_rows}
use Rattle.lib_dict.proofs.outer.put_records.Given as goal

-- the records so far gave their rows
abbrev pub invariant-records : goal.invariant-records
invariant-records l = record {
  before : List (ℕ × Record);
  run : HandsOut l.initial.records before l.records;
  same : l.records.layout ≡ l.initial.records.layout;
  rows : map outer_row l.rows.items ≡ map outer_row l.initial.rows.items ++ record_rows l.file l.at before;
}

abbrev pub decreases-records : goal.decreases-records
decreases-records l = length l.records.left
