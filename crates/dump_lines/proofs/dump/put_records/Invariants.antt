use Rattle.std.proofs.Common.{◌≡◌, List, ℕ, ◌++◌, length}
use Rattle.dump_lines.specs.Steps.{record_line}
use Rattle.std.specs.List.{flat_map}
use Rattle.omf_format.specs.Record.{Record}
use Rattle.omf_format.specs.Reading.{HandsOut}
use Rattle.omf_format.specs.Field.{length_width_of}
use Rattle.dump_lines.proofs.dump.put_records.Given as goal

-- the lines of the records so far were appended
abbrev pub invariant-records : goal.invariant-records
invariant-records l = (before : List (ℕ × Record)) × HandsOut l.initial.records before l.records × (l.line ≡ l.fn.line ++ flat_map (record_line (length_width_of l.version)) before)

abbrev pub decreases-records : goal.decreases-records
decreases-records l = length l.records.left
