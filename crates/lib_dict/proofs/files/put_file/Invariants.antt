use Rattle.std.proofs.Common.{◌-◌, ◌+◌, length, map}
use Rattle.lib_dict.specs.View.{outer_row}
use Rattle.lib_dict.proofs.FileLaws.{PassedFile}
use Rattle.lib_dict.proofs.files.put_file.Given as goal

-- the segments that were passed gave their rows
abbrev pub invariant-segments : goal.invariant-segments
invariant-segments l = PassedFile l.file l.front l.list l.passed (map outer_row l.initial.rows.items) (map outer_row l.rows.items)

abbrev pub decreases-segments : goal.decreases-segments
decreases-segments l = length l.list + 1 - l.passed
