use Rattle.std.proofs.Common.{◌≤◌, ◌<◌, ◌-◌, map, length}
use Rattle.std.specs.Prelude.{IfSome}
use Rattle.orca_macro.specs.Parts.{definition, IsScanned}
use Rattle.orca_macro.proofs.definitions.scan_file.Given as goal

abbrev pub invariant-lines : goal.invariant-lines
invariant-lines l =
    IsScanned l.in_source l.lines l.at l.scan.plain (map definition l.fn.definitions.items) (map definition l.definitions.items) l.scan.begun
    × (length l.scan.plain ≤ l.at) × IfSome l.scan.begun (λ begins. begins < l.at) × (l.at ≤ length l.lines)

abbrev pub decreases-lines : goal.decreases-lines
decreases-lines l = length l.lines - l.at
