use Rattle.std.proofs.Common.{map, length, ap, arith}
use Rattle.orca_macro.specs.Parts.{definition}
use Rattle.orca_macro.proofs.Scans.{scan_starts}
use Rattle.orca_macro.proofs.definitions.scan_file.Goals as goal

pub lines-init : goal.lines-init
lines-init c =
    (scan_starts c.args.in_source c.args.lines.now c.new.result (map definition c.args.definitions.now.items) c.new.ensures, omega (arith, ap length c.new.ensures), tt, omega arith)

pub returns-in-Some : goal.returns-in-Some
returns-in-Some c = rw c.in-Some.is at (c.in_ok-fault.ensures.ok (map definition c.args.definitions.now.items) c.lines.invariant.0)
