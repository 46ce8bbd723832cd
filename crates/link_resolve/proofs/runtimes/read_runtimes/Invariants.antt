use Rattle.std.proofs.Common.{◌-◌, length}
use Rattle.link_resolve.proofs.RuntimeLaws.{ReadSoFar}
use Rattle.link_resolve.proofs.runtimes.read_runtimes.Given as goal

-- the files so far were read, and the table has their names
abbrev pub invariant-files : goal.invariant-files
invariant-files l = ReadSoFar l.given l.place l.loads.items l.outside

abbrev pub decreases-files : goal.decreases-files
decreases-files l = length l.given - l.place
