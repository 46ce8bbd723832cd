use Rattle.std.proofs.Common.{◌-◌}
use Rattle.load_tables.specs.View.{seen_paths}
use Rattle.load_tables.proofs.PathRuns.{SoFar}
use Rattle.load_tables.proofs.pathnames.paths_in.Given as goal

-- the rows so far are sound, and their paths were read
abbrev pub invariant-rows : goal.invariant-rows
invariant-rows l = SoFar l.most l.bytes l.rows l.at l.rest (seen_paths l.paths.items)

abbrev pub decreases-rows : goal.decreases-rows
decreases-rows l = l.most - l.rows
