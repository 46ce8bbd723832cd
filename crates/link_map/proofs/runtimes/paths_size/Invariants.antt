use Rattle.std.proofs.Common.{◌≡◌, ◌≤◌, ◌-◌, ◌+◌, length, drop}
use Rattle.load_meaning.specs.Pathnames.{rows_text, paths_text}
use Rattle.link_meaning.specs.Member.{setting_in}
use Rattle.link_file.specs.Paths.{paths_of}
use Rattle.link_map.proofs.runtimes.paths_size.Given as goal

-- the bytes of the rows so far, and of those that are left
abbrev pub invariant-paths : goal.invariant-paths
invariant-paths l = record {
  size : l.size + length (rows_text (l.place + 2) (drop l.place (paths_of l.program))) ≡ length (paths_text (paths_of l.program));
  within : l.place ≤ length (setting_in l.program).runtimes;
}

abbrev pub decreases-paths : goal.decreases-paths
decreases-paths l = length (setting_in l.program).runtimes - l.place
