use Rattle.std.proofs.Common.{◌≡◌, ◌≤◌, ◌-◌, ◌+◌, ◌++◌, length, drop}
use Rattle.load_meaning.specs.Pathnames.{rows_text, paths_text}
use Rattle.link_meaning.specs.Member.{setting_in}
use Rattle.link_file.specs.Paths.{paths_of}
use Rattle.link_file.proofs.pathnames.rows_of.Given as goal

-- the rows so far, and those that are left
abbrev pub invariant-rows : goal.invariant-rows
invariant-rows l = record {
  text : l.out.items ++ rows_text (l.place + 2) (drop l.place (paths_of l.program)) ≡ paths_text (paths_of l.program);
  within : l.place ≤ length (setting_in l.program).runtimes;
}

abbrev pub decreases-rows : goal.decreases-rows
decreases-rows l = length (setting_in l.program).runtimes - l.place
