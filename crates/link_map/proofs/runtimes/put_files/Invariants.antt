use Rattle.std.proofs.Common.{◌≡◌, ◌-◌, ◌++◌, length, take}
use Rattle.link_meaning.specs.Member.{setting_in}
use Rattle.link_file.specs.Paths.{paths_of}
use Rattle.link_map.specs.MapText.{numbered_texts, runtime_line}
use Rattle.link_map.proofs.runtimes.put_files.Given as goal

-- the lines of the first `place` files
abbrev pub invariant-files : goal.invariant-files
invariant-files l = l.line ≡ l.initial.line ++ numbered_texts runtime_line 2 (take l.place (paths_of l.program))

abbrev pub decreases-files : goal.decreases-files
decreases-files l = length (setting_in l.program).runtimes - l.place
