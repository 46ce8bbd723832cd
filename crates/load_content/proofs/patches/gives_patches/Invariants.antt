use Rattle.std.proofs.Common.{length}
use Rattle.std.specs.List.{list_any}
use Rattle.load_content.specs.Walk.{gives_patch}
use Rattle.load_content.proofs.Searches.{Same}
use Rattle.load_content.proofs.patches.gives_patches.Given as goal

-- a patch is given by all records where it is by those that are left
abbrev pub invariant-records : goal.invariant-records
invariant-records l = Same (list_any (λ found. gives_patch found.1)) l.initial.records l.records

abbrev pub decreases-records : goal.decreases-records
decreases-records l = length l.records.left
