use Rattle.omf_map.proofs.Passing.{Passed}
use Rattle.omf_map.proofs.making.under_paths.Given as goal

-- the files under the paths that were passed
abbrev pub invariant-paths : goal.invariant-paths
invariant-paths l = Passed l.paths l.fn.files.items l.path-index l.members.items l.files.rest.items
