use Rattle.omf_commands.proofs.Libraries.{Gathered}
use Rattle.omf_commands.proofs.library.members_of.Given as goal

-- the files under the paths that were passed
abbrev pub invariant-paths : goal.invariant-paths
invariant-paths l = Gathered l.paths l.files l.path-index l.members.items
