use Rattle.std.proofs.Common.{take}
use Rattle.std.specs.List.{AllByRecursion}
use Rattle.load_meaning.specs.Pathnames.{IsPath}
use Rattle.link_resolve.specs.Runtimes.{files_of}
use Rattle.link_resolve.proofs.given.have_paths.Given as goal

-- the names so far are paths
abbrev pub invariant-files : goal.invariant-files
invariant-files l = AllByRecursion (λ file. IsPath file.0) (take l.member-index (files_of l.runtimes.items))
