use Rattle.std.proofs.Common.{take}
use Rattle.std.specs.List.{AllByRecursion}
use Rattle.omf_format.specs.Number.{IsBytes}
use Rattle.link_resolve.specs.Runtimes.{files_of}
use Rattle.link_resolve.proofs.bytes.know_members.Given as goal

abbrev pub invariant-files : goal.invariant-files
invariant-files l = AllByRecursion (λ file. IsBytes file.1) (take l.member-index (files_of l.given))
