use Rattle.std.proofs.Common.{take}
use Rattle.std.specs.List.{AllByRecursion}
use Rattle.omf_format.specs.Number.{IsBytes}
use Rattle.link_resolve.specs.Resolved.{all_bytes}
use Rattle.link_resolve.proofs.bytes.know_bytes.Given as goal

abbrev pub invariant-files : goal.invariant-files
invariant-files l = AllByRecursion IsBytes (take l.file-index (all_bytes l.inputs.items))
