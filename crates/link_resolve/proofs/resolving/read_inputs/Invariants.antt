use Rattle.std.proofs.Common.{take}
use Rattle.link_resolve.specs.Resolved.{all_bytes, HasGathered}
use Rattle.link_resolve.proofs.resolving.read_inputs.Given as goal

abbrev pub invariant-files : goal.invariant-files
invariant-files l = HasGathered (take l.bytes-index (all_bytes l.inputs.items)) l.gathered
