use Rattle.link_resolve.specs.Resolved.{all_bytes}
use Rattle.omf_cli.proofs.Stressing.{no_link_fault}
use Rattle.omf_cli.proofs.stress.link_object.Goals as goal

pub unreachable-requires : goal.unreachable-requires
unreachable-requires c = no_link_fault (all_bytes c.args.inputs.now.items) c.in-Err.fault c.requires c.in-Err.ensures.refused c.in_default.not-Memory
