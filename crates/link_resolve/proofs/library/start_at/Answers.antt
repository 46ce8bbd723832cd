use Rattle.std.proofs.Common.{arith}
use Rattle.omf_records.specs.SegmentLaws.{none_past}
use Rattle.link_resolve.proofs.library.start_at.Goals as goal

pub overflow_add-place : goal.overflow_add-place
overflow_add-place c = omega (arith, c.count-few.ensures, c.requires)

pub unreachable-requires : goal.unreachable-requires
unreachable-requires c = let past = none_past c.args.list.now c.args.place c.in-None.ensures.value in omega (arith, past, c.requires)
