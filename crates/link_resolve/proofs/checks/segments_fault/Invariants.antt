use Rattle.std.proofs.Common.{◌-◌, length}
use Rattle.link_resolve.proofs.SegmentsLeft.{SegmentsLeft}
use Rattle.link_resolve.proofs.checks.segments_fault.Given as goal

abbrev pub invariant-segments : goal.invariant-segments
invariant-segments l = SegmentsLeft l.list l.number

abbrev pub decreases-segments : goal.decreases-segments
decreases-segments l = length l.list - l.number
