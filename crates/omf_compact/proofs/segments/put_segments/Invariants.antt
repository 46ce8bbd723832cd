use Rattle.omf_compact.proofs.SegmentLaws.{Written}
use Rattle.omf_compact.proofs.segments.put_segments.Given as goal

-- the segments so far are written
abbrev pub invariant-segments : goal.invariant-segments
invariant-segments l = Written l.load l.index l.place l.out.items
