use Rattle.w65_list.specs.SourceView.{SegmentsOn}
use Rattle.w65_list.proofs.source.put_file.Given as goal

-- the lines of the segments so far
abbrev pub invariant-segments : goal.invariant-segments
invariant-segments l = SegmentsOn l.list l.place l.out
