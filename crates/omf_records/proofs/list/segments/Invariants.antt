use Rattle.std.proofs.Common.{◌-◌, length}
use Rattle.omf_records.proofs.Lists.{Listed}
use Rattle.omf_records.proofs.list.segments.Given as goal

-- the segments so far follow one another up to the start of the next
abbrev pub invariant-segments : goal.invariant-segments
invariant-segments l = Listed l.file l.views.items l.start l.number

abbrev pub decreases-segments : goal.decreases-segments
decreases-segments l = length l.initial.file - l.start
