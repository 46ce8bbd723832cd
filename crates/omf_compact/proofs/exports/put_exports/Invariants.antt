use Rattle.std.proofs.Common.{◌≡◌, ◌-◌, Some}
use Rattle.omf_format.specs.File.{Segment, segment_at}
use Rattle.omf_compact.proofs.EntryLists.{Left}
use Rattle.omf_compact.proofs.exports.put_exports.Given as goal

-- those from the place on are left
abbrev pub invariant-exports : goal.invariant-exports
invariant-exports l = (s : Segment) → segment_at l.load l.number ≡ Some s → Left l.load l.number s l.place l.initial.out.items l.out.items

abbrev pub decreases-exports : goal.decreases-exports
decreases-exports l = l.end - l.place
