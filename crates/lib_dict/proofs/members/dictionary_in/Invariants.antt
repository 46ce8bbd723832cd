use Rattle.std.proofs.Common.{◌-◌, ◌+◌, length}
use Rattle.lib_dict.proofs.MemberLaws.{PassedOthers}
use Rattle.lib_dict.proofs.members.dictionary_in.Given as goal

-- the segments that were passed aren't dictionaries
abbrev pub invariant-segments : goal.invariant-segments
invariant-segments l = PassedOthers l.list l.passed

abbrev pub decreases-segments : goal.decreases-segments
decreases-segments l = length l.list + 1 - l.passed
