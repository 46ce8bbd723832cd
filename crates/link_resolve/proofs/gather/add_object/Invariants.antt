use Rattle.std.proofs.Common.{◌≡◌, ◌+◌, ◌-◌, ◌≤◌, ◌++◌, List, length, take}
use Rattle.link_meaning.specs.Member.{LinkSetting, Member, members_from}
use Rattle.link_program.specs.Linked.{Holds}
use Rattle.link_resolve.proofs.gather.add_object.Given as goal

-- the segments so far were added
abbrev pub invariant-segments : goal.invariant-segments
invariant-segments l =
    (l.number ≤ length l.list) × (length l.linked.members.items ≡ length l.fn.linked.members.items + l.number)
    × ((setting : LinkSetting) (before : List Member) → Holds before l.fn.linked → Holds (before ++ members_from setting l.file 1 (take l.number l.list)) l.linked)

abbrev pub decreases-segments : goal.decreases-segments
decreases-segments l = length l.list - l.number
