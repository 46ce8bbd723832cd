use Rattle.std.proofs.Common.{◌≡◌, ◌-◌, ◌++◌, length, take}
use Rattle.link_map.specs.MapText.{numbered_texts, text_in}
use Rattle.link_map.proofs.members.put_members.Given as goal

-- the lines of the first `place` members
abbrev pub invariant-members : goal.invariant-members
invariant-members l = l.line ≡ l.initial.line ++ numbered_texts (text_in l.values.list l.values.table l.number) 1 (take l.place l.values.list)

abbrev pub decreases-members : goal.decreases-members
decreases-members l = length l.values.list - l.place
