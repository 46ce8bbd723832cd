use Rattle.std.proofs.Common.{◌≡◌, ◌-◌, ◌++◌, length, take}
use Rattle.link_map.specs.MapText.{numbered_texts}
use Rattle.link_map.specs.Listings.{exported_in}
use Rattle.link_map.proofs.members.put_exports.Given as goal

-- the lines of what the first `place` members export
abbrev pub invariant-members : goal.invariant-members
invariant-members l = l.line ≡ l.initial.line ++ numbered_texts (exported_in l.values.list l.values.table) 1 (take l.place l.values.list)

abbrev pub decreases-members : goal.decreases-members
decreases-members l = length l.values.list - l.place
