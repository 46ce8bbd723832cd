use Rattle.std.proofs.Common.{◌-◌, ◌≤◌, List, length, take}
use Rattle.link_meaning.specs.Member.{Member}
use Rattle.link_program.specs.Linked.{Holds}
use Rattle.link_program.specs.Files.{AllAmong}
use Rattle.link_tables.specs.Laid.{Laid}
use Rattle.link_resolve.proofs.resolving.lay_out.Given as goal

-- the members so far have their places
abbrev pub invariant-members : goal.invariant-members
invariant-members l = (l.place ≤ length l.linked.members.items) × ((list : List Member) → Holds list l.linked → AllAmong l.files list → Laid (take l.place list) l.layout)

abbrev pub decreases-members : goal.decreases-members
decreases-members l = length l.linked.members.items - l.place
