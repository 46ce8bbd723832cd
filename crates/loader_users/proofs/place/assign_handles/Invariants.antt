use Rattle.loader_users.proofs.Dealing.{Dealt}
use Rattle.loader_users.proofs.place.assign_handles.Given as goal

-- the first segments have their handles
abbrev pub invariant-places : goal.invariant-places
invariant-places l = Dealt l.fn.segments.items l.handles l.place l.next l.count l.segments.items
