use Rattle.std.specs.Prelude.{map}
use Rattle.loader_machine.specs.Stands.{place_in}
use Rattle.loader_users.specs.declared.user.UserSegment.{UserSegment}
use Rattle.loader_users.proofs.Dealing.{Sought}
use Rattle.loader_users.proofs.place.entry_of.Given as goal

-- no segment so far is the one where the program begins
abbrev pub invariant-segments : goal.invariant-segments
invariant-segments l = Sought (place_in l.banks.slots (map (λ (s : UserSegment). s.handle) l.segments.items)) l.segments.items l.segment-index
