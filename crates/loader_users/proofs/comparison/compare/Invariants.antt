use Rattle.std.specs.Prelude.{◌≡◌, map, take}
use Rattle.loader_machine.specs.Heads.{head_of}
use Rattle.loader_users.proofs.Written.{heads_of}
use Rattle.loader_users.proofs.comparison.compare.Given as goal

-- the first segments have the same headers
abbrev pub invariant-places : goal.invariant-places
invariant-places l = take l.place (heads_of l.segments.items) ≡ take l.place (map head_of l.load)
