use Rattle.std.proofs.Common.{◌≡◌, ◌+◌, drop}
use Rattle.loader_machine.specs.State as state
use Rattle.loader_users.proofs.users.file_in.Given as goal

-- the ID isn't among the first ones
abbrev pub invariant-files : goal.invariant-files
invariant-files l = state.file_in 2 l.attached.items l.id ≡ state.file_in (2 + l.place) (drop l.place l.attached.items) l.id
