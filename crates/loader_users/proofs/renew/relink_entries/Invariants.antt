use Rattle.std.proofs.Common.{◌≡◌, ◌≤◌, length}
use Rattle.loader_users.specs.Renewing.{relinked_entries}
use Rattle.loader_users.proofs.renew.relink_entries.Given as goal

-- the first entries follow
abbrev pub invariant-entries : goal.invariant-entries
invariant-entries l = (l.bytes ≡ relinked_entries l.only l.place l.k l.fn.bytes) × (length l.bytes ≡ length l.fn.bytes) × (l.k ≤ l.count)
