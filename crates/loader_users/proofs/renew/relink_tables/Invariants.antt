use Rattle.loader_users.specs.Renewing.{AreRenewed}
use Rattle.loader_users.proofs.Written.{heads_of, handles_of}
use Rattle.loader_users.proofs.renew.relink_tables.Given as goal

-- the first tables follow
abbrev pub invariant-places : goal.invariant-places
invariant-places l = AreRenewed (heads_of l.segments.items) (handles_of l.segments.items) l.only l.place l.fn.banks l.banks l.k
