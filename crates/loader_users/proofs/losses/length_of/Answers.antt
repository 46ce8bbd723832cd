use Rattle.std.proofs.Common.{inl, inr, refl}
use Rattle.omf_header.specs.View.{fields}
use Rattle.loader_users.proofs.Losing.{length_is}
use Rattle.loader_users.proofs.losses.length_of.Goals as goal

pub returns-in-Some : goal.returns-in-Some
returns-in-Some c = inr (length_is c.args.load.now c.args.number (fields c.in-Some.header.now) c.in-Some.header.now.length refl c.in-Some.ensures)

pub returns-in-None : goal.returns-in-None
returns-in-None c = inl c.in-None.ensures
