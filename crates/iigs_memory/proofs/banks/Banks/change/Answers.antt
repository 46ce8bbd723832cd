use Rattle.iigs_memory.proofs.Holds.{kept_put}
use Rattle.iigs_memory.proofs.banks.Banks.change.Goals as goal

pub returns-clause-kept : goal.returns-clause-kept
returns-clause-kept c = rw (← c.self.view_is, c.set.ensures) (kept_put c.self.inside.places.banks c.self.inside.bytes.items c.self.inside.places.slots c.args.h c.args.block (rw (← c.self.view_is) at c.requires.same))
