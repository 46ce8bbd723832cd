use Rattle.iigs_memory.proofs.Stores.{keeps_stays}
use Rattle.iigs_places.proofs.Puts.{gone_stays}
use Rattle.iigs_memory.proofs.banks.Banks.purge_first.Goals as goal

pub returns-clause-kept : goal.returns-clause-kept
returns-clause-kept c = rw (← c.self.view_is, c.purge_first.ensures) (keeps_stays c.self.inside.places.banks c.self.inside.bytes.items c.self.inside.places.slots _ (gone_stays c.self.inside.places.slots c.args.count))
