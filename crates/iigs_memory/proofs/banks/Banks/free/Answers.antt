use Rattle.std.proofs.Common.{refl}
use Rattle.iigs_memory.proofs.Stores.{keeps_stays}
use Rattle.iigs_places.proofs.Changed.{release_stays}
use Rattle.iigs_memory.proofs.banks.Banks.free.Goals as goal

pub returns-clause-freed : goal.returns-clause-freed
returns-clause-freed c = rw (← c.self.view_is, c.in-Ok.ensures.released) (record {
  was = c.in-Ok.ensures.live;
  slots = refl;
  kept = keeps_stays c.self.inside.places.banks c.self.inside.bytes.items c.self.inside.places.slots _ (release_stays c.self.inside.places.slots c.args.h);
})
