use Rattle.std.proofs.Common.{refl}
use Rattle.iigs_meaning.specs.Blocks.{can_purge_of}
use Rattle.iigs_memory.proofs.Stores.{keeps_stays}
use Rattle.iigs_places.proofs.Stays.{map_stays}
use Rattle.iigs_memory.proofs.banks.Banks.purge_user.Goals as goal

pub returns : goal.returns
returns c = rw (← c.self.view_is, c.purge_user.ensures.after) (record {
  slots = refl;
  counted = c.purge_user.ensures.count;
  kept = keeps_stays c.self.inside.places.banks c.self.inside.bytes.items c.self.inside.places.slots _ (map_stays (can_purge_of c.args.user) c.self.inside.places.slots);
})
