use Rattle.std.proofs.Common.{refl}
use Rattle.iigs_meaning.specs.Slots.{new_slot}
use Rattle.iigs_places.specs.Sizes.{lasting_in}
use Rattle.iigs_places.proofs.Unused.{sum_front}
use Rattle.iigs_places.proofs.table.lasting_bytes.Goals as goal

pub returns : goal.returns
returns c = rw (c.lasting_among.ensures, c.slots.ensures.value) (sum_front lasting_in new_slot refl c.args.table.now c.end.result c.end.ensures.unused)
