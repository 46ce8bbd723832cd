use Rattle.std.proofs.Common.{refl}
use Rattle.iigs_meaning.specs.Slots.{new_slot}
use Rattle.iigs_places.specs.Sizes.{size_in}
use Rattle.iigs_places.proofs.Unused.{sum_front}
use Rattle.iigs_places.proofs.table.used_bytes.Goals as goal

pub returns : goal.returns
returns c = rw (c.bytes_in.ensures, c.slots.ensures.value) (sum_front size_in new_slot refl c.args.table.now c.end.result c.end.ensures.unused)
