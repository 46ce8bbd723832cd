use Rattle.std.proofs.Common.{arith, refl}
use Rattle.iigs_meaning.specs.Slots.{new_slot}
use Rattle.iigs_places.specs.Spots.{spots_of, spot_in}
use Rattle.iigs_places.proofs.Gathered.{length-filter_map}
use Rattle.iigs_places.proofs.Unused.{filter_map_front}
use Rattle.iigs_places.proofs.spots.gather_all.Goals as goal

pub returns-clause-items : goal.returns-clause-items
unfolding spots_of
returns-clause-items c = rw (c.gather_spots.ensures.items, c.slots.ensures.value) (filter_map_front spot_in new_slot refl c.args.table.now c.end.result c.end.ensures.unused)

pub returns-clause-few : goal.returns-clause-few
unfolding spots_of
returns-clause-few c =
    let few = length-filter_map spot_in c.args.table.now in
    let all = filter_map_front spot_in new_slot refl c.args.table.now c.end.result c.end.ensures.unused in
    rw (c.gather_spots.ensures.items, c.slots.ensures.value, all) (omega (arith, few, c.slots.ensures.count))
