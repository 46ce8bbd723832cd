use Rattle.std.proofs.Common.{arith, sym, length, ◌<◌}
use Rattle.iigs_places.specs.Spots.{spots_of, spot_in}
use Rattle.iigs_places.proofs.Gathered.{filter_map_more}
use Rattle.iigs_places.proofs.spots.gather_spots.Goals as goal

pub loop-slot-preserved : goal.loop-slot-preserved
unfolding spots_of
loop-slot-preserved c =
    let inside : c.loop-slot.slot-index < length c.args.slots.now = omega arith in (
      rw (c.push_some.ensures.items, c.spot_of.ensures, c.loop-slot.invariant.0) (sym (filter_map_more spot_in c.args.slots.now c.loop-slot.slot-index _ inside)),
      omega arith,
      omega arith,
    )
