use Rattle.std.proofs.Common.{arith, sym, length, ◌<◌}
use Rattle.iigs_places.specs.Spots.{turns_of, turn_in}
use Rattle.iigs_places.proofs.Gathered.{filter_map_more}
use Rattle.iigs_places.proofs.spots.gather_turns.Goals as goal

pub loop-spot-preserved : goal.loop-spot-preserved
unfolding turns_of
loop-spot-preserved c =
    let inside : c.loop-spot.spot-index < length c.args.spots.now = omega arith in (
      rw (c.push_some.ensures.items, c.turn_in.ensures, c.loop-spot.invariant.0) (sym (filter_map_more turn_in c.args.spots.now c.loop-spot.spot-index _ inside)),
      omega arith,
      omega arith,
    )
