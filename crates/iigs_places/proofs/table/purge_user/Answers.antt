use Rattle.std.proofs.Common.{◌≤◌, length}
use Rattle.iigs_meaning.specs.Placement.{emptied_where}
use Rattle.iigs_meaning.specs.Blocks.{can_purge_of}
use Rattle.iigs_places.proofs.InPlace.{so_far_all}
use Rattle.iigs_places.proofs.table.purge_user.Goals as goal

pub returns-clause-after : goal.returns-clause-after
returns-clause-after c =
    let all : length c.args.table.now ≤ c.loop-place.place = rw (← c.slots-place-end.ensures.value) c.loop-place-test.false in
    so_far_all (emptied_where (can_purge_of c.args.user)) c.args.table.now c.loop-place.table c.loop-place.place c.loop-place.invariant.0 all
