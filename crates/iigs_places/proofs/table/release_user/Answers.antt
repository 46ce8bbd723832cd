use Rattle.std.proofs.Common.{◌≤◌, length}
use Rattle.iigs_meaning.specs.Puts.{without_user_in}
use Rattle.iigs_places.proofs.InPlace.{so_far_all}
use Rattle.iigs_places.proofs.table.release_user.Goals as goal

pub returns : goal.returns
returns c =
    let all : length c.args.table.now ≤ c.loop-place.place = rw (← c.slots-place-end.ensures.value) c.loop-place-test.false in
    so_far_all (without_user_in c.args.user) c.args.table.now c.loop-place.table c.loop-place.place c.loop-place.invariant all
