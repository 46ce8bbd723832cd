use Rattle.std.proofs.Common.{nat_lt, ◌≤◌, length, arith}
use Rattle.std.proofs.lemmas.Bool.{le-ltb}
use Rattle.iigs_meaning.specs.Placement.{emptied_where}
use Rattle.iigs_places.specs.Spots.{turn_of}
use Rattle.iigs_places.proofs.InPlace.{so_far_all}
use Rattle.iigs_places.proofs.Emptied.{emptied_none}
use Rattle.iigs_places.proofs.table.empty_below.Goals as goal

pub returns-then-limit-eq0 : goal.returns-then-limit-eq0
returns-then-limit-eq0 c = emptied_none (λ block. nat_lt (turn_of block) c.args.limit) c.args.table.now (λ block. le-ltb (turn_of block) c.args.limit (omega (arith, c.if-limit-eq0.true)))

pub returns : goal.returns
returns c =
    let all : length c.args.table.now ≤ c.loop-place.place = rw (← c.slots-place-end.ensures.value) c.loop-place-test.false in
    so_far_all (emptied_where (λ block. nat_lt (turn_of block) c.args.limit)) c.args.table.now c.loop-place.table c.loop-place.place c.loop-place.invariant all
