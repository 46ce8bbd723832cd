use Rattle.std.proofs.Common.{◌≡◌, ◌+◌, ◌-◌, ◌^◌, subst, arith, sum_by, ℕ}
use Rattle.iigs_places.specs.Sizes.{size_in}
use Rattle.iigs_places.specs.Arranged.{Arrangement}
use Rattle.iigs_places.proofs.Room.{room_counts}
use Rattle.iigs_places.proofs.Counted.{counts_once}
use Rattle.iigs_meaning.specs.Room.{CountsBelow, IsRoom}
use Rattle.iigs_places.proofs.places.BlockPlaces.room.Goals as goal

-- the room and the bytes of the blocks are the free bytes
left : (c : goal.After-used_bytes-used) → (room : ℕ) × (room + c.used_bytes-used.result ≡ c.free_bytes-free.result)
    × CountsBelow (IsRoom c.args.self.now.banks c.args.self.now.slots) (2 ^ 24) room
left c =
    let here : Arrangement = record { banks = c.self.inside.map; slots = c.self.inside.table } in
    let is : here ≡ c.args.self.now = c.self.view_is in
    let counts = room_counts here c.self.invariant.0.bounded c.self.invariant.0.sound in
    let used : c.used_bytes-used.result ≡ sum_by size_in c.self.inside.table = c.used_bytes-used.ensures in
    (counts.0, rw (used, c.free_bytes-free.ensures) counts.1, subst (λ (places : Arrangement). CountsBelow (IsRoom places.banks places.slots) (2 ^ 24) counts.0) is counts.2)

pub overflow_cast-result : goal.overflow_cast-result
overflow_cast-result c = let room = left c in omega (arith, room.1, c.free_bytes-free.type_inv)

pub overflow_sub-result : goal.overflow_sub-result
overflow_sub-result c = let room = left c in omega (arith, room.1)

counted : (c : goal.After-used_bytes-used) → CountsBelow (IsRoom c.args.self.now.banks c.args.self.now.slots) (2 ^ 24) (c.free_bytes-free.result - c.used_bytes-used.result)
counted c =
    let room = left c in
    let same : room.0 ≡ c.free_bytes-free.result - c.used_bytes-used.result = omega (arith, room.1) in
    rw (← same) room.2

pub returns-clause-counts : goal.returns-clause-counts
returns-clause-counts c = counted c

pub returns-clause-only : goal.returns-clause-only
returns-clause-only c other counts = counts_once (IsRoom c.args.self.now.banks c.args.self.now.slots) (2 ^ 24) other (c.free_bytes-free.result - c.used_bytes-used.result) counts (counted c)
