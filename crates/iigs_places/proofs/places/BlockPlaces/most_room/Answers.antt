use Rattle.std.proofs.Common.{◌≡◌, ◌+◌, ◌-◌, ◌≤◌, arith, sum_by, subst}
use Rattle.iigs_places.specs.Sizes.{lasting_in, free_below}
use Rattle.iigs_places.specs.Arranged.{Arrangement}
use Rattle.iigs_places.proofs.Room.{room_counts}
use Rattle.iigs_places.proofs.Lasting.{all_lasting}
use Rattle.iigs_places.proofs.places.BlockPlaces.most_room.Goals as goal

-- the bytes that last are free bytes
within : (c : goal.After-lasting_bytes-lasting) → c.lasting_bytes-lasting.result ≤ c.free_bytes-free.result
within c =
    let here : Arrangement = record { banks = c.self.inside.map; slots = c.self.inside.table } in
    let counts = room_counts here c.self.invariant.0.bounded c.self.invariant.0.sound in
    let fewer = all_lasting c.self.inside.table in
    let lasting : c.lasting_bytes-lasting.result ≡ sum_by lasting_in c.self.inside.table = c.lasting_bytes-lasting.ensures in
    let free : c.free_bytes-free.result ≡ free_below c.self.inside.map 256 = c.free_bytes-free.ensures in
    omega (arith, counts.1, fewer, lasting, free)

pub overflow_cast-result : goal.overflow_cast-result
overflow_cast-result c = omega (arith, within c, c.free_bytes-free.type_inv)

pub overflow_sub-result : goal.overflow_sub-result
overflow_sub-result c = omega (arith, within c)

pub returns : goal.returns
returns c =
    let left : c.free_bytes-free.result - c.lasting_bytes-lasting.result + sum_by lasting_in c.self.inside.table ≡ free_below c.self.inside.map 256 =
    rw (← c.lasting_bytes-lasting.ensures, ← c.free_bytes-free.ensures) (omega (arith, within c)) in
    subst (λ (places : Arrangement). c.free_bytes-free.result - c.lasting_bytes-lasting.result + sum_by lasting_in places.slots ≡ free_below places.banks 256) c.self.view_is left
