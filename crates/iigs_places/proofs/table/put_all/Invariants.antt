use Rattle.std.proofs.Common.{◌≡◌, ◌≤◌, ◌+◌, take, length, count_by, vec_len, vec_capacity}
use Rattle.iigs_meaning.specs.Slots.{is_free}
use Rattle.iigs_places.specs.Alls.{AllPut}
use Rattle.iigs_places.specs.Arranged.{IsArranged}
use Rattle.iigs_places.specs.Runs.{IsLayout}
use Rattle.iigs_places.proofs.table.put_all.Given as goal

-- the wants so far are placed, and enough slots are free for the others
abbrev pub invariant-loop-place : goal.invariant-loop-place
invariant-loop-place l = AllPut l.map l.user l.initial.table (take l.place l.wants) l.made.items l.table
    × (length l.wants ≤ l.place + count_by is_free l.table) × (vec_len l.made ≡ l.place)
    × IsArranged l.map l.table × IsLayout l.table l.layout
    × (4096 ≤ vec_capacity l.spots) × (4096 ≤ vec_capacity l.turns) × (4096 ≤ vec_capacity l.made)
    × (vec_capacity l.fn.spots ≤ vec_capacity l.spots) × (vec_capacity l.fn.turns ≤ vec_capacity l.turns) × (vec_capacity l.fn.made ≤ vec_capacity l.made)
