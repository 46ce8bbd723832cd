-- The calls of the workload, by draws.
use Rattle.std.specs.Prelude.{ℕ, ◌+◌, ◌-◌, ◌*◌, ◌/◌, ◌%◌, ◌==◌, Bool, true, false, List, [], ◌∷◌, map, codes, nat_le, if◌then◌else◌}
use Rattle.loader_machine.specs.State.{first_id}
use Rattle.loader_machine.specs.Commands.{Command, Load, Jsl, UnloadSegment, Purge, Reply, Entered, Refused}
use Rattle.workload_meaning.specs.Draws.{draws, following}

-- the path of the load file
abbrev pub program : List ℕ
program = codes "prog"

-- the banks of the loader
abbrev pub banks : List ℕ
banks = 0x02 ∷ 0x03 ∷ []

-- the dynamic segment that a draw names, from 1 to n
abbrev pub named : ℕ → ℕ → ℕ
named n draw = 1 + draw / 4 % n

-- the call that a draw says: the JSL to the segment that it names, the letting go of that segment, or a purge
abbrev pub round_of : ℕ → ℕ → Command
round_of n draw =
    if nat_le (draw % 4) 1 then Jsl first_id 1 (4 * (named n draw - 1))
    else if draw % 4 == 2 then UnloadSegment first_id (named n draw + 1)
    else Purge first_id

-- the program is loaded, and 8 n rounds follow, by the draws after those of the object's sizes
abbrev pub commands : ℕ → ℕ → List Command
commands n seed = Load program ∷ map (round_of n) (draws (8 * n) (following n seed))

-- a JSL entered a segment
abbrev pub is_entered : Reply → Bool
is_entered (Entered user segment offset address) = true
is_entered _ = false

abbrev pub is_refused : Reply → Bool
is_refused (Refused fault) = true
is_refused _ = false
