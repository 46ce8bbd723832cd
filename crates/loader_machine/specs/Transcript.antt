-- Whole scripts: the replies to a list of commands.
use Rattle.std.specs.Prelude.{◌≡◌, ◌≢◌, ◌⊎◌, ℕ, ◌+◌, List, [], ◌∷◌}
use Rattle.omf_io.specs.Files.{FileMap}
use Rattle.loader_machine.specs.declared.faults.LoaderFault.TheVariants.{CannotRead}
use Rattle.loader_machine.specs.State.{Machine}
use Rattle.loader_machine.specs.Commands.{Command, Reply, Refused}
use Rattle.loader_machine.specs.Steps.{Steps}
use Rattle.loader_machine.specs.Rule.{RoomRule}
use Rattle.loader_machine.specs.Needs.{Needs, IsReadFor}

-- a command is answered: by its step's reply; or, where it needs a file, also by `cannot read`, which leaves the state. The
-- number counts the latter.
abbrev pub IsAnswered : FileMap → Machine → Command → Reply → ℕ → Machine → Type 0
IsAnswered held state command reply others next =
    (Steps RoomRule held state command reply next × (others ≡ 0))
    ⊎ ((reply ≡ Refused CannotRead) × (paths : List (List ℕ)) × Needs held state command paths × (paths ≢ []) × (next ≡ state) × (others ≡ 1))

-- The commands are answered in order from a state on, and lead to the last state. `others` of them are answered by `cannot read` in the
-- place of their step's reply, and `reads` files are read for all of them.
abbrev pub AreAnswered : FileMap → Machine → List Command → List Reply → ℕ → ℕ → Machine → Type 0
AreAnswered held state [] [] others reads last = (others ≡ 0) × (reads ≡ 0) × (last ≡ state)
AreAnswered held state [] (reply ∷ replies) others reads last = ⊥
AreAnswered held state (command ∷ commands) [] others reads last = ⊥
AreAnswered held state (command ∷ commands) (reply ∷ replies) others reads last =
    (here : ℕ) × (later : ℕ) × (read : ℕ) × (reads_later : ℕ) × (next : Machine) × IsAnswered held state command reply here next
    × IsReadFor held state command here read × AreAnswered held next commands replies later reads_later last × (others ≡ here + later)
    × (reads ≡ read + reads_later)
