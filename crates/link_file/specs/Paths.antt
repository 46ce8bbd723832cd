-- The paths of a program's run-time library files.
use Rattle.std.specs.Prelude.{ℕ, List, map}
use Rattle.link_meaning.specs.Member.{Member, setting_in}

-- in the order of their numbers
abbrev pub paths_of : List Member → List (List ℕ)
paths_of list = map (λ r. r.path) (setting_in list).runtimes
