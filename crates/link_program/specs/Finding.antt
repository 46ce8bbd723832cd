-- What a name finds, by number.
use Rattle.std.specs.Prelude.{◌≡◌, ℕ, List, [], ◌∷◌, Option, Some, None, slice_get}
use Rattle.link_meaning.specs.Member.{Member}
use Rattle.link_meaning.specs.Search.{FoundDefinition, finds}
use Rattle.link_program.specs.Linked.{member_at}

-- the number, among all, of the first that was found
abbrev pub IsFirstOf : List FoundDefinition → List FoundDefinition → Option ℕ → Type 0
IsFirstOf all [] None = Unit {0}
IsFirstOf all [] (Some n) = ⊥
IsFirstOf all (f ∷ found) None = ⊥
IsFirstOf all (f ∷ found) (Some n) = slice_get all n ≡ Some f

-- what a name finds in a member, if there is one
abbrev pub finds_for : List Member → ℕ → Option Member → List ℕ → List FoundDefinition
finds_for list place None name = []
finds_for list place (Some m) name = finds list place m name

-- what a name finds in the member at a place, from 1
abbrev pub found_in : List Member → ℕ → List ℕ → List FoundDefinition
found_in list place name = finds_for list place (member_at list place) name
