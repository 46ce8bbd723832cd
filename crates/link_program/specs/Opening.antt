-- Whether one more member can open a use again that finds something.
use Rattle.std.specs.Prelude.{ℕ, List, [], ◌∷◌, ◌++◌}
use Rattle.link_meaning.specs.First.{IsIn}
use Rattle.link_meaning.specs.Member.{Member}
use Rattle.link_meaning.specs.Search.{only_place, finds_data}

-- with the member after the list, each name of USING that found one data segment finds it still
abbrev pub OpensNothing : List Member → Member → Type 0
OpensNothing list m = (u : Member) (name : List ℕ) (n : ℕ) → IsIn (only_place (finds_data list u name)) n → IsIn (only_place (finds_data (list ++ m ∷ []) u name)) n
