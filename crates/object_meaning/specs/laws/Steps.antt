-- Steps of definitions, as words of laws and of contracts between functions.
use Rattle.std.specs.Prelude.{List, ℕ, ◌∷◌, [], None, Option, Some}
use Rattle.omf_format.specs.Expression.{Tree}
use Rattle.object_meaning.specs.Terms.{asked_by}

abbrev pub last_tree : List Tree → Option Tree
last_tree [] = None
last_tree (tree ∷ trees) = Some tree

abbrev pub asked_in : Option Tree → List (List ℕ)
asked_in None = []
asked_in (Some tree) = asked_by tree
