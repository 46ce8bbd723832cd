-- How a map is seen: what it has for a name.
use Rattle.std.specs.Prelude.{ℕ, List, Option, bytes_eq}
use Rattle.std.specs.Global.{Vec}
use Rattle.indexmap.specs.IndexMap.{IndexMap, get_by}

-- the value of a name, if it has one
abbrev pub value_of_name : {V S : Type 0} → IndexMap (Vec ℕ) V S → List ℕ → Option V
value_of_name map name = get_by (λ k. bytes_eq name k.items) map
