-- What a map has for a name, as it is seen, once it was changed.
use Rattle.std.proofs.Common.{◌≡◌, ℕ, Bool, true, false, cond, List, Option, Some, None, refl, ap, ◌∙◌}
use Rattle.std.specs.Prelude.{bytes_eq, is_none}
use Rattle.std.specs.Global.{Vec}
use Rattle.indexmap.specs.IndexMap.{IndexMap}
use Rattle.std.specs.Option.{option_map}
use Rattle.std.proofs.Math.Path.{fun_ext}
use Rattle.orca_meaning.specs.Names.{with_name}
use Rattle.name_map.specs.Held.{value_of_name}

-- as it is seen
pub named : {V B S : Type 0} (f : V → B) (name : List ℕ) (value : V) (m n : IndexMap (Vec ℕ) V S) → ((q : List ℕ) → value_of_name n q ≡ cond (bytes_eq name q) (Some value) (value_of_name m q))
    → (λ (q : List ℕ). option_map f (value_of_name n q)) ≡ with_name name (f value) (λ (q : List ℕ). option_map f (value_of_name m q))
named {V = V} {B = B} f name value m n h = fun_ext (λ q. ap (option_map f) (h q) ∙ by_test (bytes_eq name q) (value_of_name m q))
  where
    by_test : (b : Bool) (old : Option V) → option_map f (cond b (Some value) old) ≡ cond b (Some (f value)) (option_map f old)
    by_test true old = refl
    by_test false old = refl

-- a name without a value has none as it is seen
pub seen_new : {V B : Type 0} (f : V → B) (found : Option V) (fresh : Bool) → fresh ≡ is_none found → fresh ≡ is_none (option_map f found)
seen_new f None fresh is = is
seen_new f (Some value) fresh is = is
