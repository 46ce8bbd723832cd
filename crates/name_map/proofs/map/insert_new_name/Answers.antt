use Rattle.std.proofs.Common.{◌≡◌, ℕ, List, cond, Some, subst}
use Rattle.std.specs.Prelude.{bytes_eq, is_none}
use Rattle.name_map.specs.Held.{value_of_name}
use Rattle.name_map.proofs.Maps.{updated, is_new}
use Rattle.name_map.proofs.map.insert_new_name.Goals as goal

pub returns-in-Ok-clause-ok : goal.returns-in-Ok-clause-ok
returns-in-Ok-clause-ok g c =
    λ q. subst (λ (b : List ℕ). value_of_name c.insert.new.self q ≡ cond (bytes_eq b q) (Some c.args.value) (value_of_name c.args.map.now q)) c.in_ok-key.ensures.items
    (updated c.in_ok-key.key.items c.args.map.now c.insert.new.self (Some c.args.value) c.in-Ok.ensures.updates q)

pub returns-in-Ok-clause-fresh : goal.returns-in-Ok-clause-fresh
returns-in-Ok-clause-fresh g c =
    subst (λ (b : List ℕ). c.is_none.result ≡ is_none (value_of_name c.args.map.now b)) c.in_ok-key.ensures.items
    (is_new c.in_ok-key.key.items c.args.map.now c.in-Ok.old c.is_none.result c.in-Ok.ensures.old c.is_none.ensures)
