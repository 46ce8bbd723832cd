use Rattle.std.proofs.Common.{◌≡◌, ℕ, List, false, sym, subst}
use Rattle.std.specs.Prelude.{bytes_eq}
use Rattle.name_map.proofs.Maps.{passed}
use Rattle.name_map.proofs.map.look_through.Goals as goal

pub names-preserved : goal.names-preserved
names-preserved g c =
    let other = subst (λ (b : List ℕ). bytes_eq c.args.name.now b ≡ false) c.as_slice.ensures.value (sym c.if-is_same.ensures) in
    passed c.args.name.now c.args.map.now c.names.at c.in_ok-key.key.now c.in_ok-key.value.now c.in_ok-key.ensures.entry other c.names.invariant
