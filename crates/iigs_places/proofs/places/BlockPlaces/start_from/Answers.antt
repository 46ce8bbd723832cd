use Rattle.std.proofs.Common.{◌≡◌, ℕ, List, sym, subst}
use Rattle.iigs_meaning.specs.Puts.{slots_for}
use Rattle.iigs_places.specs.Arranged.{IsArranged}
use Rattle.iigs_places.proofs.Starts.{start_arranged}
use Rattle.iigs_places.proofs.places.BlockPlaces.start_from.Goals as goal

pub lay_all-requires-clause-bounded : goal.lay_all-requires-clause-bounded
lay_all-requires-clause-bounded c = rw c.start_plan.ensures (start_arranged c.other.inside.map c.other.inside.table c.args.user c.args.fresh c.other.invariant.0).bounded

pub invariant_of-self : goal.invariant_of-self
invariant_of-self c =
    let same : c.self.inside.map ≡ c.other.inside.map = rw (← c.self.view_is, ← c.other.view_is) at c.requires in
    let arranged : IsArranged c.self.inside.map (slots_for c.other.inside.table c.args.user c.args.fresh) =
    subst (λ (banks : List ℕ). IsArranged banks (slots_for c.other.inside.table c.args.user c.args.fresh)) (sym same) (start_arranged c.other.inside.map c.other.inside.table c.args.user c.args.fresh c.other.invariant.0) in
    rw c.start_plan.ensures (arranged, rw c.start_plan.ensures at c.lay_all.ensures.laid, c.self.invariant.2, c.self.invariant.3)
