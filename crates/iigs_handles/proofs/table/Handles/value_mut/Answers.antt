use Rattle.std.proofs.Common.{sym, refl}
use Rattle.iigs_handles.proofs.SlotLemmas.{IsSound-retire, live_inside, live_taken}
use Rattle.iigs_handles.proofs.table.Handles.value_mut.Goals as goal

pub invariant_of-self-lent : goal.invariant_of-self-lent
invariant_of-self-lent g c w =
    let live = rw (← c.self.view_is) at (sym c.requires) in
    IsSound-retire c.self.inside.slots.items c.self.inside.first c.self.inside.free c.self.inside.end c.args.h.slot _ c.self.invariant (live_inside c.self.inside.slots.items c.args.h live) (live_taken c.self.inside.slots.items c.args.h live) refl
