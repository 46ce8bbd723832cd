use Rattle.std.proofs.Common.{◌≡◌, ◌∙◌, sym, ap, true, false}
use Rattle.iigs_meaning.specs.Slots.{is_free}
use Rattle.iigs_handles.proofs.SlotLemmas.{IsSound-free, IsSound-retire, live_inside, live_taken}
use Rattle.iigs_handles.proofs.table.Handles.release.Goals as goal

pub invariant_of-self : goal.invariant_of-self
invariant_of-self g c =
    let live = rw (← c.self.view_is) at c.if-not-is_live.ensures in
    let freed : is_free c.replace-old.new.dest ≡ true = ap is_free c.replace-old.ensures.after ∙ sym c.is_free-goes_on.ensures ∙ c.if-goes_on.true in
    rw c.min-self-inside.ensures (IsSound-free c.self.inside.slots.items c.self.inside.first c.self.inside.free c.self.inside.end c.args.h.slot c.replace-old.new.dest c.self.invariant (live_inside c.self.inside.slots.items c.args.h live) (live_taken c.self.inside.slots.items c.args.h live) freed)

pub invariant_of-self-else-goes_on : goal.invariant_of-self-else-goes_on
invariant_of-self-else-goes_on g c =
    let live = rw (← c.self.view_is) at c.if-not-is_live.ensures in
    let retired : is_free c.replace-old.new.dest ≡ false = ap is_free c.replace-old.ensures.after ∙ sym c.is_free-goes_on.ensures ∙ c.if-goes_on.false in
    IsSound-retire c.self.inside.slots.items c.self.inside.first c.self.inside.free c.self.inside.end c.args.h.slot c.replace-old.new.dest c.self.invariant (live_inside c.self.inside.slots.items c.args.h live) (live_taken c.self.inside.slots.items c.args.h live) retired
