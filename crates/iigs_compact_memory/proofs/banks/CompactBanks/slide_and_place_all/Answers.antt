use Rattle.std.proofs.Common.{◌∙◌, length, sym, ap}
use Rattle.iigs_meaning.specs.Slide.{PurgesOrSlides}
use Rattle.iigs_compact_memory.proofs.AllPlaced.{as_many, start_settled, began_settled, all_after}
use Rattle.iigs_compact_memory.proofs.banks.CompactBanks.slide_and_place_all.Goals as goal

pub plan_all-requires-clause-settled : goal.plan_all-requires-clause-settled
plan_all-requires-clause-settled c = start_settled c.self.inside.banks c.self.inside.plan c.start_from.new.self c.args.user c.args.fresh c.self.invariant.1 (rw c.places.ensures at c.start_from.ensures) c.self.invariant.0

pub place_each-requires-clause-settled : goal.place_each-requires-clause-settled
place_each-requires-clause-settled c = began_settled c.self.inside.banks c.release.new.banks c.args.user c.args.fresh c.args.wants.now c.release.ensures.slots c.release.ensures.kept c.self.invariant.0

pub copy_from_slice-requires : goal.copy_from_slice-requires
copy_from_slice-requires c = c.requires.lengths
    ∙ sym (as_many PurgesOrSlides c.release.new.banks.banks c.args.user c.release.new.banks.slots c.place_each.new.banks.slots c.args.wants.now c.place_each.new.handles.items c.place_each.ensures.puts)
    ∙ ap length (sym c.deref.ensures.value)

pub returns-clause-placed : goal.returns-clause-placed
returns-clause-placed c = rw (← c.self.view_is, c.copy_from_slice.ensures.after, c.deref.ensures.value)
    (all_after c.self.inside.banks c.release.new.banks c.args.user c.args.fresh c.args.wants.now c.release.ensures.slots c.release.ensures.kept c.place_each.new.banks c.place_each.new.handles.items
    (rw (← c.self.view_is) at c.requires.enough) c.place_each.ensures.puts c.place_each.ensures.zeros c.place_each.ensures.kept c.place_each.ensures.there)
