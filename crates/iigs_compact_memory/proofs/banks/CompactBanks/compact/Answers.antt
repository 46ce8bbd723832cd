use Rattle.std.proofs.Common.{◌∙◌, sym}
use Rattle.iigs_meaning.specs.laws.SlideLaws.{no_address_rises}
use Rattle.iigs_compact_memory.proofs.Compacted.{began_settled, whole_banks, whole_planned, whole_slides, whole_slid, whole_settled}
use Rattle.iigs_compact_memory.proofs.banks.CompactBanks.compact.Goals as goal

pub start_from-requires : goal.start_from-requires
start_from-requires c = rw c.places.ensures c.self.invariant.2

pub slide-requires : goal.slide-requires
slide-requires c = began_settled c.self.inside.banks c.self.inside.trial c.start_from.new.self c.self.invariant.2 (rw c.places.ensures at c.start_from.ensures) c.self.invariant.0

pub carry_out-requires-clause-planned : goal.carry_out-requires-clause-planned
carry_out-requires-clause-planned c = whole_planned c.self.inside.banks c.self.inside.trial c.start_from.new.self c.self.invariant.2 (rw c.places.ensures at c.start_from.ensures)
    c.slide.new.self c.slide.ensures.slides c.slide.ensures.banks

pub invariant_of-self : goal.invariant_of-self
invariant_of-self c = (
  whole_settled c.self.inside.banks c.self.inside.trial c.start_from.new.self c.self.invariant.2 (rw c.places.ensures at c.start_from.ensures)
      c.slide.new.self c.slide.ensures.slides c.slide.ensures.banks c.carry_out.new.banks c.carry_out.ensures.slots c.carry_out.ensures.kept c.self.invariant.0,
  c.self.invariant.1 ∙ sym c.carry_out.ensures.kept.banks,
  whole_banks c.self.inside.banks c.self.inside.trial c.start_from.new.self c.self.invariant.2 (rw c.places.ensures at c.start_from.ensures)
      c.slide.new.self c.slide.ensures.slides c.slide.ensures.banks ∙ sym c.carry_out.ensures.kept.banks,
  c.self.invariant.3,
)

pub returns-clause-slid : goal.returns-clause-slid
returns-clause-slid c = rw (← c.self.view_is) (whole_slid c.self.inside.banks c.self.inside.trial c.start_from.new.self c.self.invariant.2 (rw c.places.ensures at c.start_from.ensures)
    c.slide.new.self c.slide.ensures.slides c.slide.ensures.banks c.carry_out.new.banks c.carry_out.ensures.slots c.carry_out.ensures.kept)

pub returns-clause-count : goal.returns-clause-count
returns-clause-count c = rw (← c.self.view_is) c.carry_out.ensures.count

pub returns-clause-none_rises : goal.returns-clause-none_rises
returns-clause-none_rises c = rw (← c.self.view_is) (no_address_rises c.self.inside.banks.banks c.self.inside.banks.slots c.carry_out.new.banks.slots c.blocks_lie_apart.ensures c.self.invariant.0
    (whole_slides c.self.inside.banks c.self.inside.trial c.start_from.new.self c.self.invariant.2 (rw c.places.ensures at c.start_from.ensures)
    c.slide.new.self c.slide.ensures.slides c.slide.ensures.banks c.carry_out.new.banks c.carry_out.ensures.slots c.carry_out.ensures.kept))
