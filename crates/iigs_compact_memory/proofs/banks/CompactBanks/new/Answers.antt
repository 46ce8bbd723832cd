use Rattle.std.proofs.Common.{◌∙◌, sym, arith}
use Rattle.iigs_compact_memory.proofs.Settled.{settled_new}
use Rattle.iigs_compact_memory.proofs.banks.CompactBanks.new.Goals as goal

pub invariant_of-result : goal.invariant_of-result
invariant_of-result c = (
  rw c.in_ok-new.ensures.made.slots (settled_new c.in_ok-new.field-0.banks),
  c.in_ok-plan.ensures.made.0 ∙ sym c.in_ok-new.ensures.made.banks_are,
  c.in_ok-trial.ensures.made.0 ∙ sym c.in_ok-new.ensures.made.banks_are,
  omega (arith, c.in-Ok.ensures.capacity),
)
