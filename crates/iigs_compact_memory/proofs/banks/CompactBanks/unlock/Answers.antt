use Rattle.std.proofs.Common.{false, refl}
use Rattle.iigs_meaning.specs.declared.wants.Block.{Block}
use Rattle.iigs_compact_memory.proofs.Settled.{settled_changes, same_banks}
use Rattle.iigs_compact_memory.proofs.banks.CompactBanks.unlock.Goals as goal

pub invariant_of-self : goal.invariant_of-self
invariant_of-self c = (
  settled_changes c.self.inside.banks c.unlock.new.self c.args.h (λ (block : Block). record block { locked = false }) (λ b. (refl, refl)) c.self.invariant.0 c.unlock.result c.unlock.ensures.changed c.unlock.ensures.err,
  same_banks c.self.inside.banks c.unlock.new.self c.args.h (λ (block : Block). record block { locked = false }) c.self.inside.plan.banks c.self.invariant.1 c.unlock.result c.unlock.ensures.changed c.unlock.ensures.err,
  same_banks c.self.inside.banks c.unlock.new.self c.args.h (λ (block : Block). record block { locked = false }) c.self.inside.trial.banks c.self.invariant.2 c.unlock.result c.unlock.ensures.changed c.unlock.ensures.err,
  c.self.invariant.3,
)
