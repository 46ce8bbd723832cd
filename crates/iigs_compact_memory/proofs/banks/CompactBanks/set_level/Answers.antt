use Rattle.std.proofs.Common.{refl}
use Rattle.iigs_meaning.specs.declared.wants.Block.{Block}
use Rattle.iigs_compact_memory.proofs.Settled.{settled_changes, same_banks}
use Rattle.iigs_compact_memory.proofs.banks.CompactBanks.set_level.Goals as goal

pub invariant_of-self : goal.invariant_of-self
invariant_of-self c = (
  settled_changes c.self.inside.banks c.set_level.new.self c.args.h (λ (block : Block). record block { level = c.args.level }) (λ b. (refl, refl)) c.self.invariant.0 c.set_level.result c.set_level.ensures.changed c.set_level.ensures.err,
  same_banks c.self.inside.banks c.set_level.new.self c.args.h (λ (block : Block). record block { level = c.args.level }) c.self.inside.plan.banks c.self.invariant.1 c.set_level.result c.set_level.ensures.changed c.set_level.ensures.err,
  same_banks c.self.inside.banks c.set_level.new.self c.args.h (λ (block : Block). record block { level = c.args.level }) c.self.inside.trial.banks c.self.invariant.2 c.set_level.result c.set_level.ensures.changed c.set_level.ensures.err,
  c.self.invariant.3,
)
