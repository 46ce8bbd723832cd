use Rattle.iigs_compact_memory.proofs.Settled.{settled_freed, freed_banks}
use Rattle.iigs_compact_memory.proofs.banks.CompactBanks.free.Goals as goal

pub invariant_of-self : goal.invariant_of-self
invariant_of-self c = (
  settled_freed c.self.inside.banks c.free.new.self c.args.h c.self.invariant.0 c.free.result c.free.ensures.freed c.free.ensures.err,
  freed_banks c.self.inside.banks c.free.new.self c.args.h c.self.inside.plan.banks c.self.invariant.1 c.free.result c.free.ensures.freed c.free.ensures.err,
  freed_banks c.self.inside.banks c.free.new.self c.args.h c.self.inside.trial.banks c.self.invariant.2 c.free.result c.free.ensures.freed c.free.ensures.err,
  c.self.invariant.3,
)
