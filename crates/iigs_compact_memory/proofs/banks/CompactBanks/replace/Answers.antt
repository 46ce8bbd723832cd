use Rattle.iigs_compact_memory.proofs.Placing.{replaced_banks}
use Rattle.iigs_compact_memory.proofs.banks.CompactBanks.replace.Goals as goal

pub invariant_of-self : goal.invariant_of-self
invariant_of-self c = (
  c.replace.ensures.settled,
  replaced_banks c.self.inside.banks c.replace.new.banks c.args.want.now c.args.h c.self.inside.plan.banks c.self.invariant.1 c.replace.result c.replace.ensures.replaced c.replace.ensures.err,
  c.replace.ensures.banks,
  c.self.invariant.3,
)
