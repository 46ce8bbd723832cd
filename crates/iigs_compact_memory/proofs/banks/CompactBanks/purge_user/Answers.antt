use Rattle.std.proofs.Common.{sym, ◌∙◌}
use Rattle.iigs_compact_memory.proofs.Settled.{settled_purged}
use Rattle.iigs_compact_memory.proofs.banks.CompactBanks.purge_user.Goals as goal

pub invariant_of-self : goal.invariant_of-self
invariant_of-self c = (
  settled_purged c.self.inside.banks c.purge_user.new.self c.args.user c.purge_user.result c.self.invariant.0 c.purge_user.ensures,
  c.self.invariant.1 ∙ sym c.purge_user.ensures.kept.banks,
  c.self.invariant.2 ∙ sym c.purge_user.ensures.kept.banks,
  c.self.invariant.3,
)
