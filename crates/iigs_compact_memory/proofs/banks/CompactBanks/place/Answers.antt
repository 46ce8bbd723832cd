use Rattle.iigs_compact_memory.proofs.Placing.{placed_banks}
use Rattle.iigs_compact_memory.proofs.banks.CompactBanks.place.Goals as goal

pub invariant_of-self : goal.invariant_of-self
invariant_of-self c = (
  c.place.ensures.settled,
  placed_banks c.self.inside.banks c.place.new.banks c.args.want.now c.args.user c.args.locked c.args.level c.args.movable c.self.inside.plan.banks c.self.invariant.1 c.place.result c.place.ensures.placed c.place.ensures.err,
  c.place.ensures.banks,
  c.self.invariant.3,
)
