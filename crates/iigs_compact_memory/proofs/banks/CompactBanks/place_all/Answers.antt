use Rattle.std.proofs.Common.{◌∙◌, sym}
use Rattle.iigs_compact_memory.proofs.AllPlaced.{all_at_once, all_settled}
use Rattle.iigs_compact_memory.proofs.banks.CompactBanks.place_all.Goals as goal

pub invariant_of-self : goal.invariant_of-self
invariant_of-self c = (
  all_settled c.self.inside.banks c.place_all.new.self c.args.user c.args.fresh c.args.wants.now c.place_all.new.handles c.in-Ok.ensures.placed c.requires.wants c.self.invariant.0,
  c.self.invariant.1 ∙ sym c.in-Ok.ensures.placed.kept.banks,
  c.self.invariant.2 ∙ sym c.in-Ok.ensures.placed.kept.banks,
  c.self.invariant.3,
)

pub returns-in-Ok-clause-placed : goal.returns-in-Ok-clause-placed
returns-in-Ok-clause-placed c = rw (← c.self.view_is) (all_at_once c.self.inside.banks c.place_all.new.self c.args.user c.args.fresh c.args.wants.now c.place_all.new.handles c.in-Ok.ensures.placed)
