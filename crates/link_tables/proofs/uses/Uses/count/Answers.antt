use Rattle.std.proofs.Common.{length, sym, ap, ◌∙◌}
use Rattle.link_tables.proofs.UseTables.{sites_count}
use Rattle.link_tables.proofs.uses.Uses.count.Goals as goal

pub returns : goal.returns
returns c = ap length c.as_slice.ensures.value ∙ sym (sites_count c.self.inside.wants.items c.self.inside.sites.items c.self.invariant) ∙ ap length c.self.view_is
