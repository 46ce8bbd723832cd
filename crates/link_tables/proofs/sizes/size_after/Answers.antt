use Rattle.std.proofs.Common.{sym, ◌∙◌}
use Rattle.omf_records.specs.View.{view}
use Rattle.object_meaning.specs.Sizes.{size_at}
use Rattle.link_tables.proofs.Sized.{after_past}
use Rattle.link_tables.proofs.sizes.size_after.Goals as goal

pub returns-in-None : goal.returns-in-None
returns-in-None c = λ n reported. after_past n (size_at n (view c.args.rec.now)) (sym c.in-None.is ∙ reported)
