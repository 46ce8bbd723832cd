use Rattle.std.proofs.Common.{ℕ, length, Option, None, ap, ◌∙◌}
use Rattle.std.proofs.lemmas.List.{length-replicate}
use Rattle.sys_loader.proofs.dynamic.places_of.Goals as goal

pub returns-in-Ok-clause-ok : goal.returns-in-Ok-clause-ok
returns-in-Ok-clause-ok c = ap length c.in-Ok.ensures ∙ length-replicate {A = Option ℕ} c.count.result None ∙ c.count.ensures
