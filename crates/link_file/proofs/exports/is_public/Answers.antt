use Rattle.std.proofs.Common.{Bool, eqb, sym, ap, ◌∙◌}
use Rattle.std.specs.Prelude.{◌&&◌}
use Rattle.link_file.proofs.ExportLaws.{scope_public}
use Rattle.link_file.proofs.exports.is_public.Goals as goal

pub returns-then-global : goal.returns-then-global
returns-then-global c = sym (scope_public c.args.global c.args.private ∙ ap (λ (b : Bool). b && eqb c.args.private 0) c.if-global.true)

pub returns-else-global : goal.returns-else-global
returns-else-global c = c.if-global.false ∙ sym (scope_public c.args.global c.args.private ∙ ap (λ (b : Bool). b && eqb c.args.private 0) c.if-global.false)
