use Rattle.std.proofs.Common.{subst, sym, ◌∙◌}
use Rattle.std.specs.Prelude.{option_map}
use Rattle.omf_format.specs.Expression.{Expression, Spells}
use Rattle.omf_expr.specs.View.{view}
use Rattle.list_lines.proofs.TermLaws.{number_read}
use Rattle.w65_list.proofs.records.number_in.Goals as goal

pub returns : goal.returns
returns c =
    λ tree spells.
    let e = c.spelled-expr.result in
    let front = c.front_of.result in
    let spelled = subst (λ (e : Expression). Spells e.lab_len e.text tree) (sym c.spelled-expr.ensures) spells in
    c.number.ensures ∙ number_read e tree (option_map view front.first) (option_map view front.second) spelled c.front_of.ensures.first c.front_of.ensures.second
