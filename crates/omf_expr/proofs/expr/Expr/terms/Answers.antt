use Rattle.std.proofs.Common.{◌∙◌, ap}
use Rattle.omf_format.specs.Expression.{Expression, terms_in}
use Rattle.omf_format.specs.laws.ExpressionLaws.{terms_are}
use Rattle.omf_expr.proofs.expr.Expr.terms.Goals as goal

pub returns-clause-tree : goal.returns-clause-tree
returns-clause-tree c tree is =
    c.of.ensures ∙ ap (λ (e : Expression). terms_in e.lab_len 0 e.text) c.self.view_is ∙ terms_are c.args.self.now.lab_len c.args.self.now.text tree is
