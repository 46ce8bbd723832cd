use Rattle.std.proofs.Common.{sym, ◌∙◌}
use Rattle.list_lines.proofs.PartLaws.{one_answer, two_answer}
use Rattle.list_lines.proofs.formula.apply_operator.Goals as goal

pub returns-then-is_unary : goal.returns-then-is_unary
returns-then-is_unary c =
    one_answer c.over_one.result c.args.code c.args.parts.now.items c.pop.new.self.items c.in-Some.right c.in-Some.ensures.items (sym c.is_unary.ensures ∙ c.if-is_unary.true) c.over_one.ensures.text c.over_one.ensures.alone

pub returns : goal.returns
returns c =
    two_answer c.over_two.result c.args.code c.args.parts.now.items c.pop.new.self.items c.pop-2.new.self.items c.in-Some-pop.left c.in-Some.right c.in-Some.ensures.items c.in-Some-pop.ensures.items (sym c.is_unary.ensures ∙ c.if-is_unary.false)
    c.over_two.ensures.text c.over_two.ensures.alone
