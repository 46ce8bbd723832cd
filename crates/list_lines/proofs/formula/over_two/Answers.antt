use Rattle.std.proofs.Common.{◌++◌, [], List, ℕ, take, ap, ◌∙◌}
use Rattle.list_meaning.specs.Listed.{operator_text}
use Rattle.list_lines.specs.FormulaView.{parenthesized}
use Rattle.list_lines.proofs.PartLaws.{put_both}
use Rattle.list_lines.proofs.formula.over_two.Goals as goal

pub returns-clause-text : goal.returns-clause-text
returns-clause-text c =
    let left = parenthesized c.args.left.now.alone c.args.left.now.text in
    let right = operator_text c.args.code ++ parenthesized c.args.right.now.alone c.args.right.now.text in
    put_both [] left right c.put_operand.new.text c.put_right.new.text (c.in_ok-put_operand.ensures ∙ ap (λ (l : List ℕ). take 256 (l ++ left)) c.new-text.ensures) c.in_ok-put_right.ensures
