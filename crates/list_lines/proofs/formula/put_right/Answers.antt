use Rattle.std.proofs.Common.{◌++◌, List, ℕ, take, ap, ◌∙◌}
use Rattle.std.proofs.lemmas.Result.{on_ok_weaker}
use Rattle.list_meaning.specs.Listed.{operator_text}
use Rattle.list_lines.specs.FormulaView.{parenthesized}
use Rattle.list_lines.proofs.PartLaws.{put_both}
use Rattle.list_lines.proofs.formula.put_right.Goals as goal

pub returns : goal.returns
returns c =
    let first = c.in_ok-append_capped.ensures ∙ ap (λ (l : List ℕ). take 256 (c.args.text.now ++ l)) (c.as_bytes.ensures.value ∙ c.operator_text.ensures) in
    on_ok_weaker c.put_operand.result (λ e. put_both c.args.text.now (operator_text c.args.code) (parenthesized c.args.part.now.alone c.args.part.now.text) c.append_capped.new.text c.put_operand.new.text first e) c.put_operand.ensures
