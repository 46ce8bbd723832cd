use Rattle.std.proofs.Common.{◌++◌, Bool, List, ℕ, take, sym, ap, ◌∙◌}
use Rattle.std.proofs.lemmas.Result.{on_ok_weaker}
use Rattle.list_lines.specs.FormulaView.{parenthesized}
use Rattle.list_lines.proofs.PartLaws.{enclosed_put}
use Rattle.list_lines.proofs.formula.put_operand.Goals as goal

pub returns : goal.returns
returns c =
    let text = c.args.part.now.text in
    let middle = c.in_ok-append_capped-2.ensures ∙ ap (λ (l : List ℕ). take 256 (c.append_capped-2.new.text ++ l)) c.bytes-2.ensures in
    on_ok_weaker c.append_capped-4.result (λ last. enclosed_put c.args.text.now text c.append_capped-2.new.text c.append_capped-3.new.text c.append_capped-4.new.text c.in_ok-append_capped.ensures middle last
    ∙ ap (λ (b : Bool). take 256 (c.args.text.now ++ parenthesized b text)) (sym c.if-part.false)) c.append_capped-4.ensures
