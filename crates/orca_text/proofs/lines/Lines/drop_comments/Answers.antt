use Rattle.std.proofs.Common.{List, arith, rules, ap, ◌∙◌}
use Rattle.std.specs.Prelude.{not}
use Rattle.std.specs.List.{filter}
use Rattle.std.proofs.lemmas.Fn.{filter_same}
use Rattle.orca_meaning.specs.Line.{Line, is_comment}
use Rattle.orca_text.specs.declared.decoded_line.DecodedLine.{DecodedLine}
use Rattle.orca_text.proofs.Own.{dropped, own_left}
use Rattle.orca_text.proofs.lines.Lines.drop_comments.Goals as goal

pub invariant_of-self : goal.invariant_of-self
invariant_of-self c =
    let left = filter_same _ (λ (l : DecodedLine). not (is_comment l.line.text)) _ (λ x b f' k. search rules) _ _ c.retain.ensures.filtered in (
      own_left c.self.inside.lines.items c.retain.new.self.items left c.self.invariant.0,
      omega (arith, c.retain.ensures.bound, c.self.invariant.1),
    )

pub returns : goal.returns
returns c =
    let left = filter_same _ (λ (l : DecodedLine). not (is_comment l.line.text)) _ (λ x b f' k. search rules) _ _ c.retain.ensures.filtered in
    dropped c.self.inside.lines.items c.retain.new.self.items left ∙ ap (λ (ls : List Line). filter (λ (l : Line). not (is_comment l.text)) ls) c.self.view_is
