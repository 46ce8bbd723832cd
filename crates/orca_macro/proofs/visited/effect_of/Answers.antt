use Rattle.std.proofs.Common.{sym, ◌∙◌}
use Rattle.orca_text.specs.View.{line}
use Rattle.orca_macro.specs.EffectView.{where_}
use Rattle.orca_macro.proofs.Both.{plain_ok}
use Rattle.orca_macro.proofs.visited.effect_of.Goals as goal

pub returns-then-is_plain : goal.returns-then-is_plain
returns-then-is_plain c =
    plain_ok (where_ c.args.at) (line c.args.of.now) c.bytes-text.result.now c.effect_of_text.result c.bytes-text.ensures.value (sym c.is_comment.ensures ∙ c.if-is_comment.false)
    (sym c.is_plain.ensures ∙ c.if-is_plain.true) c.effect_of_text.ensures
