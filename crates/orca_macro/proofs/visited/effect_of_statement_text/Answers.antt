use Rattle.std.proofs.Common.{sym, ◌∙◌}
use Rattle.orca_text.specs.View.{fields}
use Rattle.orca_macro.specs.EffectView.{where_}
use Rattle.orca_macro.proofs.Both.{statement_ok}
use Rattle.orca_macro.proofs.visited.effect_of_statement_text.Goals as goal

pub returns-in-Some : goal.returns-in-Some
returns-in-Some c =
    statement_ok (where_ c.args.at) c.args.text.bytes.now (fields c.three_fields-fields.result) c.part-operation.result.bytes.now c.part-label.result.bytes.now c.part-operand.result.bytes.now c.in-Some.found c.effect_of_statement-in-Some.result
    c.three_fields-fields.ensures.value c.part-operation.ensures.value c.part-label.ensures.value c.part-operand.ensures.value (sym c.is_empty.ensures ∙ c.if-is_empty.false) c.in-Some.ensures c.effect_of_statement-in-Some.ensures
