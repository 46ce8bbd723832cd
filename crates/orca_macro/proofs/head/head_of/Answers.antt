use Rattle.std.proofs.Common.{refl, sym, ◌∙◌, arith}
use Rattle.orca_text.specs.View.{fields}
use Rattle.orca_macro.proofs.Heads.{head_is}
use Rattle.orca_macro.proofs.head.head_of.Goals as goal

pub returns : goal.returns
returns c =
    head_is _ c.args.front.bytes.now c.skip_sequence_symbol-text.result.bytes.now (fields c.three_fields-fields.result) c.part-operation.result.bytes.now c.skip_sequence_symbol-text.ensures.value (sym c.is_comment.ensures ∙ c.if-is_comment.false)
    c.three_fields-fields.ensures.value c.part-operation.ensures.value (omega (arith, c.if-fields-text.false)) (sym c.is_empty.ensures ∙ c.if-is_empty.false) refl refl refl c.in_ok-to_upper_case.ensures c.statement_of.ensures
