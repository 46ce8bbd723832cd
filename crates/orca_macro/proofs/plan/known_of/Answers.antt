use Rattle.std.proofs.Common.{sym, ◌∙◌}
use Rattle.orca_text.specs.View.{line}
use Rattle.orca_macro.proofs.Plans.{rest_fits, line_fits}
use Rattle.orca_macro.proofs.plan.known_of.Goals as goal

pub returns-then-is_comment : goal.returns-then-is_comment
returns-then-is_comment c =
    rest_fits (line c.args.of.now) c.args.text.bytes.now c.skip_sequence_symbol-rest.result.bytes.now c.requires.text c.args.text.short c.requires.other c.requires.plain (sym c.operation_is.ensures ∙ c.if-operation_is.false)
    c.skip_sequence_symbol-rest.ensures.value (sym c.is_comment.ensures ∙ c.if-is_comment.true)

pub returns : goal.returns
returns c =
    line_fits (line c.args.of.now) c.args.text.bytes.now c.skip_sequence_symbol-rest.result.bytes.now c.known_of_statement.result c.requires.text c.args.text.short c.requires.other c.requires.plain (sym c.operation_is.ensures ∙ c.if-operation_is.false)
    c.skip_sequence_symbol-rest.ensures.value (sym c.is_comment.ensures ∙ c.if-is_comment.false) c.known_of_statement.ensures
