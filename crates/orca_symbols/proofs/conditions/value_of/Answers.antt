use Rattle.std.proofs.Common.{◌∙◌}
use Rattle.macro_meaning.specs.Condition.{symbol_environment}
use Rattle.orca_symbols.specs.View.{values}
use Rattle.orca_symbols.proofs.Numbers.{evaluated, not_refused, written_is}
use Rattle.orca_symbols.proofs.conditions.value_of.Goals as goal

pub returns-in-Ok : goal.returns-in-Ok
returns-in-Ok c = λ tree spells.
    c.number_of.ensures
    ∙ evaluated (symbol_environment (values c.args.of)) c.as_slice.result.now _ c.in-Ok.expr c.of.result c.evaluate.result (written_is _ _ _ _ c.as_slice.ensures.value c.in_ok-bytes.ensures c.terms.ensures) c.in-Ok.is
    c.of.ensures.only c.evaluate.ensures.value tree spells

pub returns : goal.returns
returns c = λ tree spells.
    absurd (not_refused c.as_slice.result.now _ c.in-Err.field-0 c.of.result (written_is _ _ _ _ c.as_slice.ensures.value c.in_ok-bytes.ensures c.terms.ensures) c.in-Err.is c.of.ensures.only tree spells)
