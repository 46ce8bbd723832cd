use Rattle.std.proofs.Common.{map, sym, ap, ◌∙◌}
use Rattle.asm_meaning.specs.Instruction.{modes_of_form}
use Rattle.orca_operands.specs.ModeView.{widths}
use Rattle.orca_operands.specs.NamesView.{constants}
use Rattle.orca_text.specs.View.{term}
use Rattle.orca_operands.proofs.ByFormulas.{bare_case, bare_is, empty_list}
use Rattle.orca_operands.proofs.instruction.by_formulas.Goals as goal

pub returns-then-is_empty : goal.returns-then-is_empty
returns-then-is_empty c = λ mn written good.
    bare_case c.args.operand.now mn (constants c.args.known) (widths c.args.of) c.args.mnemonic c.args.first (modes_of_form c.args.mnemonic mn.form mn.prefix) _ c.in_default.is
    (sym c.terms-2.ensures ∙ ap (map term) (empty_list c.terms-2.result.now (sym c.is_empty.ensures ∙ c.if-is_empty.true)))
    (bare_is c.args.mnemonic c.args.first _ c.operand_bytes-width.result _ c.with_number.ensures c.operand_bytes-width.ensures.value) written
