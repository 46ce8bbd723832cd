use Rattle.std.proofs.Common.{ℕ, List, ◌++◌, ap, ◌∙◌}
use Rattle.orca_operands.specs.TextView.{text_within_limit}
use Rattle.orca_operands.proofs.FewLaws.{given_few, given_operand}
use Rattle.orca_operands.proofs.After.{then_ok}
use Rattle.orca_operands.proofs.encoding.Encoding.put.Goals as goal

pub returns-in-Bytes : goal.returns-in-Bytes
returns-in-Bytes c =
    then_ok c.put_few.result (λ put text is. put text is ∙ ap (λ (l : List ℕ). text_within_limit (text ++ l)) (given_few c.args.self.now c.in-Bytes.few c.in-Bytes.is)) c.put_few.ensures

pub returns-in-Operand : goal.returns-in-Operand
returns-in-Operand c =
    then_ok c.put_operand.result (λ put text is. put text is
    ∙ ap (λ (l : List ℕ). text_within_limit (text ++ l)) (given_operand c.args.self.now c.in-Operand.opcode c.in-Operand.code c.in-Operand.count c.in-Operand.n c.in-Operand.expr c.as_slice.result.now c.in-Operand.is c.as_slice.ensures.value))
    c.put_operand.ensures
