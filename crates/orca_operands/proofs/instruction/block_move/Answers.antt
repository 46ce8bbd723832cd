use Rattle.std.proofs.Common.{ℕ, ap, ◌∙◌}
use Rattle.asm_meaning.specs.Constant.{amount}
use Rattle.asm_meaning.specs.Instruction.{opcode_in, banks_written}
use Rattle.orca_operands.specs.AmountView.{kept_view}
use Rattle.orca_operands.specs.Chosen.{bank_of_amount}
use Rattle.orca_operands.specs.GivenView.{given_pieces}
use Rattle.orca_operands.specs.NamesView.{constants}
use Rattle.orca_operands.proofs.Instructed.{refused, both_banks, first_bank, second_bank, no_bank}
use Rattle.orca_operands.proofs.instruction.block_move.Goals as goal

pub returns-in-Err-and_bank : goal.returns-in-Err-and_bank
returns-in-Err-and_bank c = λ s d p q.
    let x = amount (constants c.args.known) s in
    let y = amount (constants c.args.known) d in
    second_bank (opcode_in c.args.mnemonic c.args.mode) (bank_of_amount x) (bank_of_amount y) c.in-Err-and_bank.cause (kept_view c.in-Ok.from) (c.in-Ok.ensures.bank x 2 (c.in_ok-first.ensures s p))
    (c.in-Err-and_bank.ensures.bank y 1 (c.in_ok-second.ensures d q))

pub returns-in-Ok-and_bank-2 : goal.returns-in-Ok-and_bank-2
returns-in-Ok-and_bank-2 c = λ s d p q.
    let x = amount (constants c.args.known) s in
    let y = amount (constants c.args.known) d in
    first_bank (opcode_in c.args.mnemonic c.args.mode) (bank_of_amount x) (bank_of_amount y) c.in-Err.cause (kept_view c.in-Ok-and_bank-2._to) (c.in-Err.ensures.bank x 2 (c.in_ok-first.ensures s p))
    (c.in-Ok-and_bank-2.ensures.bank y 1 (c.in_ok-second.ensures d q))

pub returns-in-Err-and_bank-2 : goal.returns-in-Err-and_bank-2
returns-in-Err-and_bank-2 c = λ s d p q.
    let x = amount (constants c.args.known) s in
    let y = amount (constants c.args.known) d in
    ap refused c.earlier.ensures
    ∙ no_bank (opcode_in c.args.mnemonic c.args.mode) (bank_of_amount x) (bank_of_amount y) c.in-Err.cause c.in-Err-and_bank-2.other (c.in-Err.ensures.bank x 2 (c.in_ok-first.ensures s p))
    (c.in-Err-and_bank-2.ensures.bank y 1 (c.in_ok-second.ensures d q))

pub returns-in_ok-given-in-Ok-and_bank : goal.returns-in_ok-given-in-Ok-and_bank
returns-in_ok-given-in-Ok-and_bank c = λ s d p q.
    let x = amount (constants c.args.known) s in
    let y = amount (constants c.args.known) d in
    both_banks (opcode_in c.args.mnemonic c.args.mode) (bank_of_amount x) (bank_of_amount y) (kept_view c.in-Ok.from) (kept_view c.in-Ok-and_bank.to) (given_pieces c.in_ok-given-in-Ok-and_bank.given) (c.in-Ok.ensures.bank x 2 (c.in_ok-first.ensures s p))
    (c.in-Ok-and_bank.ensures.bank y 1 (c.in_ok-second.ensures d q)) (λ a b e f. c.in_ok-given-in-Ok-and_bank.ensures a b e f ∙ ap (λ (o : ℕ). banks_written o a b) c.opcode_in.ensures)
