use Rattle.std.proofs.Common.{subst}
use Rattle.std.proofs.lemmas.Result.{on_ok_weaker}
use Rattle.orca_meaning.specs.Matrix.{Instruction}
use Rattle.list_meaning.specs.Listed.{Instructs}
use Rattle.list_meaning.specs.Listing.{with_run_written, instruction_of_opcode}
use Rattle.list_lines.specs.LineView.{Wrote, operand_view}
use Rattle.w65_list.proofs.Gives.{line_gave}
use Rattle.w65_list.proofs.records.PendingRun.put_held.Goals as goal

pub returns-clause-gave : goal.returns-clause-gave
returns-clause-gave c =
    let opcode = c.args.opcode in
    let w = operand_view c.args.operand in
    on_ok_weaker c.put_instruction.result (λ wrote b rest is run. line_gave (with_run_written (record b { run = rest })) (Instructs (instruction_of_opcode opcode).0 (instruction_of_opcode opcode).1 w) c.args.out.now c.flush_rest.new.out c.put_instruction.new.out c.flush_rest.new.self
    (c.in_ok-flush_rest.ensures.gave b rest opcode is run) (subst (λ (f : Instruction). Wrote (Instructs f.0 f.1 w) c.flush_rest.new.out c.put_instruction.new.out) c.instruction_of-mnemonic.ensures wrote)) c.put_instruction.ensures.wrote
