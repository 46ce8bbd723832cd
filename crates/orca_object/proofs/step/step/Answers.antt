use Rattle.std.proofs.Common.{ℕ, List, sym, ap, ◌∙◌}
use Rattle.orca_meaning.specs.Line.{part}
use Rattle.orca_text.specs.DecodedView.{decoded_line}
use Rattle.asm_meaning.specs.Statement.{label_of, is_misplaced}
use Rattle.orca_operands.proofs.After.{then_if}
use Rattle.orca_object.proofs.StepLaws.{placed_step}
use Rattle.orca_object.proofs.step.step.Goals as goal

pub returns : goal.returns
returns c =
    then_if c.finish.result (λ done placed state shows.
    placed_step state (decoded_line c.args.of.now) c.in-Some.operation c.in_ok-label.label done c.finish.new.kept (sym c.operation_of.ensures ∙ c.in-Some.is)
    (ap (λ (l : List ℕ). is_misplaced state.segment c.in-Some.operation l (part c.args.of.now.line.text c.args.of.now.line.operand)) (sym c.part-text.ensures)
    ∙ ap (λ (o : List ℕ). is_misplaced state.segment c.in-Some.operation c.part-text.result.bytes.now o) (sym c.part.ensures) ∙ sym (c.is_misplaced.ensures state shows) ∙ c.if-is_misplaced.false)
    (c.in_ok-label.ensures.value state shows ∙ ap (label_of state c.in-Some.operation) c.part-text.ensures) (placed state shows)) c.finish.ensures
