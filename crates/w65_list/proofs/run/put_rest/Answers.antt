use Rattle.std.proofs.Common.{ℕ, List, sym, subst}
use Rattle.w65_list.specs.RunView.{IsOn, widths_view}
use Rattle.w65_list.proofs.RunLaws.{on_step, some_left}
use Rattle.w65_list.proofs.run.put_rest.Goals as goal

pub instructions-preserved : goal.instructions-preserved
instructions-preserved c =
    subst (λ (l : List ℕ). IsOn (widths_view c.args.widths) c.args.run.now c.args.out.now (widths_view c.in_ok-widths.widths) l c.list_instruction.new.out) (sym c.items_after-left.ensures)
    (on_step (widths_view c.args.widths) c.args.run.now c.args.out.now (widths_view c.instructions.widths) (widths_view c.in_ok-widths.widths) c.instructions.left.now c.front_of-front.result.now c.instructions.out c.list_instruction.new.out
    c.instructions.invariant (some_left c.instructions.left.now c.is_empty.result c.is_empty.ensures c.instructions-test.true) c.front_of-front.ensures.value c.in_ok-widths.ensures.wrote c.in_ok-widths.ensures.widths)
