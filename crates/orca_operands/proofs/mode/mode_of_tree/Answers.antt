use Rattle.std.proofs.Common.{Bool, cond, Some, None, sym, ap, ◌∙◌}
use Rattle.asm_meaning.specs.Instruction.{or_first}
use Rattle.orca_operands.proofs.Modes.{tree_mode_found}
use Rattle.orca_operands.proofs.mode.mode_of_tree.Goals as goal

pub returns-then-is_offered : goal.returns-then-is_offered
returns-then-is_offered c =
    ap (λ (x : Bool). or_first c.args.first (cond x (Some c.in-Some.mode) None)) (sym c.if-is_offered.true)
    ∙ tree_mode_found c.args.mnemonic c.args.form c.args.prefix c.args.first c.in-Some.mode c.is_offered.result c.in-Some.ensures c.is_offered.ensures

pub returns-else-is_offered : goal.returns-else-is_offered
returns-else-is_offered c =
    ap (λ (x : Bool). or_first c.args.first (cond x (Some c.in-Some.mode) None)) (sym c.if-is_offered.false)
    ∙ tree_mode_found c.args.mnemonic c.args.form c.args.prefix c.args.first c.in-Some.mode c.is_offered.result c.in-Some.ensures c.is_offered.ensures
