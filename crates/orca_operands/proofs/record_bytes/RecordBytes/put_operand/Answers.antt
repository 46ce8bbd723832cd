use Rattle.std.proofs.Common.{[], ◌∷◌}
use Rattle.orca_operands.specs.TextView.{kept_text}
use Rattle.orca_operands.proofs.FewLaws.{two_grow, far_text, near_text}
use Rattle.orca_operands.proofs.After.{then_ok}
use Rattle.orca_operands.proofs.record_bytes.RecordBytes.put_operand.Goals as goal

pub returns-then-code-eq-RELEXPR : goal.returns-then-code-eq-RELEXPR
returns-then-code-eq-RELEXPR c =
    then_ok c.append-then-code-eq-RELEXPR.result (λ more. two_grow (kept_text c.args.self.now) (kept_text c.append.new.self) (kept_text c.append-then-code-eq-RELEXPR.new.self) c.with_distance.result c.args.expr.now _ c.in_ok-append.ensures more
    (far_text c.args.opcode c.args.code c.args.count c.args.n c.with_distance.result c.args.expr.now c.if-code-eq-RELEXPR.true c.with_distance.ensures)) c.append-then-code-eq-RELEXPR.ensures

pub returns : goal.returns
returns c =
    then_ok c.append-3.result (λ more. two_grow (kept_text c.args.self.now) (kept_text c.append-2.new.self) (kept_text c.append-3.new.self) (1 ∷ c.args.opcode ∷ c.args.code ∷ c.args.count ∷ []) c.args.expr.now _ c.in_ok-append-2.ensures more
    (near_text c.args.opcode c.args.code c.args.count c.args.n c.args.expr.now c.if-code-eq-RELEXPR.false)) c.append-3.ensures
