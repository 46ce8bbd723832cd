use Rattle.std.proofs.Common.{ℕ, List, ◌++◌, ◌-◌, ap, ◌∙◌, arith}
use Rattle.orca_operands.proofs.Putting.{repeat_next, repeat_only}
use Rattle.orca_operands.proofs.writer.put_copies.Goals as goal

pub returns-in-len1 : goal.returns-in-len1
returns-in-len1 c =
    c.in_ok-put_byte.ensures ∙ ap (λ (l : List ℕ). c.args.out.now.items ++ l) (repeat_only c.args.count c.args.bytes.now c.in-len1.len_at_least c.in-len1.len_below)

pub copies-preserved : goal.copies-preserved
copies-preserved c =
    repeat_next c.args.out.now.items c.copies.out.items c.extend_from_slice.new.self.items c.args.bytes.now c.args.count c.copies.left (c.copies.left - 1) (omega arith) c.copies.invariant
    c.in_ok-extend_from_slice.ensures.items
