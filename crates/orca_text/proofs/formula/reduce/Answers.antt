use Rattle.std.proofs.Common.{◌∙◌}
use Rattle.orca_text.proofs.Steps.{one_closed}
use Rattle.orca_text.proofs.formula.reduce.Goals as goal

pub tight-preserved : goal.tight-preserved
tight-preserved c =
    let popped = c.in-Some.ensures in
    one_closed c.args.tight popped.0 c.in-Some.code c.tight.out.items c.push.new.self.items c.tight.waiting c.pop_tight.new.waiting popped.2 popped.1 c.in_ok-push.ensures.items
    ∙ c.tight.invariant
