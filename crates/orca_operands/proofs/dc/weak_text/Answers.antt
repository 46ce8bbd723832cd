use Rattle.orca_operands.proofs.Elementing.{weak_expression}
use Rattle.orca_operands.proofs.dc.weak_text.Goals as goal

pub returns : goal.returns
returns c = weak_expression c.args.name.now c.new-out.result.items c.put_term.new.out.items c.push.new.self.items c.new-out.ensures.items c.in-Ok.ensures.ok c.in_ok-push.ensures.items
