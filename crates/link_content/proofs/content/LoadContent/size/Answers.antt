use Rattle.std.proofs.Common.{arith}
use Rattle.link_content.proofs.content.LoadContent.size.Goals as goal

pub overflow_add-result : goal.overflow_add-result
overflow_add-result c = omega (arith, c.self.invariant.3, c.self.invariant.4)
