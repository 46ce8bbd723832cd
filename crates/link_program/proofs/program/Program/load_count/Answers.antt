use Rattle.std.proofs.Common.{arith}
use Rattle.link_program.proofs.program.Program.load_count.Goals as goal

pub overflow_cast-result : goal.overflow_cast-result
overflow_cast-result c = omega (arith, c.len.ensures, c.self.invariant.loads)
