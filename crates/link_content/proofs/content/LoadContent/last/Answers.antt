use Rattle.std.proofs.Common.{ap, arith}
use Rattle.load_writer.specs.Joined.{joined}
use Rattle.link_content.specs.Holding.{Holding, or_borrowed}
use Rattle.link_content.proofs.ZerosAfter.{last_zero}
use Rattle.link_content.proofs.content.LoadContent.last.Goals as goal

pub returns-then-self-gt0 : goal.returns-then-self-gt0
returns-then-self-gt0 c =
    let inside = c.self.inside in
    last_zero (or_borrowed inside.own.items (joined inside.borrowed.items)) inside.trailing_zeros c.args.self.now.bytes (ap (λ (h : Holding). h.bytes) c.self.view_is) (omega (arith, c.if-self-gt0.true))
