use Rattle.std.proofs.Common.{ap}
use Rattle.load_writer.specs.Joined.{joined}
use Rattle.link_content.specs.Holding.{Holding, or_borrowed}
use Rattle.link_content.proofs.ContentLaws.{grow_zeros}
use Rattle.link_content.proofs.ZerosAfter.{zeros_longer}
use Rattle.link_content.proofs.content.LoadContent.put_zeros.Goals as goal

pub returns : goal.returns
returns c =
    let inside = c.self.inside in
    let old = c.args.self.now in
    let more = zeros_longer (or_borrowed inside.own.items (joined inside.borrowed.items)) inside.trailing_zeros c.args.count old.bytes (ap (λ (h : Holding). h.bytes) c.self.view_is) in
    grow_zeros old _ c.args.count more (ap (λ (h : Holding). h.patches) c.self.view_is)
