use Rattle.std.proofs.Common.{rules}
use Rattle.orca_operands.proofs.Quoted.{text_stops, text_quotes}
use Rattle.orca_operands.proofs.element.text_at.Goals as goal

pub returns-then-next-ne39 : goal.returns-then-next-ne39
returns-then-next-ne39 c =
    search (rules, text_stops c.args.text.now c.bytes.left.now c.in-Some.others.now c.in-Some-split_first.following.now c.bytes.out.items c.in-Some.byte.now c.in-Some-split_first.next.now)

pub bytes-preserved : goal.bytes-preserved
bytes-preserved c =
    search (rules, text_quotes c.args.text.now c.bytes.left.now c.in-Some.others.now c.in-Some-split_first.following.now c.bytes.out.items c.push-in-bytes.new.self.items c.in-Some.byte.now c.in-Some-split_first.next.now)
