use Rattle.std.proofs.Common.{arith}
use Rattle.iigs_places.proofs.Marked.{last_at}
use Rattle.iigs_places.proofs.marks.last_mark.Goals as goal

pub returns : goal.returns
returns c = last_at c.args.marks.now c.args.address c.count_up_to-count.result c.count_up_to-count.ensures.count _ (omega (arith, c.if-count-eq0.false)) c.count_up_to-count.ensures.bound c.requires
