use Rattle.std.proofs.Common.{◌≡◌, ◌∷◌, arith}
use Rattle.iigs_places.proofs.Marked.{have_moved}
use Rattle.iigs_places.proofs.layout.lay_put.Goals as goal

pub returns-then-has_more : goal.returns-then-has_more
returns-then-has_more c =
    let none : c.args.limit ≡ 0 = omega (arith, c.if-limit-eq0.true) in
    record {
      laid = c.lay_more.ensures.laid;
      have = have_moved c.args.table.now (c.args.mark ∷ c.args.layout.now.marks.items) c.lay_more.new.layout.marks.items c.lay_more.ensures.added (c.requires.more none);
    }
