use Rattle.std.proofs.Common.{◌≡◌, ◌<◌, Bool, true, false, ℕ, List, sym, subst, arith}
use Rattle.std.specs.Bool.{OnTrue}
use Rattle.cycles.specs.Graphs.{IsIn}
use Rattle.cycles.specs.Ranks.{rank_at, AreRanks, ReportsCycle}
use Rattle.cycles.proofs.CycleLaws.{none_by_rank}
use Rattle.cycles.proofs.cycle.passes.Goals as goal

on_true : (b : Bool) (P Q : Type 0) → (P → Q) → OnTrue b P → OnTrue b Q
on_true true P Q f p = f p
on_true false P Q f p = tt

so : (b : Bool) (P : Type 0) → b ≡ true → OnTrue b P → P
so true P e p = p
so false P e p = absurd cc

pub returns-then-ranked : goal.returns-then-ranked
returns-then-ranked c =
    let rows = c.args.edges.now in
    let ranks = c.args.ranks.now in
    on_true c.falls.result ((to : ℕ) → IsIn c.row.result.now to → rank_at ranks to < c.rank_of.result) (ReportsCycle rows c.args.vertex false)
    (λ falls. none_by_rank rows ranks c.args.vertex (so c.args.ranked (AreRanks rows ranks) c.if-ranked.true c.requires)
    (λ to is. omega (arith, falls to (subst (λ (l : List ℕ). IsIn l to) (sym c.row.ensures) is), c.rank_of.ensures)))
    c.falls.ensures
