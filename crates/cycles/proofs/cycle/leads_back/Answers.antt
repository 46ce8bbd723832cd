use Rattle.std.proofs.Common.{◌≡◌, ◌<◌, true, false, ℕ, List, Some, length, refl, ap, subst, arith}
use Rattle.std.specs.Prelude.{slice_get}
use Rattle.std.proofs.lemmas.Option.{slice_get_read}
use Rattle.cycles.specs.Graphs.{IsIn}
use Rattle.cycles.specs.Ranks.{Visits}
use Rattle.cycles.proofs.CycleLaws.{searching_more, cycle_found, none_found}
use Rattle.cycles.proofs.cycle.leads_back.Goals as goal

pub returns-then-branch : goal.returns-then-branch
returns-then-branch c =
    let queue = c.queue.queue.items in
    let x = c.index.result.now in
    let lt : c.queue.next < length queue = omega (arith, c.queue-test.true, ap length c.as_slice.ensures.value) in
    let at : slice_get queue c.queue.next ≡ Some x = slice_get_read queue (length queue) c.queue.next x refl lt c.index.ensures in
    cycle_found c.args.edges.now c.args.vertex x c.queue.seen.items queue c.queue.next c.queue.invariant at
    (subst (λ (l : List ℕ). IsIn l c.args.vertex) c.row.ensures (c.in_ok-visit.ensures.back c.if-branch.true))

pub queue-preserved : goal.queue-preserved
queue-preserved c =
    let queue = c.queue.queue.items in
    let x = c.index.result.now in
    let lt : c.queue.next < length queue = omega (arith, c.queue-test.true, ap length c.as_slice.ensures.value) in
    let at : slice_get queue c.queue.next ≡ Some x = slice_get_read queue (length queue) c.queue.next x refl lt c.index.ensures in
    searching_more c.args.edges.now c.args.vertex x c.queue.seen.items c.visit.new.seen.items queue c.visit.new.queue.items c.queue.next c.queue.invariant at
    (subst (λ (l : List ℕ). Visits l c.args.vertex c.queue.seen.items c.visit.new.seen.items queue c.visit.new.queue.items) c.row.ensures (c.in_ok-visit.ensures.visits c.if-branch.false))

pub returns : goal.returns
returns c =
    none_found c.args.edges.now c.args.vertex c.queue.seen.items c.queue.queue.items c.queue.next c.queue.invariant (omega (arith, c.queue-test.false, ap length c.as_slice.ensures.value))
