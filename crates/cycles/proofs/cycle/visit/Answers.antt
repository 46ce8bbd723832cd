use Rattle.std.proofs.Common.{◌≡◌, ◌+◌, ◌<◌, ◌≤◌, inl, false, ℕ, Bool, List, Some, length, drop, get_or, refl, sym, ap, subst, ◌∙◌, arith}
use Rattle.std.specs.Prelude.{slice_get}
use Rattle.std.proofs.lemmas.List.{drop_more, drop_all}
use Rattle.std.proofs.lemmas.Option.{slice_get_read}
use Rattle.cycles.specs.Graphs.{IsIn}
use Rattle.cycles.specs.Ranks.{IsSeen, Visiting}
use Rattle.cycles.proofs.CycleLaws.{visiting_all, visiting_seen, visiting_new, visited}
use Rattle.cycles.proofs.cycle.visit.Goals as goal
use Rattle.cycles.proofs.cycle.visit.Goals.{then-not-index+in_ok-push, else-not-index}

within : (row : List ℕ) (i vertex : ℕ) (seen new : List Bool) (queue added : List ℕ) → i < length row → Visiting row vertex (drop i row) seen new queue added
    → ((x : ℕ) → IsIn row x → x < length seen) → get_or row i 0 < length new
within row i vertex seen new queue added less v each =
    let to = get_or row i 0 in
    omega (arith, each to (v.among to (subst (λ (l : List ℕ). IsIn l to) (sym (drop_more row i 0 less)) (inl refl))), v.size)

pub edges-init : goal.edges-init
edges-init c = visiting_all c.args.row.now c.args.vertex c.args.seen.now.items c.args.queue.now.items

pub index-requires : goal.index-requires
index-requires c =
    let lt = within c.args.row.now c.edges.to-index c.args.vertex c.args.seen.now.items c.edges.seen.items c.args.queue.now.items c.edges.queue.items c.edges-test.true c.edges.invariant c.requires in
    omega (arith, lt, c.edges.seen.ok)

pub index_mut-requires : goal.index_mut-requires
index_mut-requires c =
    let lt = within c.args.row.now c.edges.to-index c.args.vertex c.args.seen.now.items c.edges.seen.items c.args.queue.now.items c.edges.queue.items c.edges-test.true c.edges.invariant c.requires in
    omega (arith, lt, c.edges.seen.ok)

pub edges-preserved : goal.edges-preserved
edges-preserved c =
    let row = c.args.row.now in
    let i = c.edges.to-index in
    let to = get_or row i 0 in
    let seen = c.edges.seen.items in
    let parts = drop_more row i 0 c.edges-test.true in
    let lt = within row i c.args.vertex c.args.seen.now.items seen c.args.queue.now.items c.edges.queue.items c.edges-test.true c.edges.invariant c.requires in
    let read : slice_get seen to ≡ Some c.index.result.now = slice_get_read seen (length seen) to c.index.result.now refl lt c.index.ensures in
    elim c.if-not-index.branch [
      | then-not-index+in_ok-push w ↦
          let at : slice_get seen to ≡ Some false = read ∙ ap (λ (b : Bool). Some b) w.if-not-index.true in
          rw (w.seen-is, w.queue-is, w.in_ok-push.ensures.items)
          (visiting_new row c.args.vertex to (drop i row) (drop (i + 1) row) c.args.seen.now.items seen c.args.queue.now.items c.edges.queue.items parts c.if-to-vertex.false lt at c.edges.invariant)
      | else-not-index w ↦
          let at : IsSeen seen to = read ∙ ap (λ (b : Bool). Some b) w.if-not-index.false in
          rw (w.seen-is, w.queue-is)
          (visiting_seen row c.args.vertex to (drop i row) (drop (i + 1) row) c.args.seen.now.items seen c.args.queue.now.items c.edges.queue.items parts c.if-to-vertex.false at c.edges.invariant)
    ]

pub returns : goal.returns
returns c =
    let row = c.args.row.now in
    let i = c.edges.to-index in
    let end : length row ≤ i = omega (arith, c.edges-test.false) in
    record {
      back = λ e. absurd cc;
      visits = λ e. visited row c.args.vertex (drop i row) c.args.seen.now.items c.edges.seen.items c.args.queue.now.items c.edges.queue.items (drop_all i row end) c.edges.invariant;
    }
