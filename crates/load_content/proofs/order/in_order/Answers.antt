use Rattle.std.proofs.Common.{List, ℕ, sym, ap, subst, ◌∙◌, arith}
use Rattle.load_content.specs.declared.spots.PatchSpot.{PatchSpot}
use Rattle.load_content.specs.Content.{AreRuns, shown_spots, last_at}
use Rattle.load_content.proofs.RunLists.{one_run}
use Rattle.load_content.proofs.order.in_order.Goals as goal

pub returns-in-Some-clause-runs : goal.returns-in-Some-clause-runs
returns-in-Some-clause-runs c = subst (AreRuns c.in-Some.runs.items) c.deref.ensures.value (rw c.in-Some.is at c.in_ok-runs.ensures)

pub returns-clause-runs : goal.returns-clause-runs
returns-clause-runs c =
    let sorted = c.in_ok-sorted.sorted in
    subst (λ (l : List ℕ). AreRuns l sorted.items) (sym c.in_ok-runs-2.ensures) (one_run sorted.items c.len.result (omega (arith, c.len.ensures, sorted.ok)) c.in_ok-sorted.ensures.rise)

pub returns-clause-last : goal.returns-clause-last
returns-clause-last c = λ k.
    c.in_ok-sorted.ensures.last k
    ∙ ap (λ (l : List PatchSpot). last_at (shown_spots l) k) c.deref-2.ensures.value
    ∙ ap (λ (l : List PatchSpot). last_at (shown_spots l) k) c.trim_capacity-spots.ensures
