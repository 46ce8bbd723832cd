use Rattle.std.proofs.Common.{ℕ, List, [], ◌∷◌, ◌++◌, sym, subst, ◌∙◌}
use Rattle.std.proofs.lemmas.Bool.{eqb-true}
use Rattle.load_content.specs.declared.spots.PatchSpot.{PatchSpot}
use Rattle.load_content.specs.Content.{AreRuns}
use Rattle.load_content.proofs.RunLists.{RunsSoFar, runs_more, runs_all}
use Rattle.load_content.proofs.order.runs_of.Goals as goal

pub runs-init : goal.runs-init
runs-init c = λ more are. subst (λ (l : List ℕ). AreRuns (l ++ more) c.args.spots.now) (sym c.new-runs.ensures.items) are

pub runs-preserved : goal.runs-preserved
runs-preserved c =
    let n = c.apart_count-count.result in
    let more = runs_more c.args.spots.now c.runs.left.now c.runs.runs.items n c.runs.invariant c.apart_count-count.ensures.bound c.apart_count-count.ensures.rise in
    subst (λ (l : List ℕ). RunsSoFar c.args.spots.now l c.split_at.result.1.now) (sym c.in_ok-push.ensures.items)
    (subst (λ (l : List PatchSpot). RunsSoFar c.args.spots.now (c.runs.runs.items ++ n ∷ []) l) (sym c.split_at.ensures.back) more)

pub returns : goal.returns
returns c = runs_all c.args.spots.now c.runs.left.now c.runs.runs.items c.runs.invariant (eqb-true _ 0 (sym c.is_empty.ensures ∙ c.runs-test.false))
