use Rattle.std.proofs.Common.{◌++◌, ◌∷◌, [], length, List, ℕ, ap, sym, subst, ◌∙◌, arith}
use Rattle.std.proofs.lemmas.List.{length-append}
use Rattle.cycles.specs.Kept.{Fits, AllFit, rows_in}
use Rattle.cycles.specs.declared.graph.EdgeSpan.{EdgeSpan}
use Rattle.cycles.proofs.Lists.{fit_more, fit_one, row_more}
use Rattle.cycles.proofs.graph.Edges.add.Goals as goal

pub invariant_of-self-in_err-push : goal.invariant_of-self-in_err-push
invariant_of-self-in_err-push c =
    let ends = c.self.inside.ends.items in
    let spans = c.self.inside.spans.items in
    let more : AllFit (ends ++ c.args.row.now) spans = fit_more ends c.args.row.now spans c.self.invariant in
    subst (λ (l : List ℕ). AllFit l c.push.new.self.items) (sym c.in_ok-extend_from_slice.ensures.items) (subst (AllFit (ends ++ c.args.row.now)) (sym c.in_err-push.ensures.items) more)

pub invariant_of-self-2 : goal.invariant_of-self-2
invariant_of-self-2 c =
    let ends = c.self.inside.ends.items in
    let spans = c.self.inside.spans.items in
    let span : EdgeSpan = record { from = length c.as_slice-from.result.now; to = length c.as_slice-to.result.now } in
    let more : AllFit (ends ++ c.args.row.now) spans = fit_more ends c.args.row.now spans c.self.invariant in
    let size = length-append ends c.args.row.now in
    let one : Fits (ends ++ c.args.row.now) span = record {
      ordered = omega (arith, size, ap length c.as_slice-from.ensures.value, ap length c.as_slice-to.ensures.value, ap length c.in_ok-extend_from_slice.ensures.items);
      within = omega (arith, ap length c.as_slice-to.ensures.value, ap length c.in_ok-extend_from_slice.ensures.items);
    } in
    subst (λ (l : List ℕ). AllFit l c.push.new.self.items) (sym c.in_ok-extend_from_slice.ensures.items)
    (subst (AllFit (ends ++ c.args.row.now)) (sym c.in_ok-push.ensures.items) (fit_one (ends ++ c.args.row.now) spans span more one))

pub returns : goal.returns
returns c =
    let ends = c.self.inside.ends.items in
    let spans = c.self.inside.spans.items in
    let span : EdgeSpan = record { from = length c.as_slice-from.result.now; to = length c.as_slice-to.result.now } in
    let row = row_more ends c.args.row.now spans span c.self.invariant (ap length c.as_slice-from.ensures.value) (ap length c.as_slice-to.ensures.value ∙ ap length c.in_ok-extend_from_slice.ensures.items) in
    ap (λ (l : List ℕ). rows_in l c.push.new.self.items) c.in_ok-extend_from_slice.ensures.items
    ∙ ap (rows_in (ends ++ c.args.row.now)) c.in_ok-push.ensures.items ∙ row
    ∙ ap (λ (l : List (List ℕ)). l ++ c.args.row.now ∷ []) c.self.view_is
