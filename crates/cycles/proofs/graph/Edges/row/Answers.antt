use Rattle.std.proofs.Common.{◌≡◌, ◌-◌, ◌≤◌, length, List, ℕ, take, drop, ap, sym, subst, ◌∙◌, Some, arith}
use Rattle.std.specs.Prelude.{slice_get}
use Rattle.std.proofs.lemmas.Bool.{ltb-false}
use Rattle.std.proofs.lemmas.Option.{slice_get-get_or}
use Rattle.cycles.specs.Graphs.{row_at}
use Rattle.cycles.specs.declared.graph.EdgeSpan.{EdgeSpan}
use Rattle.cycles.proofs.Lists.{fits_at, row_there, row_gone}
use Rattle.cycles.proofs.graph.Edges.row.Goals as goal

pub ends_between-requires-clause-ordered : goal.ends_between-requires-clause-ordered
ends_between-requires-clause-ordered c =
    let spans = c.self.inside.spans.items in
    let span = c.in-Some.span.now in
    let there : slice_get c.as_slice.result.now c.args.vertex ≡ Some span = slice_get-get_or c.as_slice.result.now c.args.vertex span c.in-Some.ensures.lookup.3.0 ∙ ap (λ (s : EdgeSpan). Some s) (sym c.in-Some.ensures.lookup.1) in
    (fits_at c.self.inside.ends.items spans c.args.vertex span c.self.invariant (subst (λ (l : List EdgeSpan). slice_get l c.args.vertex ≡ Some span) c.as_slice.ensures.value there)).ordered

pub ends_between-requires-clause-within : goal.ends_between-requires-clause-within
ends_between-requires-clause-within c =
    let spans = c.self.inside.spans.items in
    let span = c.in-Some.span.now in
    let there : slice_get c.as_slice.result.now c.args.vertex ≡ Some span = slice_get-get_or c.as_slice.result.now c.args.vertex span c.in-Some.ensures.lookup.3.0 ∙ ap (λ (s : EdgeSpan). Some s) (sym c.in-Some.ensures.lookup.1) in
    let fits = fits_at c.self.inside.ends.items spans c.args.vertex span c.self.invariant (subst (λ (l : List EdgeSpan). slice_get l c.args.vertex ≡ Some span) c.as_slice.ensures.value there) in
    omega (arith, fits.within, ap length c.as_slice-in-Some.ensures.value)

pub returns-in-Some : goal.returns-in-Some
returns-in-Some c =
    let spans = c.self.inside.spans.items in
    let ends = c.self.inside.ends.items in
    let span = c.in-Some.span.now in
    let there : slice_get c.as_slice.result.now c.args.vertex ≡ Some span = slice_get-get_or c.as_slice.result.now c.args.vertex span c.in-Some.ensures.lookup.3.0 ∙ ap (λ (s : EdgeSpan). Some s) (sym c.in-Some.ensures.lookup.1) in
    let row = row_there ends spans c.args.vertex span (subst (λ (l : List EdgeSpan). slice_get l c.args.vertex ≡ Some span) c.as_slice.ensures.value there) in
    c.ends_between.ensures ∙ ap (λ (l : List ℕ). take (span.to - span.from) (drop span.from l)) c.as_slice-in-Some.ensures.value ∙ sym row ∙ ap (λ (l : List (List ℕ)). row_at l c.args.vertex) c.self.view_is

pub returns-in-None : goal.returns-in-None
returns-in-None c =
    let spans = c.self.inside.spans.items in
    let past : length c.as_slice.result.now ≤ c.args.vertex = ltb-false c.args.vertex (length c.as_slice.result.now) (sym c.in-None.ensures.lookup.0) in
    sym (row_gone c.self.inside.ends.items spans c.args.vertex (omega (arith, past, ap length c.as_slice.ensures.value))) ∙ ap (λ (l : List (List ℕ)). row_at l c.args.vertex) c.self.view_is
