use Rattle.std.proofs.Common.{List, Some, sym, ap, ◌∙◌, arith}
use Rattle.std.specs.Prelude.{slice_get}
use Rattle.std.proofs.lemmas.Option.{slice_get_past}
use Rattle.load_meaning.specs.declared.table.Target.{Target}
use Rattle.load_meaning.specs.LoadTable.{targets_of}
use Rattle.omf_records.specs.Segments.{segment_of_view}
use Rattle.omf_cells.proofs.LoadShows.{targets-there, length-targets_of, get-targets_of}
use Rattle.omf_cells.proofs.load.LoadFile.target.Goals as goal

pub returns-then-place-entry_count : goal.returns-then-place-entry_count
returns-then-place-entry_count c =
    let v = c.in-Some-content.found.0.now in
    sym (ap (λ (l : List Target). slice_get l c.args.place) (targets-there c.args.self.now c.in-Some.number v (sym c.table.ensures ∙ c.in-Some.is) c.in-Some-content.ensures.shows)
    ∙ slice_get_past (targets_of (segment_of_view v)) c.args.place (omega (arith, length-targets_of (segment_of_view v), c.entry_count.ensures, c.if-place-entry_count.true)))

pub returns : goal.returns
returns c =
    let v = c.in-Some-content.found.0.now in
    ap (λ (t : Target). Some t) c.target_from.ensures
    ∙ sym (ap (λ (l : List Target). slice_get l c.args.place) (targets-there c.args.self.now c.in-Some.number v (sym c.table.ensures ∙ c.in-Some.is) c.in-Some-content.ensures.shows)
    ∙ get-targets_of (segment_of_view v) c.args.place (omega (arith, c.entry_count.ensures, c.if-place-entry_count.false)))
