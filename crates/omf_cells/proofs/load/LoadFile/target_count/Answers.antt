use Rattle.std.proofs.Common.{length, sym, ap, ◌∙◌}
use Rattle.omf_records.specs.Segments.{segment_of_view}
use Rattle.omf_cells.proofs.LoadShows.{targets-there, targets-outside, length-targets_of}
use Rattle.omf_cells.proofs.load.LoadFile.target_count.Goals as goal

pub returns-in-Some-segment : goal.returns-in-Some-segment
returns-in-Some-segment c =
    let v = c.in-Some-segment.view.now in
    c.entry_count.ensures
    ∙ sym (ap length (targets-there c.args.self.now c.in-Some.number v (sym c.table.ensures ∙ c.in-Some.is) c.in-Some-segment.ensures) ∙ length-targets_of (segment_of_view v))

pub returns-in-None : goal.returns-in-None
returns-in-None c = sym (ap length (targets-outside c.args.self.now c.in-Some.number (sym c.table.ensures ∙ c.in-Some.is) c.in-None.ensures))
