use Rattle.std.proofs.Common.{◌≡◌, ◌+◌, ◌-◌, suc, map, sym, ◌∙◌, arith}
use Rattle.omf_format.specs.Header.{first_of}
use Rattle.load_meaning.specs.Cells.{segment_bytes}
use Rattle.load_meaning.specs.Table.{entry_start}
use Rattle.load_meaning.specs.LoadTable.{entries_checks}
use Rattle.load_meaning.specs.laws.Steps.{entry_checks}
use Rattle.omf_records.specs.Segments.{segment_of_view}
use Rattle.load_tables.proofs.TableRuns.{entries_next, or-here, or-next}
use Rattle.load_tables.proofs.table.entries_flaw.Goals as goal

pub returns-in-Some : goal.returns-in-Some
returns-in-Some c =
    let segments = map segment_of_view c.args.views.now.items in
    let bytes = segment_bytes (segment_of_view c.args.view.now) in
    let place = c.entries.place in
    let left = c.args.count - (place + 1) in
    let one : c.args.count - place ≡ suc left = omega (arith, c.entries-test.true) in
    sym (c.entries.invariant.same ∙ entries_next segments bytes place (c.args.count - place) left one
    ∙ or-here (first_of (entry_checks segments bytes (entry_start place))) (first_of (entries_checks segments bytes (place + 1) left)) c.in-Some.at (sym c.in-Some.is ∙ c.entry_flaw.ensures))

pub entries-preserved : goal.entries-preserved
entries-preserved c =
    let segments = map segment_of_view c.args.views.now.items in
    let bytes = segment_bytes (segment_of_view c.args.view.now) in
    let place = c.entries.place in
    let left = c.args.count - (place + 1) in
    let one : c.args.count - place ≡ suc left = omega (arith, c.entries-test.true) in
    record {
      within = omega (arith, c.entries-test.true);
      same =
          c.entries.invariant.same ∙ entries_next segments bytes place (c.args.count - place) left one
          ∙ or-next (first_of (entry_checks segments bytes (entry_start place))) (first_of (entries_checks segments bytes (place + 1) left)) (sym c.in-None.is ∙ c.entry_flaw.ensures);
    }
