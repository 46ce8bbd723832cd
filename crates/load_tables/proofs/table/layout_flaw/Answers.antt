use Rattle.std.proofs.Common.{◌≡◌, ℕ, ◌++◌, List, map, ap, sym, ◌∙◌}
use Rattle.std.specs.Option.{option_or}
use Rattle.omf_format.specs.Header.{first_of}
use Rattle.omf_format.specs.File.{Segment}
use Rattle.load_meaning.specs.Cells.{segment_bytes}
use Rattle.load_meaning.specs.Table.{entry_start}
use Rattle.load_meaning.specs.LoadTable.{zero_checks, entries_checks}
use Rattle.load_meaning.specs.laws.Steps.{table_checks}
use Rattle.omf_records.specs.Segments.{segment_of_view}
use Rattle.load_tables.proofs.TableRuns.{first_of-append, or-here, or-next}
use Rattle.load_tables.proofs.table.layout_flaw.Goals as goal

parts : (segments : List Segment) (bytes : List ℕ) (n : ℕ)
    → first_of (table_checks segments bytes n) ≡ option_or (first_of (zero_checks bytes 0 8)) (option_or (first_of (entries_checks segments bytes 0 n)) (first_of (zero_checks bytes (entry_start n) 4)))
parts segments bytes n =
    first_of-append (zero_checks bytes 0 8) (entries_checks segments bytes 0 n ++ zero_checks bytes (entry_start n) 4)
    ∙ ap (λ o. option_or (first_of (zero_checks bytes 0 8)) o) (first_of-append (entries_checks segments bytes 0 n) (zero_checks bytes (entry_start n) 4))

pub returns-in-Some-entries_flaw : goal.returns-in-Some-entries_flaw
returns-in-Some-entries_flaw c =
    let segments = map segment_of_view c.args.views.now.items in
    let bytes = segment_bytes (segment_of_view c.args.view.now) in
    let back = first_of (zero_checks bytes (entry_start c.args.count) 4) in
    let entries = first_of (entries_checks segments bytes 0 c.args.count) in
    sym (parts segments bytes c.args.count
    ∙ or-next (first_of (zero_checks bytes 0 8)) (option_or entries back) (sym c.in-None.is ∙ c.nonzero_from.ensures)
    ∙ or-here entries back c.in-Some-entries_flaw.at (sym c.in-Some-entries_flaw.is ∙ c.entries_flaw.ensures))

pub returns : goal.returns
returns c =
    let segments = map segment_of_view c.args.views.now.items in
    let bytes = segment_bytes (segment_of_view c.args.view.now) in
    let back = first_of (zero_checks bytes (entry_start c.args.count) 4) in
    let entries = first_of (entries_checks segments bytes 0 c.args.count) in
    c.nonzero_from-2.ensures
    ∙ sym (parts segments bytes c.args.count
    ∙ or-next (first_of (zero_checks bytes 0 8)) (option_or entries back) (sym c.in-None.is ∙ c.nonzero_from.ensures)
    ∙ or-next entries back (sym c.in-None-entries_flaw.is ∙ c.entries_flaw.ensures))
