use Rattle.std.proofs.Common.{sym, ◌∙◌}
use Rattle.lib_dict.specs.Rows.{seen_row}
use Rattle.link_tables.proofs.OnOks.{on_ok}
use Rattle.link_program.proofs.RowLaws.{row_place}
use Rattle.link_resolve.proofs.LibraryLaws.{offered_row}
use Rattle.link_resolve.proofs.library.add_row.Goals as goal

pub returns : goal.returns
returns c = on_ok c.add.result _ _
    (λ more setting os r o reported stands offer are.
    let p = row_place c.args.segments.now r (seen_row c.args.row) reported stands in
    let number = sym c.in-Some.is ∙ c.number_of.ensures p.k p.segment p.here p.start in
    more os o are (offered_row setting c.args.file c.args.segments.now r (seen_row c.args.row) o c.in-Some.number c.in-Some-get.segment.now c.is_titled-titled.result stands reported offer number c.in-Some-get.ensures.value c.is_titled-titled.ensures))
    c.add.ensures
