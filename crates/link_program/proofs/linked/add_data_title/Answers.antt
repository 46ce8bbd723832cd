use Rattle.std.proofs.Common.{◌≡◌, length, arith}
use Rattle.omf_records.specs.Segments.{segment_of_view}
use Rattle.link_tables.proofs.OnOks.{on_ok}
use Rattle.link_tables.proofs.Lists.{empty, not_empty}
use Rattle.link_program.proofs.TitleLaws.{no_data, no_name, gained}
use Rattle.link_program.proofs.linked.add_data_title.Goals as goal

pub returns-then-form-ne1 : goal.returns-then-form-ne1
returns-then-form-ne1 c = no_data c.args.titles.now c.args.origin c.args.place (segment_of_view c.args.segment.now) c.form.result c.form.ensures c.if-form-ne1.true

pub returns-then-is_empty : goal.returns-then-is_empty
returns-then-is_empty c =
    let none : length c.title-name.result.now ≡ 0 = grind (arith, c.is_empty.ensures, c.if-is_empty.true) in
    no_name c.args.titles.now c.args.origin c.args.place (segment_of_view c.args.segment.now) c.form.result c.title-name.result.now c.form.ensures c.if-form-ne1.false c.title-name.ensures (empty c.title-name.result.now none)

pub returns : goal.returns
returns c =
    let some : length c.title-name.result.now ≡ 0 → ⊥ = λ e. grind (arith, e, c.is_empty.ensures, c.if-is_empty.false) in
    on_ok c.add.result _ _
    (λ more. gained c.args.titles.now c.add.new.self c.args.origin c.args.place (segment_of_view c.args.segment.now) c.form.result c.title-name.result.now c.is_private.result c.outer_step-step.result
    c.form.ensures c.if-form-ne1.false c.title-name.ensures (not_empty c.title-name.result.now some) c.is_private.ensures c.outer_step-step.ensures more) c.add.ensures
