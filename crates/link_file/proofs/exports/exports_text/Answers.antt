use Rattle.std.proofs.Common.{sym, subst, ◌∙◌, arith}
use Rattle.omf_records.specs.Segments.{segment_of_view}
use Rattle.link_program.specs.Outside.{all_found}
use Rattle.link_values.specs.Slots.{rows_of}
use Rattle.link_file.specs.Exported.{ExportsTo}
use Rattle.link_file.proofs.ExportLaws.{exports_none, stands_before, exports_more, exports_all}
use Rattle.link_file.proofs.exports.exports_text.Goals as goal

pub members-init : goal.members-init
members-init c =
    let list = c.args.context.now.link.program.now in
    let reported = rows_of (all_found list) c.args.context.now.slots.now in
    subst (ExportsTo list reported 0 0) (sym c.new-out.ensures.items) (exports_none list reported)

pub put_segment-requires-clause-stands : goal.put_segment-requires-clause-stands
put_segment-requires-clause-stands c =
    let list = c.args.context.now.link.program.now in
    stands_before list (rows_of (all_found list) c.args.context.now.slots.now) c.members.place c.members.number c.members.out.items c.members.invariant
    (omega (arith, c.members-test.true, c.members-in-members.ensures)) (segment_of_view c.in-Some.segment.now) c.in-Some.ensures.value

pub members-preserved : goal.members-preserved
members-preserved c =
    let list = c.args.context.now.link.program.now in
    exports_more list (rows_of (all_found list) c.args.context.now.slots.now) c.members.place c.members.number c.members.out.items c.members.invariant
    (omega (arith, c.members-test.true, c.members-in-members.ensures)) (segment_of_view c.in-Some.segment.now) c.in_ok-number.number c.put_segment.new.out.items c.in-Some.ensures.value c.in_ok-number.ensures.next c.in_ok-number.ensures.exported

pub returns : goal.returns
returns c =
    let list = c.args.context.now.link.program.now in
    exports_all list (rows_of (all_found list) c.args.context.now.slots.now) c.members.place c.members.number c.members.out.items c.members.invariant
    (omega (arith, c.members-test.false, c.members-in-members.ensures)) (sym c.form.ensures ∙ c.in-Runtime.is)
