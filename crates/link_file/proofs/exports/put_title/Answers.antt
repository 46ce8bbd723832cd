use Rattle.std.proofs.Common.{arith}
use Rattle.omf_records.specs.Segments.{segment_of_view}
use Rattle.link_file.specs.Exported.{seen_name}
use Rattle.link_file.proofs.ExportLaws.{title_number, number_fits}
use Rattle.link_file.proofs.exports.put_title.Goals as goal

pub put_seen-requires-clause-named : goal.put_seen-requires-clause-named
put_seen-requires-clause-named c = c.in-Some.ensures.named

pub overflow_add-result : goal.overflow_add-result
overflow_add-result c =
    let list = c.args.context.now.link.program.now in
    let f = title_number list (segment_of_view c.args.segment.now) c.args.first (seen_name c.in-Some.seen) c.requires.stands c.in-Some.ensures.seen in
    omega (arith, number_fits list c.args.context.now.slots.now c.args.first f.0 c.requires.whole.known.are f.1)

pub returns-in_ok-put_seen-in-Some-clause-exported : goal.returns-in_ok-put_seen-in-Some-clause-exported
returns-in_ok-put_seen-in-Some-clause-exported c =
    let list = c.args.context.now.link.program.now in
    let f = title_number list (segment_of_view c.args.segment.now) c.args.first (seen_name c.in-Some.seen) c.requires.stands c.in-Some.ensures.seen in
    c.in_ok-put_seen-in-Some.ensures f.0 f.1 f.2 c.requires.exported
