use Rattle.std.proofs.Common.{◌-◌, ◌++◌, ℕ, length, subst, arith}
use Rattle.std.proofs.lemmas.Result.{err_from_is_err_and}
use Rattle.omf_records.specs.Segments.{segment_of_view}
use Rattle.link_program.specs.Outside.{all_found}
use Rattle.link_meaning.specs.LinkedCells.{zeros}
use Rattle.link_content.specs.Contents.{HoldsCells}
use Rattle.link_values.specs.Slots.{rows_of}
use Rattle.link_file.proofs.WalkLaws.{begins_there, puts_member, room_after}
use Rattle.link_file.proofs.walk.put_segment.Goals as goal

pub put_zeros-requires-2 : goal.put_zeros-requires-2
put_zeros-requires-2 c =
    let list = c.args.context.now.link.program.now in
    let reported = rows_of (all_found list) c.args.context.now.slots.now in
    let s = segment_of_view c.args.segment.now in
    let st = c.requires.stood in
    let holds = subst (λ (n : ℕ). HoldsCells (st.cells ++ zeros (c.args.member_place.offset - n)) c.put_zeros.new.self) (c.len.ensures st.cells st.stands.holds) (c.put_zeros.ensures st.cells st.stands.holds) in
    let b = begins_there list c.requires.whole.files reported st.front st.m st.back c.args.member_place s c.args.table.now st.cells c.args.content.now st.stands c.put_zeros.new.self holds in
    let p = c.in_ok-put_records.ensures.ok st.front st.m st.back (st.cells ++ zeros (c.args.member_place.offset - length st.cells)) b in
    let room = room_after list c.requires.whole.files reported st.front st.m st.back c.args.member_place s c.args.table.now c.put_records.new.table (st.cells ++ zeros (c.args.member_place.offset - length st.cells)) c.put_zeros.new.self c.put_records.new.content b p in
    omega (arith, room)

pub returns-clause-ok : goal.returns-clause-ok
returns-clause-ok c = λ front m back cells stands.
    let list = c.args.context.now.link.program.now in
    let reported = rows_of (all_found list) c.args.context.now.slots.now in
    let s = segment_of_view c.args.segment.now in
    let holds = subst (λ (n : ℕ). HoldsCells (cells ++ zeros (c.args.member_place.offset - n)) c.put_zeros.new.self) (c.len.ensures cells stands.holds) (c.put_zeros.ensures cells stands.holds) in
    let b = begins_there list c.requires.whole.files reported front m back c.args.member_place s c.args.table.now cells c.args.content.now stands c.put_zeros.new.self holds in
    let p = c.in_ok-put_records.ensures.ok front m back (cells ++ zeros (c.args.member_place.offset - length cells)) b in
    puts_member list c.requires.whole.files reported front m back c.args.member_place s c.args.table.now cells c.args.content.now stands c.put_records.new.table c.put_records.new.content c.put_zeros-2.new.self p c.put_zeros-2.ensures

pub returns-in_err-put_records-clause-err : goal.returns-in_err-put_records-clause-err
returns-in_err-put_records-clause-err c =
    let p = err_from_is_err_and c.from_residual.result c.from_residual.ensures.1 in
    rw (p.1, p.2) (λ front m back cells stands.
    let list = c.args.context.now.link.program.now in
    let reported = rows_of (all_found list) c.args.context.now.slots.now in
    let s = segment_of_view c.args.segment.now in
    let holds = subst (λ (n : ℕ). HoldsCells (cells ++ zeros (c.args.member_place.offset - n)) c.put_zeros.new.self) (c.len.ensures cells stands.holds) (c.put_zeros.ensures cells stands.holds) in
    let b = begins_there list c.requires.whole.files reported front m back c.args.member_place s c.args.table.now cells c.args.content.now stands c.put_zeros.new.self holds in
    c.in_err-put_records.ensures.err front m back (cells ++ zeros (c.args.member_place.offset - length cells)) b)
