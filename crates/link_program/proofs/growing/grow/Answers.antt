use Rattle.std.proofs.Common.{◌<◌, ◌++◌, true, length, refl, sym, ap, arith}
use Rattle.std.proofs.Math.ListN.{set}
use Rattle.std.proofs.lemmas.List.{length-map}
use Rattle.omf_records.specs.Segments.{segment_of_view}
use Rattle.link_meaning.specs.Member.{objects, library_offers}
use Rattle.link_meaning.specs.Search.{outside}
use Rattle.link_tables.specs.Offers.{origin_view}
use Rattle.link_program.specs.Opening.{OpensNothing}
use Rattle.link_tables.proofs.Lists.{in_at, within_length}
use Rattle.link_program.proofs.GrowLaws.{unset, set_less, flag_free, cursor_goes, origin_of, origin_among, no_segment, short_body, outside_is, growing_start, growing_end, growing_more}
use Rattle.link_program.proofs.growing.grow.Goals as goal

pub wanted-requires-clause-held : goal.wanted-requires-clause-held
wanted-requires-clause-held c =
    let g = c.members.invariant c.requires.0 c.requires.1 c.requires.2 in
    (objects c.requires.0 c.requires.1 ++ g.added, g.holds)

pub wanted-requires-clause-table : goal.wanted-requires-clause-table
wanted-requires-clause-table c = (outside c.requires.0, c.requires.2.table')

pub members-init : goal.members-init
members-init c = λ setting inputs may. growing_start setting inputs c.args.files.now c.args.outside.now c.args.offers.now c.args.linked.now c.in_ok-taken.taken.items c.count.result may c.count.ensures c.in_ok-taken.ensures

pub returns-in-None : goal.returns-in-None
returns-in-None c = λ setting inputs may.
    let g = c.members.invariant setting inputs may in
    growing_end setting inputs c.args.files.now c.members.linked c.members.taken.items c.members.cursor g (c.in-None.ensures (objects setting inputs ++ g.added) (library_offers setting inputs) g.holds (outside_is setting inputs c.args.files.now c.args.outside.now c.args.offers.now c.args.linked.now g.added may) may.offers' g.nothing)

pub origin-origin-requires : goal.origin-origin-requires
origin-origin-requires c =
    let setting = c.requires.0 in
    let inputs = c.requires.1 in
    let may = c.requires.2 in
    let g = c.members.invariant setting inputs may in
    let w = c.in-Some.ensures (objects setting inputs ++ g.added) (library_offers setting inputs) g.holds (outside_is setting inputs c.args.files.now c.args.outside.now c.args.offers.now c.args.linked.now g.added may) may.offers' g.nothing in
    omega (arith, within_length (library_offers setting inputs) c.in-Some.found.1 w.0 w.1, ap length may.offers'.origins, length-map (library_offers setting inputs) origin_view)

pub unreachable-requires : goal.unreachable-requires
unreachable-requires c =
    let setting = c.requires.0 in
    let inputs = c.requires.1 in
    let may = c.requires.2 in
    let g = c.members.invariant setting inputs may in
    let w = c.in-Some.ensures (objects setting inputs ++ g.added) (library_offers setting inputs) g.holds (outside_is setting inputs c.args.files.now c.args.outside.now c.args.offers.now c.args.linked.now g.added may) may.offers' g.nothing in
    let from = c.origin-origin.ensures (library_offers setting inputs) w.0 may.offers' w.1 in
    no_segment c.args.files.now w.0 c.origin-origin.result from (may.among w.0 (in_at (library_offers setting inputs) c.in-Some.found.1 w.0 w.1)) c.in-None-segment_in.ensures.value

pub add-requires-clause-short : goal.add-requires-clause-short
add-requires-clause-short c =
    let may = c.requires.2 in
    let short = short_body c.args.files.now c.origin-origin.result (segment_of_view c.in-Some-segment_in.segment.now) may.sound c.in-Some-segment_in.ensures.value in
    omega (arith, short, c.length_of-length.ensures, c.length_of-length.type_inv)

pub index_mut-requires : goal.index_mut-requires
index_mut-requires c =
    let setting = c.requires.0 in
    let inputs = c.requires.1 in
    let may = c.requires.2 in
    let g = c.members.invariant setting inputs may in
    let w = c.in-Some.ensures (objects setting inputs ++ g.added) (library_offers setting inputs) g.holds (outside_is setting inputs c.args.files.now c.args.outside.now c.args.offers.now c.args.linked.now g.added may) may.offers' g.nothing in
    omega (arith, within_length (library_offers setting inputs) c.in-Some.found.1 w.0 w.1, g.size, c.members.taken.ok.0)

pub members-smaller : goal.members-smaller
members-smaller c =
    let setting = c.requires.0 in
    let inputs = c.requires.1 in
    let may = c.requires.2 in
    let g = c.members.invariant setting inputs may in
    let w = c.in-Some.ensures (objects setting inputs ++ g.added) (library_offers setting inputs) g.holds (outside_is setting inputs c.args.files.now c.args.outside.now c.args.offers.now c.args.linked.now g.added may) may.offers' g.nothing in
    let free = flag_free (library_offers setting inputs) (objects setting inputs ++ g.added) c.members.taken.items c.in-Some.found.1 w.0 may.defined g.taken' w.1 w.2 in
    let row_in : c.in-Some.found.1 < length c.members.taken.items = omega (arith, within_length (library_offers setting inputs) c.in-Some.found.1 w.0 w.1, g.size) in
    let one = set_less c.members.taken.items c.in-Some.found.1 row_in free in
    let less : unset (set c.members.taken.items c.in-Some.found.1 true) < unset c.members.taken.items = omega (arith, one) in
    less

pub members-preserved : goal.members-preserved
members-preserved c = λ setting inputs may.
    let g = c.members.invariant setting inputs may in
    let list = objects setting inputs ++ g.added in
    let w = c.in-Some.ensures list (library_offers setting inputs) g.holds (outside_is setting inputs c.args.files.now c.args.outside.now c.args.offers.now c.args.linked.now g.added may) may.offers' g.nothing in
    let origin = c.origin-origin.result in
    let from = c.origin-origin.ensures (library_offers setting inputs) w.0 may.offers' w.1 in
    let same = origin_among c.args.files.now w.0 origin (segment_of_view c.in-Some-segment_in.segment.now) from (may.among w.0 (in_at (library_offers setting inputs) c.in-Some.found.1 w.0 w.1)) c.in-Some-segment_in.ensures.value in
    let goes = cursor_goes c.opens.result c.in-Some.found.0 c.next_cursor-cursor.result (OpensNothing list w.0.member) c.next_cursor-cursor.ensures (λ e. c.opens.ensures e list w.0.member g.holds (origin_of w.0 origin from) (sym same)) in
    growing_more setting inputs c.args.files.now c.args.outside.now c.args.offers.now c.args.linked.now c.members.linked c.add.new.self c.members.taken.items (set c.members.taken.items c.in-Some.found.1 true) c.members.cursor c.in-Some.found.0 c.in-Some.found.1
    c.next_cursor-cursor.result origin (segment_of_view c.in-Some-segment_in.segment.now) may g w w.4 from same c.in_ok-add.ensures.added goes refl
