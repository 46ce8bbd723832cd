use Rattle.std.proofs.Common.{◌≡◌, ◌+◌, Some, None, arith}
use Rattle.omf_format.specs.File.{segment_at}
use Rattle.omf_records.specs.Segments.{segment_of_view}
use Rattle.lib_dict.proofs.After.{passed_first, passed_next, passed_within, passed_all}
use Rattle.lib_dict.proofs.names_following.names_following.Goals as goal

pub segments-init : goal.segments-init
segments-init c = passed_first c.args.list.now c.new-rows.result.items c.new-rows.ensures.items

pub overflow_add-passed : goal.overflow_add-passed
overflow_add-passed c = omega (arith, c.segments.invariant.within, c.requires)

pub returns-in-None : goal.returns-in-None
returns-in-None c =
    let none : None ≡ segment_at c.args.list.now (c.segments.passed + 1) = rw c.in-None.is at c.get.ensures.value in
    passed_all c.args.list.now c.segments.passed c.segments.rows.items c.segments.invariant none

pub overflow_add-passed-in-segments : goal.overflow_add-passed-in-segments
overflow_add-passed-in-segments c = omega (arith, c.segments.invariant.within, c.requires)

pub segments-smaller : goal.segments-smaller
segments-smaller c =
    let some : Some (segment_of_view c.in-Some.view.now) ≡ segment_at c.args.list.now (c.segments.passed + 1) = rw c.in-Some.is at c.get.ensures.value in
    let within = passed_within c.args.list.now c.segments.passed c.in-Some.view.now some in
    omega (arith, within)

pub segments-preserved : goal.segments-preserved
segments-preserved c =
    let some : Some (segment_of_view c.in-Some.view.now) ≡ segment_at c.args.list.now (c.segments.passed + 1) = rw c.in-Some.is at c.get.ensures.value in
    passed_next c.args.list.now c.segments.passed c.segments.rows.items c.put_other.new.rows.items c.in-Some.view.now c.segments.invariant some c.in_ok-put_other-in-Some.ensures
