use Rattle.std.proofs.Common.{◌+◌, ◌≤◌, List, length, subst, arith}
use Rattle.link_meaning.specs.Member.{Member}
use Rattle.link_tables.specs.Laid.{Laid}
use Rattle.link_program.proofs.LinkedLaws.{count_is}
use Rattle.link_tables.proofs.Lists.{take_all}
use Rattle.link_program.proofs.ProgramLaws.{reported_at, no_view, laid_more}
use Rattle.link_resolve.proofs.resolving.lay_out.Goals as goal

pub unreachable-requires-in-None-segment_in : goal.unreachable-requires-in-None-segment_in
unreachable-requires-in-None-segment_in c =
    let list = c.requires.held.0 in
    let reported = reported_at list (c.members.place + 1) c.origin.result c.in-Some.origin (c.origin.ensures list c.requires.held.1) c.in-Some.is in
    no_view c.args.files.now list (c.members.place + 1) c.in-Some.origin reported c.requires.held.2 c.in-None-segment_in.ensures.value

pub members-preserved : goal.members-preserved
members-preserved c = (
  omega (arith, c.members-test.true, c.count.ensures),
  λ list holds among.
      let reported = reported_at list (c.members.place + 1) c.origin.result c.in-Some.origin (c.origin.ensures list holds) c.in-Some.is in
      laid_more c.args.files.now list c.members.place c.in-Some.origin _ c.members.layout c.add.new.self reported among c.in-Some-segment_in.ensures.value (c.members.invariant.1 list holds among) c.in_ok-add.ensures,
)

pub returns : goal.returns
returns c = λ list holds among.
    let past : length list ≤ c.members.place = omega (arith, c.members-test.false, c.count.ensures, count_is list c.args.linked.now holds) in
    subst (λ (l : List Member). Laid l c.members.layout) (take_all list c.members.place past) (c.members.invariant.1 list holds among)
