use Rattle.std.proofs.Common.{◌+◌, ◌<◌, ◌≤◌, List, length, ap, arith}
use Rattle.link_meaning.specs.Member.{Member}
use Rattle.link_map.specs.MapText.{text_in}
use Rattle.link_map.proofs.TextLaws.{reported_none, reported_more, reported_all}
use Rattle.link_map.proofs.ListLaws.{member_there, member_item}
use Rattle.link_map.proofs.members.put_members.Goals as goal

pub members-init : goal.members-init
members-init c = reported_none (text_in c.args.values.now.list c.args.values.now.table c.args.number) 1 c.args.values.now.list c.args.line.now

pub put_member-requires : goal.put_member-requires
put_member-requires c =
    let less : c.members.place < length c.args.values.now.list = omega (arith, c.members-test.true, c.members-in-members.ensures, ap (λ (l : List Member). length l) c.program-program.ensures) in
    member_there c.args.values.now.list c.members.place less

pub members-preserved : goal.members-preserved
members-preserved c =
    let list = c.args.values.now.list in
    let less : c.members.place < length list = omega (arith, c.members-test.true, c.members-in-members.ensures, ap (λ (l : List Member). length l) c.program-program.ensures) in
    let there = member_there list c.members.place less in
    reported_more (text_in list c.args.values.now.table c.args.number) 1 c.members.place (c.members.place + 1) list there.0 c.args.line.now c.members.line c.put_member.new.line
    (member_item list c.members.place there.0 there.1) (omega arith) c.members.invariant (c.in_ok-put_member.ensures there.0 there.1)

pub returns : goal.returns
returns c =
    let list = c.args.values.now.list in
    let most : length list ≤ c.members.place = omega (arith, c.members-test.false, c.members-in-members.ensures, ap (λ (l : List Member). length l) c.program-program.ensures) in
    reported_all (text_in list c.args.values.now.table c.args.number) 1 c.members.place list c.args.line.now c.members.line most c.members.invariant
