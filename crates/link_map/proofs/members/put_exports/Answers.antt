use Rattle.std.proofs.Common.{◌+◌, ◌<◌, ◌≤◌, List, length, sym, ap, ◌∙◌, arith}
use Rattle.link_meaning.specs.Member.{Member, form_in}
use Rattle.link_map.specs.Listings.{exported_in}
use Rattle.link_map.proofs.TextLaws.{reported_none, reported_more, reported_all}
use Rattle.link_map.proofs.ListLaws.{member_there, member_item}
use Rattle.link_map.proofs.ExportLaws.{program_exports, library_exports}
use Rattle.link_map.proofs.members.put_exports.Goals as goal

pub returns-in-Program : goal.returns-in-Program
returns-in-Program c = λ is. program_exports c.args.values.now.list c.args.values.now.table c.args.line.now (sym (c.form.ensures ∙ ap form_in c.program-program.ensures) ∙ c.in-Program.is)

pub members-init : goal.members-init
members-init c = reported_none (exported_in c.args.values.now.list c.args.values.now.table) 1 c.args.values.now.list c.args.line.now

pub put_exported-requires : goal.put_exported-requires
put_exported-requires c =
    let less : c.members.place < length c.args.values.now.list = omega (arith, c.members-test.true, c.members-in-members.ensures, ap (λ (l : List Member). length l) c.program-program.ensures) in
    member_there c.args.values.now.list c.members.place less

pub members-preserved : goal.members-preserved
members-preserved c =
    let list = c.args.values.now.list in
    let less : c.members.place < length list = omega (arith, c.members-test.true, c.members-in-members.ensures, ap (λ (l : List Member). length l) c.program-program.ensures) in
    let there = member_there list c.members.place less in
    reported_more (exported_in list c.args.values.now.table) 1 c.members.place (c.members.place + 1) list there.0 c.args.line.now c.members.line c.put_exported.new.line
    (member_item list c.members.place there.0 there.1) (omega arith) c.members.invariant (c.in_ok-put_exported.ensures there.0 there.1)

pub returns : goal.returns
returns c = λ is.
    let list = c.args.values.now.list in
    let table = c.args.values.now.table in
    let most : length list ≤ c.members.place = omega (arith, c.members-test.false, c.members-in-members.ensures, ap (λ (l : List Member). length l) c.program-program.ensures) in
    library_exports list table c.args.line.now c.members.line (sym (c.form.ensures ∙ ap form_in c.program-program.ensures) ∙ c.in-Runtime.is) is
    (reported_all (exported_in list table) 1 c.members.place list c.args.line.now c.members.line most c.members.invariant)
