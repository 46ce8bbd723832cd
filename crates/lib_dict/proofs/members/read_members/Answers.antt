use Rattle.std.proofs.Common.{◌≡◌, ◌<◌, List, length, get_or, ap, ◌∙◌, arith}
use Rattle.std.proofs.lemmas.Result.{err_from_is_err_and}
use Rattle.lib_dict.specs.declared.member.Member.{Member}
use Rattle.lib_dict.proofs.MemberLaws.{read_more, read_fails}
use Rattle.lib_dict.proofs.members.read_members.Goals as goal

pub returns-in_err-read-clause-err : goal.returns-in_err-read-clause-err
returns-in_err-read-clause-err c =
    let p = err_from_is_err_and c.from_residual-in_err-read.result c.from_residual-in_err-read.ensures.1 in
    let i = c.members.member-index in
    let m = c.member-item.result in
    let lt : i < length c.args.members.now.items = omega (arith, c.members-test.true, ap length c.deref-member-items.ensures.value) in
    let is : m ≡ get_or c.args.members.now.items i m = c.member-item.is ∙ ap (λ (l : List Member). get_or l i m) c.deref-member-items.ensures.value in
    rw (p.1, p.2) (read_fails c.args.members.now.items i c.members.file c.members.reads.items m c.in_err-read.field-0.0 c.members.invariant lt is c.in_err-read.ensures.err)

pub members-preserved : goal.members-preserved
members-preserved c =
    let i = c.members.member-index in
    let m = c.member-item.result in
    let lt : i < length c.args.members.now.items = omega (arith, c.members-test.true, ap length c.deref-member-items.ensures.value) in
    let is : m ≡ get_or c.args.members.now.items i m = c.member-item.is ∙ ap (λ (l : List Member). get_or l i m) c.deref-member-items.ensures.value in
    read_more c.args.members.now.items i c.members.file c.members.reads.items c.push.new.self.items m c.in_ok-read.read c.members.invariant lt is c.in_ok-read.ensures.ok c.in_ok-push.ensures.items
