use Rattle.std.proofs.Common.{arith}
use Rattle.link_resolve.proofs.ResolveLaws.{total-take}
use Rattle.link_resolve.proofs.GivenLaws.{bytes_of, bytes_at, member_there, size_step, none_taken}
use Rattle.link_resolve.proofs.given.fit_in.Goals as goal

pub files-init : goal.files-init
files-init c = omega (arith, none_taken (bytes_of c.args.runtimes.now.items))

pub files-preserved : goal.files-preserved
files-preserved c =
    let items = c.args.runtimes.now.items in
    let m = c.member-item.result in
    let at = bytes_at items c.files.member-index m (member_there c.deref-member-items.result.now items c.files.member-index m c.deref-member-items.ensures.value c.files-test.true c.member-item.is) in
    omega (arith, size_step (bytes_of items) c.files.member-index m.bytes.items at, c.files.invariant, c.len-size.ensures, c.if-size-left.false)

pub returns-then-size-left-clause-over : goal.returns-then-size-left-clause-over
returns-then-size-left-clause-over c = λ is.
    let items = c.args.runtimes.now.items in
    let m = c.member-item.result in
    let at = bytes_at items c.files.member-index m (member_there c.deref-member-items.result.now items c.files.member-index m c.deref-member-items.ensures.value c.files-test.true c.member-item.is) in
    omega (arith, total-take (bytes_of items) c.files.member-index m.bytes.items at, c.files.invariant, c.len-size.ensures, c.if-size-left.true)
