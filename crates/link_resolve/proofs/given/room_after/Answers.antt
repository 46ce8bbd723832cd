use Rattle.std.proofs.Common.{refl, arith}
use Rattle.link_resolve.specs.Resolved.{all_bytes}
use Rattle.link_resolve.proofs.ResolveLaws.{file_there, size_more, total-take}
use Rattle.link_resolve.proofs.given.room_after.Goals as goal

pub files-preserved : goal.files-preserved
files-preserved c =
    let items = c.args.inputs.now.items in
    let at = file_there c.deref-file-items.result.now items c.files.file-index c.file-item.result c.file-item.result.items c.deref-file-items.ensures.value c.files-test.true c.file-item.is refl in
    let more = size_more items c.files.file-index c.file-item.result.items at in
    omega (arith, more, c.files.invariant, c.len-left.ensures, c.len.ensures, c.if-len-left.false)

pub returns-then-len-left : goal.returns-then-len-left
returns-then-len-left c =
    let items = c.args.inputs.now.items in
    let at = file_there c.deref-file-items.result.now items c.files.file-index c.file-item.result c.file-item.result.items c.deref-file-items.ensures.value c.files-test.true c.file-item.is refl in
    let taken = total-take (all_bytes items) c.files.file-index c.file-item.result.items at in
    omega (arith, taken, c.files.invariant, c.len.ensures, c.if-len-left.true)
