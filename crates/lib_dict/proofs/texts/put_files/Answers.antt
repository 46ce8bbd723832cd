use Rattle.std.proofs.Common.{◌≡◌, ◌<◌, ℕ, List, ◌++◌, length, get_or, ap, ◌∙◌, arith}
use Rattle.lib_dict.specs.declared.members.MemberRead.{MemberRead}
use Rattle.lib_dict.proofs.FileLaws.{bytes_next, bytes_all}
use Rattle.lib_dict.proofs.texts.put_files.Goals as goal

pub files-preserved : goal.files-preserved
files-preserved c =
    let i = c.files.read-index in
    let r = c.read-item.result in
    let lt : i < length c.args.reads.now.items = omega (arith, c.files-test.true, ap length c.deref-read-items.ensures.value) in
    let is : r ≡ get_or c.args.reads.now.items i r = c.read-item.is ∙ ap (λ (l : List MemberRead). get_or l i r) c.deref-read-items.ensures.value in
    bytes_next c.args.reads.now.items i c.args.out.now.items c.files.out.items c.extend_from_slice.new.self.items r c.files.invariant lt is
    (c.in_ok-extend_from_slice.ensures.items ∙ ap (λ (l : List ℕ). c.files.out.items ++ l) c.deref.ensures.value)

pub returns : goal.returns
returns c = bytes_all c.args.reads.now.items c.files.read-index c.args.out.now.items c.files.out.items c.files.invariant (omega (arith, c.files-test.false, ap length c.deref-read-items.ensures.value))
