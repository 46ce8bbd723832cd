use Rattle.std.proofs.Common.{◌≡◌, ◌<◌, ℕ, List, ◌∷◌, ◌++◌, length, get_or, ap, ◌∙◌, arith}
use Rattle.byteorder.specs.Endian.{little_bytes}
use Rattle.lib_dict.specs.declared.members.MemberRead.{MemberRead}
use Rattle.lib_dict.proofs.FileLaws.{written_none, written_next, written_all}
use Rattle.lib_dict.proofs.texts.files_record.Goals as goal

pub files-init : goal.files-init
files-init c = written_none c.args.reads.now.items c.new-out.result.items c.new-out.ensures.items

pub files-preserved : goal.files-preserved
files-preserved c =
    let i = c.files.read-index in
    let r = c.read-item.result in
    let lt : i < length c.args.reads.now.items = omega (arith, c.files-test.true, ap length c.deref-read-items.ensures.value) in
    let is : r ≡ get_or c.args.reads.now.items i r = c.read-item.is ∙ ap (λ (l : List MemberRead). get_or l i r) c.deref-read-items.ensures.value in
    written_next c.args.reads.now.items i c.files.file c.files.out.items c.put_file.new.out.items r c.files.invariant lt is
    (c.in_ok-put_file.ensures ∙ ap (λ (n : List ℕ). c.files.out.items ++ (little_bytes 2 c.files.file ++ length n ∷ n)) c.bytes.ensures.value)

pub returns : goal.returns
returns c =
    written_all c.args.reads.now.items c.files.read-index c.files.file c.files.out.items c.extend_from_slice.new.self.items c.files.invariant (omega (arith, c.files-test.false, ap length c.deref-read-items.ensures.value)) c.in_ok-extend_from_slice.ensures.items
