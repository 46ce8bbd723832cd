use Rattle.std.proofs.Common.{◌≡◌, ◌<◌, ◌+◌, ℕ, List, length, get_or, sym, ap, subst, ◌∙◌, arith}
use Rattle.lib_dict.specs.declared.members.MemberRead.{MemberRead}
use Rattle.lib_dict.proofs.FileLaws.{Counted, file_is, counted_next, counted_all}
use Rattle.lib_dict.proofs.files.total_bytes.Goals as goal

pub files-init : goal.files-init
files-init c = record { small = omega arith; whole = omega arith }

pub overflow_add-total : goal.overflow_add-total
overflow_add-total c =
    let i = c.files.read-index in
    let r = c.read-item.result in
    let lt : i < length c.args.reads.now.items = omega (arith, c.files-test.true, ap length c.deref-read-items.ensures.value) in
    let is : r ≡ get_or c.args.reads.now.items i r = c.read-item.is ∙ ap (λ (l : List MemberRead). get_or l i r) c.deref-read-items.ensures.value in
    let one = file_is c.args.reads.now.items i r c.requires.files lt is in
    omega (arith, lt, c.requires.few, c.files.invariant.small, one.short, c.len.ensures, r.member.now.bytes.ok.0)

pub files-preserved : goal.files-preserved
files-preserved c =
    let i = c.files.read-index in
    let r = c.read-item.result in
    let lt : i < length c.args.reads.now.items = omega (arith, c.files-test.true, ap length c.deref-read-items.ensures.value) in
    let is : r ≡ get_or c.args.reads.now.items i r = c.read-item.is ∙ ap (λ (l : List MemberRead). get_or l i r) c.deref-read-items.ensures.value in
    let size : c.len.result ≡ length r.member.now.bytes.items = omega (arith, c.len.ensures, r.member.now.bytes.ok.0) in
    subst (λ (n : ℕ). Counted c.args.reads.now.items (i + 1) (c.files.total + n)) (sym size) (counted_next c.args.reads.now.items i c.files.total r c.files.invariant c.requires.files lt is)

pub returns : goal.returns
returns c = counted_all c.args.reads.now.items c.files.read-index c.files.total c.files.invariant (omega (arith, c.files-test.false, ap length c.deref-read-items.ensures.value))
