use Rattle.std.proofs.Common.{◌≡◌, ◌<◌, ◌+◌, ℕ, List, length, get_or, sym, ap, subst, ◌∙◌, arith}
use Rattle.lib_dict.specs.declared.members.MemberRead.{MemberRead}
use Rattle.lib_dict.proofs.MemberLaws.{few_in}
use Rattle.lib_dict.proofs.FileLaws.{PassedFiles, files_none, file_is, files_next, files_all}
use Rattle.lib_dict.proofs.files.rows_of_files.Goals as goal

pub files-init : goal.files-init
files-init c = files_none c.args.reads.now.items c.new-rows.result.items c.new-rows.ensures.items

pub put_file-requires-clause-few : goal.put_file-requires-clause-few
put_file-requires-clause-few c =
    let i = c.files.read-index in
    let r = c.read-item.result in
    let lt : i < length c.args.reads.now.items = omega (arith, c.files-test.true, ap length c.deref-read-items.ensures.value) in
    let is : r ≡ get_or c.args.reads.now.items i r = c.read-item.is ∙ ap (λ (l : List MemberRead). get_or l i r) c.deref-read-items.ensures.value in
    let one = file_is c.args.reads.now.items i r c.requires.files lt is in
    few_in r.list r.member.now.bytes.items one.segments one.short

pub put_file-requires-clause-fits : goal.put_file-requires-clause-fits
put_file-requires-clause-fits c =
    let lt : c.files.read-index < length c.args.reads.now.items = omega (arith, c.files-test.true, ap length c.deref-read-items.ensures.value) in
    omega (arith, lt, c.requires.few, c.files.invariant.front')

pub overflow_add-front : goal.overflow_add-front
overflow_add-front c =
    let i = c.files.read-index in
    let r = c.read-item.result in
    let lt : i < length c.args.reads.now.items = omega (arith, c.files-test.true, ap length c.deref-read-items.ensures.value) in
    let is : r ≡ get_or c.args.reads.now.items i r = c.read-item.is ∙ ap (λ (l : List MemberRead). get_or l i r) c.deref-read-items.ensures.value in
    let one = file_is c.args.reads.now.items i r c.requires.files lt is in
    omega (arith, lt, c.requires.few, c.files.invariant.front', one.short, c.len.ensures, r.member.now.bytes.ok.0)

pub files-preserved : goal.files-preserved
files-preserved c =
    let i = c.files.read-index in
    let r = c.read-item.result in
    let lt : i < length c.args.reads.now.items = omega (arith, c.files-test.true, ap length c.deref-read-items.ensures.value) in
    let is : r ≡ get_or c.args.reads.now.items i r = c.read-item.is ∙ ap (λ (l : List MemberRead). get_or l i r) c.deref-read-items.ensures.value in
    let size : c.len.result ≡ length r.member.now.bytes.items = omega (arith, c.len.ensures, r.member.now.bytes.ok.0) in
    subst (λ (n : ℕ). PassedFiles c.args.reads.now.items (i + 1) (c.files.file + 1) (c.files.front + n) c.put_file.new.rows.items) (sym size)
    (files_next c.args.reads.now.items i c.files.file c.files.front c.files.rows.items c.put_file.new.rows.items r c.files.invariant c.requires.files lt is c.in_ok-put_file.ensures)

pub returns : goal.returns
returns c = files_all c.args.reads.now.items c.files.read-index c.files.file c.files.front c.files.rows.items c.files.invariant (omega (arith, c.files-test.false, ap length c.deref-read-items.ensures.value))
