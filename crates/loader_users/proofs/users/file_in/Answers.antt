use Rattle.std.proofs.Common.{length, refl, sym, ◌∙◌, arith}
use Rattle.std.proofs.lemmas.Option.{slice_get_read}
use Rattle.loader_users.proofs.Families.{file_here, file_next, file_past}
use Rattle.loader_users.proofs.users.file_in.Goals as goal

pub files-init : goal.files-init
files-init c = refl

pub returns-then-index-id : goal.returns-then-index-id
returns-then-index-id c =
    let ids = c.args.attached.now.items in
    let is = slice_get_read ids (length ids) c.files.place c.index.result.now refl (omega (arith, c.files-test.true, c.len-place-end.ensures)) c.index.ensures in
    sym (c.files.invariant ∙ file_here ids c.args.id c.files.place c.index.result.now is c.if-index-id.true)

pub files-preserved : goal.files-preserved
files-preserved c =
    let ids = c.args.attached.now.items in
    let is = slice_get_read ids (length ids) c.files.place c.index.result.now refl (omega (arith, c.files-test.true, c.len-place-end.ensures)) c.index.ensures in
    c.files.invariant ∙ file_next ids c.args.id c.files.place c.index.result.now is c.if-index-id.false

pub returns : goal.returns
returns c = sym (c.files.invariant ∙ file_past c.args.attached.now.items c.args.id c.files.place (omega (arith, c.files-test.false, c.len-place-end.ensures)))
