use Rattle.std.proofs.Common.{◌+◌, ◌++◌, ◌<◌, ℕ, List, length, ap, subst, ◌∙◌, arith}
use Rattle.std.proofs.lemmas.Result.{err_from_is_err_and}
use Rattle.load_meaning.specs.WrittenFile.{file_text}
use Rattle.link_meaning.specs.Member.{setting_in, form_in}
use Rattle.link_meaning.specs.LinkWritten.{exports}
use Rattle.link_meaning.specs.laws.Steps.{exports_for}
use Rattle.link_file.specs.Images.{images_in, images_after}
use Rattle.link_file.proofs.FileLaws.{both_text, long_both, long_first}
use Rattle.link_file.proofs.ImageLaws.{err_moved}
use Rattle.link_file.proofs.LoadLaws.{written_same}
use Rattle.link_file.proofs.file.write_linked.Goals as goal

pub returns-in_err-put_images-clause-too_long : goal.returns-in_err-put_images-clause-too_long
returns-in_err-put_images-clause-too_long c =
    let p = err_from_is_err_and c.from_residual.result c.from_residual.ensures.1 in
    rw (p.1, p.2) (λ e reported are exported same.
    let list = c.args.program.now in
    let headers = c.args.images.headers.now in
    let contents = c.args.images.contents.now in
    let records = exports_for (form_in list) 1 (exports list reported) in
    let xs = images_in records headers contents in
    let ys = images_after (length headers + 1) c.args.table.now (setting_in list).runtimes in
    let long = c.in_err-put_images.ensures.too_long (err_moved _ _ e) records exported in
    subst (λ (l : List ℕ). 0x1000000 < length l) (written_same list reported headers contents c.args.table.now are same)
    (long_first 0x1000000 xs ys (omega (arith, long, ap (λ (l : List ℕ). length l) c.new-file.ensures.items))))

pub returns-clause-ok : goal.returns-clause-ok
returns-clause-ok c = λ reported are exported same.
    let list = c.args.program.now in
    let headers = c.args.images.headers.now in
    let contents = c.args.images.contents.now in
    let records = exports_for (form_in list) 1 (exports list reported) in
    let xs = images_in records headers contents in
    let ys = images_after (length headers + 1) c.args.table.now (setting_in list).runtimes in
    both_text xs ys c.put_images.new.out.items c.put_rest.new.out.items (c.in_ok-put_images.ensures.ok records exported ∙ ap (λ (l : List ℕ). l ++ file_text xs) c.new-file.ensures.items) c.in_ok-put_rest.ensures.ok
    ∙ written_same list reported headers contents c.args.table.now are same

pub returns-in_err-put_rest-clause-too_long : goal.returns-in_err-put_rest-clause-too_long
returns-in_err-put_rest-clause-too_long c =
    let p = err_from_is_err_and c.from_residual-in_err-put_rest.result c.from_residual-in_err-put_rest.ensures.1 in
    rw (p.1, p.2) (λ e reported are exported same.
    let list = c.args.program.now in
    let headers = c.args.images.headers.now in
    let contents = c.args.images.contents.now in
    let records = exports_for (form_in list) 1 (exports list reported) in
    let xs = images_in records headers contents in
    let ys = images_after (length headers + 1) c.args.table.now (setting_in list).runtimes in
    subst (λ (l : List ℕ). 0x1000000 < length l) (written_same list reported headers contents c.args.table.now are same)
    (long_both 0x1000000 xs ys c.put_images.new.out.items (c.in_ok-put_images.ensures.ok records exported ∙ ap (λ (l : List ℕ). l ++ file_text xs) c.new-file.ensures.items) (c.in_err-put_rest.ensures.too_long (err_moved _ _ e))))
