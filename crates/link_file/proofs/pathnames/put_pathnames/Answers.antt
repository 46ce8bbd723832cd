use Rattle.std.proofs.Common.{◌≡◌, length, sym, ap, subst, ◌∙◌, arith}
use Rattle.omf_format.specs.Header.{HeaderFields, IsWritable}
use Rattle.omf_header.specs.View.{fields}
use Rattle.load_meaning.specs.WrittenFile.{image_text, file_text}
use Rattle.link_meaning.specs.Member.{setting_in}
use Rattle.link_meaning.specs.LinkWritten.{path_images}
use Rattle.link_file.specs.Images.{with_space, whole_image}
use Rattle.link_file.specs.Paths.{paths_of}
use Rattle.link_file.proofs.ImageLaws.{ok_moved}
use Rattle.link_file.proofs.PathLaws.{no_pathnames, pathnames_text, pathnames_writable, text_fits, text_some}
use Rattle.link_file.proofs.pathnames.put_pathnames.Goals as goal

pub returns-then-runtimes-eq0-clause-ok : goal.returns-then-runtimes-eq0-clause-ok
returns-then-runtimes-eq0-clause-ok c = no_pathnames c.args.number (setting_in c.args.program.now).runtimes c.args.out.now.items (sym c.runtimes.ensures ∙ c.if-runtimes-eq0.true)

pub overflow_cast-len : goal.overflow_cast-len
overflow_cast-len c = omega (arith, c.len.ensures, c.in_ok-text.text.ok, text_fits c.args.program.now c.requires c.in_ok-text.text.items c.in_ok-text.ensures)

pub put_whole-requires-clause-writable : goal.put_whole-requires-clause-writable
put_whole-requires-clause-writable c = subst (λ (f : HeaderFields). IsWritable (with_space f 0)) (sym c.in_ok-header.ensures.ok) (pathnames_writable c.args.number c.len.result)

pub put_whole-requires-clause-some : goal.put_whole-requires-clause-some
put_whole-requires-clause-some c = text_some (paths_of c.args.program.now) c.as_slice.result.now (c.as_slice.ensures.value ∙ c.in_ok-text.ensures)

pub put_whole-requires-clause-small : goal.put_whole-requires-clause-small
put_whole-requires-clause-small c = omega (arith, text_fits c.args.program.now c.requires c.as_slice.result.now (c.as_slice.ensures.value ∙ c.in_ok-text.ensures))

pub returns-clause-ok : goal.returns-clause-ok
returns-clause-ok c =
    let rs = (setting_in c.args.program.now).runtimes in
    let text = c.as_slice.result.now in
    let size : c.len.result ≡ length text = omega (arith, c.len.ensures, c.in_ok-text.text.ok, ap length c.as_slice.ensures.value) in
    let same = pathnames_text c.args.number c.len.result rs (fields c.in_ok-header.header) text (λ none. c.if-runtimes-eq0.false (c.runtimes.ensures ∙ none)) c.in_ok-header.ensures.ok (c.as_slice.ensures.value ∙ c.in_ok-text.ensures) size in
    ok_moved c.put_whole.result c.put_whole.new.out.items c.args.out.now.items (image_text (whole_image (fields c.in_ok-header.header) text)) (file_text (path_images c.args.number rs)) same c.put_whole.ensures.ok

pub returns-clause-too_long : goal.returns-clause-too_long
returns-clause-too_long c = λ e.
    let rs = (setting_in c.args.program.now).runtimes in
    let text = c.as_slice.result.now in
    let size : c.len.result ≡ length text = omega (arith, c.len.ensures, c.in_ok-text.text.ok, ap length c.as_slice.ensures.value) in
    let same = pathnames_text c.args.number c.len.result rs (fields c.in_ok-header.header) text (λ none. c.if-runtimes-eq0.false (c.runtimes.ensures ∙ none)) c.in_ok-header.ensures.ok (c.as_slice.ensures.value ∙ c.in_ok-text.ensures) size in
    omega (arith, c.put_whole.ensures.too_long e, ap length same)
