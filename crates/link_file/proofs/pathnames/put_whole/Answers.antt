use Rattle.std.proofs.Common.{◌≡◌, ◌++◌, ℕ, List, length, ap, ◌∙◌, arith}
use Rattle.std.proofs.lemmas.List.{length-append}
use Rattle.omf_header.specs.View.{fields}
use Rattle.load_meaning.specs.WrittenFile.{image_text}
use Rattle.link_file.specs.Images.{whole_image}
use Rattle.link_tables.proofs.OnOks.{on_ok}
use Rattle.link_file.proofs.ImageLaws.{spaced_writable, spaced_bytes}
use Rattle.link_file.proofs.PathLaws.{whole_text, whole_size}
use Rattle.link_file.proofs.pathnames.put_whole.Goals as goal

pub returns-then-start-header_size-ge-MAX_FILE-clause-too_long : goal.returns-then-start-header_size-ge-MAX_FILE-clause-too_long
returns-then-start-header_size-ge-MAX_FILE-clause-too_long c = λ e.
    let f = fields c.args.header.now in
    let size = whole_size f c.args.bytes.now c.requires.some c.recall_header_size.ensures in
    omega (arith, size, c.if-start-header_size-ge-MAX_FILE.true, c.header_size.ensures.value, ap length c.as_slice-start.ensures.value)

pub header_before-requires : goal.header_before-requires
header_before-requires c = spaced_writable (fields c.args.header.now) 0 c.requires.writable

pub returns-clause-ok : goal.returns-clause-ok
returns-clause-ok c =
    let f = fields c.args.header.now in
    let bytes = c.args.bytes.now in
    on_ok c.put_parts.result _ _
    (λ more. more ∙ ap (λ (l : List ℕ). c.args.out.now.items ++ l) (whole_text f bytes c.as_slice.result.now c.requires.some (c.as_slice.ensures.value ∙ c.in_ok-front.ensures.ok ∙ spaced_bytes f 0 _)))
    c.put_parts.ensures.ok

pub returns-clause-short : goal.returns-clause-short
returns-clause-short c =
    let f = fields c.args.header.now in
    let bytes = c.args.bytes.now in
    let old = c.args.out.now.items in
    let text = image_text (whole_image f bytes) in
    let size = whole_size f bytes c.requires.some c.recall_header_size.ensures in
    on_ok c.put_parts.result _ _
    (λ more.
    let whole : c.put_parts.new.out.items ≡ old ++ text = more ∙ ap (λ (l : List ℕ). old ++ l) (whole_text f bytes c.as_slice.result.now c.requires.some (c.as_slice.ensures.value ∙ c.in_ok-front.ensures.ok ∙ spaced_bytes f 0 _)) in
    omega (arith, ap length whole, length-append old text, size, c.if-start-header_size-ge-MAX_FILE.false, c.header_size.ensures.value, ap length c.as_slice-start.ensures.value))
    c.put_parts.ensures.ok
