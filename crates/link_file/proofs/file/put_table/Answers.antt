use Rattle.std.proofs.Common.{◌≤◌, [], length, map, refl, ap, ◌∙◌, arith}
use Rattle.omf_header.specs.View.{fields}
use Rattle.load_meaning.specs.Cells.{Byte}
use Rattle.load_meaning.specs.Table.{file_entry, table_bytes}
use Rattle.load_meaning.specs.WrittenFile.{image_text, file_text}
use Rattle.link_meaning.specs.LinkWritten.{table_images}
use Rattle.link_file.specs.Images.{image_in}
use Rattle.link_file.proofs.FileLaws.{no_table, table_len, table_ready, table_text}
use Rattle.link_tables.proofs.OnOks.{on_ok}
use Rattle.link_file.proofs.ImageLaws.{ok_moved}
use Rattle.link_file.proofs.file.put_table.Goals as goal

pub returns-then-count-eq0-clause-ok : goal.returns-then-count-eq0-clause-ok
returns-then-count-eq0-clause-ok c = no_table c.args.number c.count.result c.args.table.now c.args.out.now.items c.count.ensures.value c.if-count-eq0.true

pub overflow_cast-len : goal.overflow_cast-len
overflow_cast-len c =
    let few : length c.args.table.now ≤ 4680 = omega (arith, c.count.ensures.value, c.count.ensures.few) in
    let len = table_len c.args.table.now c.len.result few (c.len.ensures (map Byte (table_bytes (map file_entry c.args.table.now))) c.in_ok-content.ensures.ok) in
    omega (arith, len.1)

pub put_image-requires : goal.put_image-requires
put_image-requires c =
    let few : length c.args.table.now ≤ 4680 = omega (arith, c.count.ensures.value, c.count.ensures.few) in
    let len = table_len c.args.table.now c.len.result few (c.len.ensures (map Byte (table_bytes (map file_entry c.args.table.now))) c.in_ok-content.ensures.ok) in
    table_ready c.args.number c.len.result c.args.table.now (fields c.in_ok-header.header) c.in_ok-content.content c.in_ok-header.ensures.ok len.0 few c.in_ok-content.ensures.ok

pub returns-clause-ok : goal.returns-clause-ok
returns-clause-ok c =
    let few : length c.args.table.now ≤ 4680 = omega (arith, c.count.ensures.value, c.count.ensures.few) in
    let len = table_len c.args.table.now c.len.result few (c.len.ensures (map Byte (table_bytes (map file_entry c.args.table.now))) c.in_ok-content.ensures.ok) in
    let text = table_text c.args.number c.len.result c.args.table.now (fields c.in_ok-header.header) c.in_ok-content.content c.in_ok-header.ensures.ok len.0 few c.in_ok-content.ensures.ok (λ none. c.if-count-eq0.false (c.count.ensures.value ∙ none)) in
    ok_moved c.put_image.result c.put_image.new.out.items c.args.out.now.items (image_text (image_in (fields c.in_ok-header.header) c.in_ok-content.content [])) (file_text (table_images c.args.number c.args.table.now)) text
    (on_ok c.put_image.result _ _ (λ go. go [] refl) c.put_image.ensures.ok)

pub returns-clause-too_long : goal.returns-clause-too_long
returns-clause-too_long c = λ e.
    let few : length c.args.table.now ≤ 4680 = omega (arith, c.count.ensures.value, c.count.ensures.few) in
    let len = table_len c.args.table.now c.len.result few (c.len.ensures (map Byte (table_bytes (map file_entry c.args.table.now))) c.in_ok-content.ensures.ok) in
    let text = table_text c.args.number c.len.result c.args.table.now (fields c.in_ok-header.header) c.in_ok-content.content c.in_ok-header.ensures.ok len.0 few c.in_ok-content.ensures.ok (λ none. c.if-count-eq0.false (c.count.ensures.value ∙ none)) in
    omega (arith, c.put_image.ensures.too_long e [] refl, ap length text)
