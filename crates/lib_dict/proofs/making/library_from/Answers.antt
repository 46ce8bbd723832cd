use Rattle.std.proofs.Common.{◌≡◌, ◌≤◌, ◌-◌, ◌*◌, ℕ, List, length, map, refl, sym, ap, subst, ◌∙◌, arith}
use Rattle.std.proofs.lemmas.List.{length-map}
use Rattle.lib_dict.specs.View.{outer_row}
use Rattle.lib_dict.specs.declared.fault.LibFault.{LibFault}
use Rattle.lib_dict.specs.Library.{LibraryRow, files_text, names_text, rows_from, library_bytes, dictionary_size}
use Rattle.object_meaning.specs.Sizes.{most_bytes}
use Rattle.lib_dict.specs.Made.{library_file, IsTooLongOrMemory}
use Rattle.lib_dict.specs.Sizes.{StartBefore, moved_row}
use Rattle.lib_dict.proofs.SizeLaws.{start_before, library_is, length-library, length-rows, too_long_is, place_is}
use Rattle.lib_dict.proofs.making.library_from.Goals as goal

pub returns-in-None-clause-err : goal.returns-in-None-clause-err
returns-in-None-clause-err c =
    let files = map library_file c.args.reads.now.items in
    let first : c.len.result ≡ length (files_text 1 files) = omega (arith, c.len.ensures, c.in_ok-first.first.ok.0, ap length c.in_ok-first.ensures) in
    let rows : c.len-2.result ≡ length (rows_from 1 0 files) = omega (arith, c.len-2.ensures, c.in_ok-rows.rows.ok.0, length-map c.in_ok-rows.rows.items outer_row, ap length c.in_ok-rows.ensures) in
    let third : c.len-3.result ≡ length (names_text (rows_from 1 0 files)) =
    omega (arith, c.len-3.ensures, c.in_ok-third.third.ok.0, ap length c.in_ok-third.ensures, ap (λ (l : List LibraryRow). length (names_text l)) c.in_ok-rows.ensures) in
    let long = too_long_is files c.len.result c.len-2.result c.len-3.result c.total_bytes.result first rows third c.total_bytes.ensures c.in-None.ensures in
    subst (λ (f : LibFault). IsTooLongOrMemory files f) (sym c.too_long.ensures) (long, record { file = refl; segment = refl; at = refl })

pub rows_record-requires-clause-places : goal.rows_record-requires-clause-places
rows_record-requires-clause-places c =
    let files = map library_file c.args.reads.now.items in
    subst (StartBefore (4294967296 - c.in-Some.place)) (sym c.in_ok-rows.ensures)
    (start_before files (4294967296 - c.in-Some.place) c.requires.files (omega (arith, c.total_bytes.ensures, c.in-Some.ensures.0, c.in-Some.ensures.1)))

pub library_of-requires : goal.library_of-requires
library_of-requires c =
    let rows = c.in_ok-rows.rows.items in
    let place = c.in-Some.place in
    let twelve : length c.in_ok-second.second.items ≡ 12 * length rows =
    ap length c.in_ok-second.ensures ∙ length-rows 0 (map (moved_row place) (map outer_row rows)) ∙ ap (λ (n : ℕ). 12 * n) (length-map (map outer_row rows) (moved_row place) ∙ length-map rows outer_row) in
    omega (
      arith,
      twelve,
      ap length c.deref.ensures.value,
      ap length c.deref-2.ensures.value,
      ap length c.deref-3.ensures.value,
      c.len.ensures,
      c.len-2.ensures,
      c.len-3.ensures,
      c.in_ok-first.first.ok.0,
      c.in_ok-rows.rows.ok.0,
      c.in_ok-third.third.ok.0,
      c.in-Some.ensures.0,
      c.in-Some.ensures.1,
    )

pub returns-clause-ok : goal.returns-clause-ok
returns-clause-ok c =
    let files = map library_file c.args.reads.now.items in
    let first : c.len.result ≡ length (files_text 1 files) = omega (arith, c.len.ensures, c.in_ok-first.first.ok.0, ap length c.in_ok-first.ensures) in
    let rows : c.len-2.result ≡ length (rows_from 1 0 files) = omega (arith, c.len-2.ensures, c.in_ok-rows.rows.ok.0, length-map c.in_ok-rows.rows.items outer_row, ap length c.in_ok-rows.ensures) in
    let third : c.len-3.result ≡ length (names_text (rows_from 1 0 files)) =
    omega (arith, c.len-3.ensures, c.in_ok-third.third.ok.0, ap length c.in_ok-third.ensures, ap (λ (l : List LibraryRow). length (names_text l)) c.in_ok-rows.ensures) in
    let place : c.in-Some.place ≡ dictionary_size files = place_is files c.len.result c.len-2.result c.len-3.result c.in-Some.place first rows third c.in-Some.ensures.0 in
    let bytes : c.in_ok-out.out.items ≡ library_bytes files =
    library_is files (map outer_row c.in_ok-rows.rows.items) c.in-Some.place c.deref.result.now c.deref-2.result.now c.deref-3.result.now c.in_ok-out.out.items c.in_ok-rows.ensures
    (c.deref.ensures.value ∙ c.in_ok-first.ensures) (c.deref-3.ensures.value ∙ c.in_ok-third.ensures) place (c.deref-2.ensures.value ∙ c.in_ok-second.ensures) c.in_ok-out.ensures in
    let short : length c.in_ok-out.out.items ≤ most_bytes = omega (arith, ap length bytes, length-library files, place, c.total_bytes.ensures, c.in-Some.ensures.0, c.in-Some.ensures.1) in
    (short, bytes)
