use Rattle.std.proofs.Common.{◌≡◌, None, length, sym, ap, ◌∙◌}
use Rattle.std.proofs.lemmas.Bool.{eqb-true}
use Rattle.macro_meaning.specs.Expansion.{first_in, file_text_fault}
use Rattle.orca_macro.specs.Files.{texts_of_files, lines_from}
use Rattle.orca_macro.proofs.Sources.{untouched_expand}
use Rattle.orca_macro.proofs.Whole.{own_files, parts_refused, all_expand, all_refused}
use Rattle.orca_macro.proofs.expansion.expand.Goals as goal

pub program_of-requires-clause-macros : goal.program_of-requires-clause-macros
program_of-requires-clause-macros c =
    let texts = ap texts_of_files c.as_slice-texts.ensures.value in
    let files_are : c.as_slice-parts.result.now ≡ lines_from 1 (texts_of_files c.args.macros.now.items) = c.as_slice-parts.ensures.value ∙ c.in_ok-files.ensures.lines ∙ ap (lines_from 1) texts in
    own_files (texts_of_files c.args.macros.now.items) c.as_slice-parts.result.now files_are

pub returns-in-Ok-Err-clause-refused : goal.returns-in-Ok-Err-clause-refused
returns-in-Ok-Err-clause-refused c =
    let texts = ap texts_of_files c.as_slice-texts.ensures.value in
    let files_are : c.as_slice-parts.result.now ≡ lines_from 1 (texts_of_files c.args.macros.now.items) = c.as_slice-parts.ensures.value ∙ c.in_ok-files.ensures.lines ∙ ap (lines_from 1) texts in
    let good : first_in file_text_fault 1 (texts_of_files c.args.macros.now.items) ≡ None = sym (ap (first_in file_text_fault 1) texts) ∙ c.in_ok-files.ensures.good in
    parts_refused c.args.source.now (texts_of_files c.args.macros.now.items) c.in-Ok.lines c.as_slice-parts.result.now c.in-Ok-Err.fault c.in-Ok.ensures.lines files_are good c.in-Ok.ensures.good
    (rw c.in-Ok-Err.field-0-is at c.in-Ok-Err.ensures)

pub returns-in-Ok-visited-clause-lines : goal.returns-in-Ok-visited-clause-lines
returns-in-Ok-visited-clause-lines c =
    let texts = ap texts_of_files c.as_slice-texts.ensures.value in
    let files_are : c.as_slice-parts.result.now ≡ lines_from 1 (texts_of_files c.args.macros.now.items) = c.as_slice-parts.ensures.value ∙ c.in_ok-files.ensures.lines ∙ ap (lines_from 1) texts in
    let good : first_in file_text_fault 1 (texts_of_files c.args.macros.now.items) ≡ None = sym (ap (first_in file_text_fault 1) texts) ∙ c.in_ok-files.ensures.good in
    all_expand c.args.source.now (texts_of_files c.args.macros.now.items) c.in-Ok.lines c.as_slice-parts.result.now c.in-Ok.ensures.lines files_are good c.in-Ok.ensures.good c.in-Ok-Ok.program
    (rw c.in-Ok-Ok.field-0-is at c.in-Ok-Ok.ensures) c.in-Ok-visited.found c.in-Ok-visited.ensures

pub returns-in-Ok-visited-clause-refused : goal.returns-in-Ok-visited-clause-refused
returns-in-Ok-visited-clause-refused c =
    let texts = ap texts_of_files c.as_slice-texts.ensures.value in
    let files_are : c.as_slice-parts.result.now ≡ lines_from 1 (texts_of_files c.args.macros.now.items) = c.as_slice-parts.ensures.value ∙ c.in_ok-files.ensures.lines ∙ ap (lines_from 1) texts in
    let good : first_in file_text_fault 1 (texts_of_files c.args.macros.now.items) ≡ None = sym (ap (first_in file_text_fault 1) texts) ∙ c.in_ok-files.ensures.good in
    all_refused c.args.source.now (texts_of_files c.args.macros.now.items) c.in-Ok.lines c.as_slice-parts.result.now c.in-Ok.ensures.lines files_are good c.in-Ok.ensures.good c.in-Ok-Ok.program
    (rw c.in-Ok-Ok.field-0-is at c.in-Ok-Ok.ensures) c.in-Ok-visited.found c.in-Ok-visited.ensures

pub returns-then-are_untouched-clause-lines : goal.returns-then-are_untouched-clause-lines
returns-then-are_untouched-clause-lines c =
    let none : length c.args.macros.now.items ≡ 0 =
    sym (ap length c.as_slice-texts.ensures.value) ∙ eqb-true (length c.as_slice-texts.result.now) 0 (sym c.is_empty.ensures ∙ c.if-is_empty.true) in
    untouched_expand c.args.source.now c.args.macros.now.items c.in-Ok.lines c.drop_comments.new.self none c.in-Ok.ensures.lines c.in-Ok.ensures.good (c.are_untouched.ensures c.if-are_untouched.true) c.drop_comments.ensures
