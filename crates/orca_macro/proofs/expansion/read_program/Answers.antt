use Rattle.std.proofs.Common.{◌≡◌, None, sym, ap, ◌∙◌}
use Rattle.macro_meaning.specs.Expansion.{first_in, file_text_fault}
use Rattle.orca_macro.specs.Files.{texts_of_files, lines_from}
use Rattle.orca_macro.proofs.Whole.{own_files, read_good, read_as, read_refused}
use Rattle.orca_macro.proofs.expansion.read_program.Goals as goal

pub program_of-read-requires-clause-macros : goal.program_of-read-requires-clause-macros
program_of-read-requires-clause-macros c =
    let texts = ap texts_of_files c.as_slice.ensures.value in
    let files_are : c.as_slice-2.result.now ≡ lines_from 1 (texts_of_files c.args.macros.now.items) = c.as_slice-2.ensures.value ∙ c.in_ok-files.ensures.lines ∙ ap (lines_from 1) texts in
    own_files (texts_of_files c.args.macros.now.items) c.as_slice-2.result.now files_are

pub returns-in-Ok-read-clause-good : goal.returns-in-Ok-read-clause-good
returns-in-Ok-read-clause-good c =
    let texts = ap texts_of_files c.as_slice.ensures.value in
    let files_are : c.as_slice-2.result.now ≡ lines_from 1 (texts_of_files c.args.macros.now.items) = c.as_slice-2.ensures.value ∙ c.in_ok-files.ensures.lines ∙ ap (lines_from 1) texts in
    let good : first_in file_text_fault 1 (texts_of_files c.args.macros.now.items) ≡ None = sym (ap (first_in file_text_fault 1) texts) ∙ c.in_ok-files.ensures.good in
    read_good c.args.source.now (texts_of_files c.args.macros.now.items) c.in-Ok.lines c.as_slice-2.result.now c.in-Ok.ensures.lines files_are good c.in-Ok.ensures.good c.in-Ok-read.found c.in-Ok-read.ensures

pub returns-in-Ok-read-clause-program : goal.returns-in-Ok-read-clause-program
returns-in-Ok-read-clause-program c =
    let texts = ap texts_of_files c.as_slice.ensures.value in
    let files_are : c.as_slice-2.result.now ≡ lines_from 1 (texts_of_files c.args.macros.now.items) = c.as_slice-2.ensures.value ∙ c.in_ok-files.ensures.lines ∙ ap (lines_from 1) texts in
    let good : first_in file_text_fault 1 (texts_of_files c.args.macros.now.items) ≡ None = sym (ap (first_in file_text_fault 1) texts) ∙ c.in_ok-files.ensures.good in
    read_as c.args.source.now (texts_of_files c.args.macros.now.items) c.in-Ok.lines c.as_slice-2.result.now c.in-Ok.ensures.lines files_are good c.in-Ok.ensures.good c.in-Ok-read.found c.in-Ok-read.ensures

pub returns-in-Ok-read-clause-refused : goal.returns-in-Ok-read-clause-refused
returns-in-Ok-read-clause-refused c =
    let texts = ap texts_of_files c.as_slice.ensures.value in
    let files_are : c.as_slice-2.result.now ≡ lines_from 1 (texts_of_files c.args.macros.now.items) = c.as_slice-2.ensures.value ∙ c.in_ok-files.ensures.lines ∙ ap (lines_from 1) texts in
    let good : first_in file_text_fault 1 (texts_of_files c.args.macros.now.items) ≡ None = sym (ap (first_in file_text_fault 1) texts) ∙ c.in_ok-files.ensures.good in
    read_refused c.args.source.now (texts_of_files c.args.macros.now.items) c.in-Ok.lines c.as_slice-2.result.now c.in-Ok.ensures.lines files_are good c.in-Ok.ensures.good c.in-Ok-read.found c.in-Ok-read.ensures
