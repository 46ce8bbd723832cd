use Rattle.std.proofs.Common.{◌≡◌, ◌+◌, ◌++◌, ℕ, drop, sym, subst}
use Rattle.std.proofs.lemmas.Result.{err_from_is_err_and}
use Rattle.macro_meaning.specs.Expansion.{first_in, file_text_fault, next_file}
use Rattle.orca_macro.specs.Files.{texts_of_files, lines_from}
use Rattle.orca_macro.proofs.Whole.{next_text, lines_more, good_more, lines_end, good_end, bad_file, none_left}
use Rattle.orca_macro.proofs.expansion.read_all.Goals as goal

pub returns-in_err-lines-clause-refused : goal.returns-in_err-lines-clause-refused
returns-in_err-lines-clause-refused c =
    let macros = c.args.macros.now in
    let i = c.files.bytes-index in
    let first = next_text macros i c.bytes-item.result c.as_slice.result.now c.files-test.true c.bytes-item.is c.as_slice.ensures.value in
    let p = err_from_is_err_and c.from_residual.result c.from_residual.ensures.1 in
    rw (p.1, p.2)
    (bad_file c.files.file c.as_slice.result.now (texts_of_files (drop (i + 1) macros)) (texts_of_files (drop i macros)) (first_in file_text_fault 1 (texts_of_files macros)) c.in_err-lines.field-0.0 first
    c.files.invariant.good c.in_err-lines.ensures.refused)

pub files-preserved : goal.files-preserved
files-preserved c =
    let macros = c.args.macros.now in
    let i = c.files.bytes-index in
    let left = texts_of_files (drop i macros) in
    let more = texts_of_files (drop (i + 1) macros) in
    let bytes = c.as_slice.result.now in
    let first = next_text macros i c.bytes-item.result bytes c.files-test.true c.bytes-item.is c.as_slice.ensures.value in
    let next : next_file c.files.file ≡ c.saturating_add-file.result = sym c.saturating_add-file.ensures in
    record {
      lines = subst (λ (n : ℕ). c.push.new.self.items ++ lines_from n more ≡ lines_from 1 (texts_of_files macros)) next
          (lines_more c.files.found.items c.push.new.self.items c.files.file bytes more left c.in_ok-lines.lines (lines_from 1 (texts_of_files macros)) first c.files.invariant.lines c.in_ok-lines.ensures.lines c.in-Ok.ensures.items);
      good = subst (λ (n : ℕ). first_in file_text_fault n more ≡ first_in file_text_fault 1 (texts_of_files macros)) next
          (good_more c.files.file bytes more left (first_in file_text_fault 1 (texts_of_files macros)) first c.files.invariant.good c.in_ok-lines.ensures.good);
    }

pub returns-clause-lines : goal.returns-clause-lines
returns-clause-lines c =
    let macros = c.args.macros.now in
    let i = c.files.bytes-index in
    lines_end c.files.found.items c.files.file (texts_of_files (drop i macros)) (lines_from 1 (texts_of_files macros)) (none_left macros i c.files-test.false) c.files.invariant.lines

pub returns-clause-good : goal.returns-clause-good
returns-clause-good c =
    let macros = c.args.macros.now in
    let i = c.files.bytes-index in
    good_end c.files.file (texts_of_files (drop i macros)) (first_in file_text_fault 1 (texts_of_files macros)) (none_left macros i c.files-test.false) c.files.invariant.good
