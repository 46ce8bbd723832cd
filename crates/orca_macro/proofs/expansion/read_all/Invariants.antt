use Rattle.std.proofs.Common.{◌≡◌, ◌++◌, drop}
use Rattle.macro_meaning.specs.Expansion.{first_in, file_text_fault}
use Rattle.orca_macro.specs.Files.{texts_of_files, lines_from}
use Rattle.orca_macro.proofs.expansion.read_all.Given as goal

abbrev pub invariant-files : goal.invariant-files
invariant-files l =
    let left = texts_of_files (drop l.bytes-index l.macros) in
    record {
      lines : l.found.items ++ lines_from l.file left ≡ lines_from 1 (texts_of_files l.macros);
      good : first_in file_text_fault l.file left ≡ first_in file_text_fault 1 (texts_of_files l.macros);
    }
