use Rattle.lib_dict.proofs.FileLaws.{PassedFiles}
use Rattle.lib_dict.proofs.files.rows_of_files.Given as goal

-- the files that were passed gave their rows
abbrev pub invariant-files : goal.invariant-files
invariant-files l = PassedFiles l.reads.items l.read-index l.file l.front l.rows.items
