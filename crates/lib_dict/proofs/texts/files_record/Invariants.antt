use Rattle.lib_dict.proofs.FileLaws.{WrittenFiles}
use Rattle.lib_dict.proofs.texts.files_record.Given as goal

-- the files that were passed were written
abbrev pub invariant-files : goal.invariant-files
invariant-files l = WrittenFiles l.reads.items l.read-index l.file l.out.items
