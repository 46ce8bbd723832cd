use Rattle.lib_dict.proofs.FileLaws.{WrittenBytes}
use Rattle.lib_dict.proofs.texts.put_files.Given as goal

-- the bytes of the files that were passed were written
abbrev pub invariant-files : goal.invariant-files
invariant-files l = WrittenBytes l.reads.items l.read-index l.initial.out.items l.out.items
