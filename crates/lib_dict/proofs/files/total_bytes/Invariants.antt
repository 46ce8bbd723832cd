use Rattle.lib_dict.proofs.FileLaws.{Counted}
use Rattle.lib_dict.proofs.files.total_bytes.Given as goal

-- the bytes of the files that were passed
abbrev pub invariant-files : goal.invariant-files
invariant-files l = Counted l.reads.items l.read-index l.total
