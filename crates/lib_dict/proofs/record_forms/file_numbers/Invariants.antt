use Rattle.std.proofs.Common.{length}
use Rattle.lib_dict.proofs.Forms.{ReadFiles}
use Rattle.lib_dict.proofs.record_forms.file_numbers.Given as goal

-- the numbers before what is left were read
abbrev pub invariant-files : goal.invariant-files
invariant-files l = ReadFiles l.bytes l.rest l.numbers.keys

abbrev pub decreases-files : goal.decreases-files
decreases-files l = length l.rest
