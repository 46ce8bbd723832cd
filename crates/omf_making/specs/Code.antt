-- The exit status of the program.
use Rattle.std.specs.Prelude.{ℕ}
use Rattle.omf_making.specs.declared.status.Status.{Status}
use Rattle.omf_making.specs.declared.status.Status.TheVariants.{Done, Refused, Usage, CannotRead, CannotWrite, CannotPrint, Memory}

abbrev pub code_of : Status → ℕ
code_of Done = 0
code_of Refused = 1
code_of Usage = 2
code_of CannotRead = 3
code_of CannotWrite = 4
code_of CannotPrint = 5
code_of Memory = 6
