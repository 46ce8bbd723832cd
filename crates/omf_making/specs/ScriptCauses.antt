-- How the causes against a script are printed.
use Rattle.std.specs.Prelude.{ℕ, List, codes}
use Rattle.loader_machine.specs.declared.script.ScriptCause.{ScriptCause}
use Rattle.loader_machine.specs.declared.script.ScriptCause.TheVariants.{TooManyLines, BadWord, UnknownCommand, BanksFirst, WrongCount, BadNumber, BankTwice, Memory}

-- the name of a cause
abbrev pub script_cause_name : ScriptCause → List ℕ
script_cause_name TooManyLines = codes "TooManyLines"
script_cause_name BadWord = codes "BadWord"
script_cause_name UnknownCommand = codes "UnknownCommand"
script_cause_name BanksFirst = codes "BanksFirst"
script_cause_name WrongCount = codes "WrongCount"
script_cause_name BadNumber = codes "BadNumber"
script_cause_name BankTwice = codes "BankTwice"
script_cause_name Memory = codes "Memory"
