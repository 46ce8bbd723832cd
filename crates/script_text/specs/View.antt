-- How commands, their causes and faults are seen.
use Rattle.std.specs.Prelude.{◌≡◌, ℕ, List, Result, Ok, Err}
use Rattle.loader_machine.specs.declared.script.ScriptCause.{ScriptCause}
use Rattle.loader_machine.specs.declared.script.ScriptCause.TheVariants.{TooManyLines, BadWord, UnknownCommand, BanksFirst, WrongCount, BadNumber, BankTwice, Memory}
use Rattle.loader_machine.specs.declared.script.ScriptFault.{ScriptFault}
use Rattle.loader_machine.specs.Commands as machine
use Rattle.loader_machine.specs.Script.{IsFirstBadLine}
use Rattle.script_text.specs.declared.command.Command.{Command}
use Rattle.script_text.specs.declared.command.Command.TheVariants as declared

-- a command with its list and its path as their bytes
abbrev pub command : Command → machine.Command
command (declared.Banks list) = machine.Banks list
command (declared.Load path) = machine.Load path
command (declared.LoadSegment user segment) = machine.LoadSegment user segment
command (declared.UnloadSegment user segment) = machine.UnloadSegment user segment
command (declared.Jsl user segment at) = machine.Jsl user segment at
command (declared.ShutDown user keep) = machine.ShutDown user keep
command (declared.Restart user) = machine.Restart user
command (declared.Purge user) = machine.Purge user
command (declared.Poke user segment at byte) = machine.Poke user segment at byte
command (declared.Bytes user segment at size) = machine.Bytes user segment at size
command (declared.Where address) = machine.Where address
command (declared.Info user segment) = machine.Info user segment
command (declared.Alloc size attr address) = machine.Alloc size attr address
command (declared.Free h) = machine.Free h
command (declared.Lock h) = machine.Lock h
command (declared.Unlock h) = machine.Unlock h
command (declared.Level h level) = machine.Level h level
command (declared.Handle h) = machine.StateOf h
command declared.Room = machine.Room
command declared.Compact = machine.Compact

-- a cause is this answer, unless out of memory
abbrev pub IsCause : {A : Type 0} → ScriptCause → Result A ScriptCause → Type 0
IsCause TooManyLines read = read ≡ Err TooManyLines
IsCause BadWord read = read ≡ Err BadWord
IsCause UnknownCommand read = read ≡ Err UnknownCommand
IsCause BanksFirst read = read ≡ Err BanksFirst
IsCause WrongCount read = read ≡ Err WrongCount
IsCause BadNumber read = read ≡ Err BadNumber
IsCause BankTwice read = read ≡ Err BankTwice
IsCause Memory read = Unit {0}

-- what was read, as it is seen, is this answer, unless out of memory
abbrev pub IsRead : {A B : Type 0} → (A → B) → Result A ScriptCause → Result B ScriptCause → Type 0
IsRead seen (Ok found) read = read ≡ Ok (seen found)
IsRead seen (Err cause) read = IsCause cause read

-- the text's line with this number is its first bad one, for the first cause; when out of memory the number is 0
abbrev pub IsRefusedFor : ScriptCause → ℕ → List ℕ → Type 0
IsRefusedFor TooManyLines line text = IsFirstBadLine text line TooManyLines
IsRefusedFor BadWord line text = IsFirstBadLine text line BadWord
IsRefusedFor UnknownCommand line text = IsFirstBadLine text line UnknownCommand
IsRefusedFor BanksFirst line text = IsFirstBadLine text line BanksFirst
IsRefusedFor WrongCount line text = IsFirstBadLine text line WrongCount
IsRefusedFor BadNumber line text = IsFirstBadLine text line BadNumber
IsRefusedFor BankTwice line text = IsFirstBadLine text line BankTwice
IsRefusedFor Memory line text = line ≡ 0

abbrev pub IsRefused : ScriptFault → List ℕ → Type 0
IsRefused fault text = IsRefusedFor fault.cause fault.line text

-- the line that a fault for this cause has
abbrev pub line_for : ScriptCause → ℕ → ℕ
line_for Memory line = 0
line_for _ line = line
