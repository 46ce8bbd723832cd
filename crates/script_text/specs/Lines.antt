-- What one more line of a script makes of the commands so far.
use Rattle.std.specs.Prelude.{◌≡◌, ℕ, ◌<◌, true, false, Bool, List, [], ◌∷◌, ◌++◌, Ok}
use Rattle.loader_machine.specs.declared.script.ScriptCause.{ScriptCause}
use Rattle.loader_machine.specs.declared.script.ScriptCause.TheVariants.{TooManyLines, BadWord, UnknownCommand, BanksFirst, WrongCount, BadNumber, BankTwice, Memory}
use Rattle.loader_machine.specs.Commands.{Command}
use Rattle.loader_machine.specs.Script.{most_lines, is_skipped, line_command, IsBad, is_start}

-- the line, after `before` others, is skipped, or gives the command at the end
pub data HasTaken (before : ℕ) (line : List ℕ) (old new : List Command) : Type 0 where
  Skipped : before < most_lines → is_skipped line ≡ true → new ≡ old → HasTaken before line old new
  Gave : before < most_lines → is_skipped line ≡ false → (command : Command) → line_command (is_start old) line ≡ Ok command
      → new ≡ old ++ command ∷ [] → HasTaken before line old new

-- the line is bad for this cause, unless out of memory
abbrev pub IsBadFor : ℕ → Bool → List ℕ → ScriptCause → Type 0
IsBadFor before is_first line TooManyLines = IsBad before is_first line TooManyLines
IsBadFor before is_first line BadWord = IsBad before is_first line BadWord
IsBadFor before is_first line UnknownCommand = IsBad before is_first line UnknownCommand
IsBadFor before is_first line BanksFirst = IsBad before is_first line BanksFirst
IsBadFor before is_first line WrongCount = IsBad before is_first line WrongCount
IsBadFor before is_first line BadNumber = IsBad before is_first line BadNumber
IsBadFor before is_first line BankTwice = IsBad before is_first line BankTwice
IsBadFor before is_first line Memory = Unit {0}
