-- The words of a line that are left.
use Rattle.std.specs.Prelude.{◌≡◌, ℕ, Bool, List, [], map, Result, Ok, Err, if◌then◌else◌}
use Rattle.std.specs.List.{list_all}
use Rattle.loader_machine.specs.declared.script.ScriptCause.{ScriptCause}
use Rattle.loader_machine.specs.declared.script.ScriptCause.TheVariants.{BadNumber}
use Rattle.iigs_meaning.specs.declared.handles.Handle.{Handle}
use Rattle.loader_machine.specs.Script.{words_of, is_number, number_of, handle_of}

-- the words of the rest of a line, if there is a rest
abbrev pub words_left : Bool → List ℕ → List (List ℕ)
words_left more rest = if more then words_of rest else []

-- the numbers of banks that the words write
abbrev pub bank_numbers : List (List ℕ) → Result (List ℕ) ScriptCause
bank_numbers words = if list_all (is_number 0 0xFF) words then Ok (map number_of words) else Err BadNumber

-- the handle that this number writes, or the same cause
abbrev pub IsHandleIn : Result Handle ScriptCause → Result ℕ ScriptCause → Type 0
IsHandleIn (Ok h) read = (n : ℕ) × (read ≡ Ok n) × (h ≡ handle_of n)
IsHandleIn (Err cause) read = read ≡ Err cause
