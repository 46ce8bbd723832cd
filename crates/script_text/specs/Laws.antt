-- Laws of scripts, in their own terms.
use Rattle.std.specs.Prelude.{◌≡◌, ℕ, true, false, List, [], ◌∷◌, ◌++◌, slice_index, ◌==◌}
use Rattle.std.specs.List.{AllByRecursion, join_with_byte}
use Rattle.loader_machine.specs.declared.script.ScriptCause.{ScriptCause}
use Rattle.loader_machine.specs.Commands.{Command}
use Rattle.omf_format.specs.Lines.{lines_of}
use Rattle.loader_machine.specs.Script.{words_of, IsScript, IsFirstBadLine, AreCommands}
use Rattle.omf_format.specs.Lines.{HasNoEnd}

-- bytes without LF and CR, and then LF, are a line; the lines after it are those of the rest
abbrev pub LfEndsLine : Type 0
LfEndsLine = (line following : List ℕ) → HasNoEnd line → lines_of (line ++ 0x0A ∷ following) ≡ line ∷ lines_of following

-- such bytes before CR LF are a line too
abbrev pub CrLfEndsLine : Type 0
CrLfEndsLine = (line following : List ℕ) → HasNoEnd line → lines_of (line ++ 0x0D ∷ 0x0A ∷ following) ≡ line ∷ lines_of following

-- and before CR, where no LF follows
abbrev pub CrEndsLine : Type 0
CrEndsLine = (line following : List ℕ) → HasNoEnd line → (slice_index following 0 == 0x0A) ≡ false
    → lines_of (line ++ 0x0D ∷ following) ≡ line ∷ lines_of following

-- bytes without an end, of which there is one at least, are a line too
abbrev pub LastNeedsNoEnd : Type 0
LastNeedsNoEnd = (byte : ℕ) (line : List ℕ) → HasNoEnd (byte ∷ line) → lines_of (byte ∷ line) ≡ (byte ∷ line) ∷ []

-- a line is its words with a space between each two, and no word has a space in it
abbrev pub WordsMakeLine : Type 0
WordsMakeLine = (line : List ℕ) → (join_with_byte 0x20 (words_of line) ≡ line)
    × AllByRecursion (λ word. AllByRecursion (λ byte. (byte == 0x20) ≡ false) word) (words_of line)

-- a text is a script of one list of commands at most
abbrev pub OneListOfCommands : Type 0
OneListOfCommands = (text : List ℕ) (a b : List Command) → IsScript text a → IsScript text b → a ≡ b

-- a text has one first bad line at most, and it one cause
abbrev pub OneFirstBadLine : Type 0
OneFirstBadLine = (text : List ℕ) (m n : ℕ) (a b : ScriptCause) → IsFirstBadLine text m a → IsFirstBadLine text n b
    → (m ≡ n) × (a ≡ b)

-- a text with a bad line is no script
abbrev pub BadLineIsNoScript : Type 0
BadLineIsNoScript = (text : List ℕ) (commands : List Command) (number : ℕ) (cause : ScriptCause) → IsScript text commands
    → IsFirstBadLine text number cause → ⊥

-- the values of a script's commands lie in their bounds, and `banks` is the first command and no later one
abbrev pub CommandsKeepBounds : Type 0
CommandsKeepBounds = (text : List ℕ) (commands : List Command) → IsScript text commands → AreCommands true commands
