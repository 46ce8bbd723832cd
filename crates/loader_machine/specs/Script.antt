-- Scripts: the lines of a text, the words of a line, and the command that the words give. Scripts are this project's own.
use Rattle.std.specs.Prelude.{◌≡◌, ℕ, ◌+◌, ◌/◌, ◌%◌, ◌<◌, ◌≤◌, Bool, true, false, not, ◌&&◌, ◌||◌, ◌==◌, nat_le, List, [], ◌∷◌, ◌++◌, length, map, filter, codes, bytes_eq, Option, Some, None, Result, Ok, Err, if◌then◌else◌}
use Rattle.std.specs.List.{AllByRecursion, list_all, list_any, slice_split}
use Rattle.std.specs.Str.Parse.{digits_value}
use Rattle.omf_format.specs.Ascii as ascii
use Rattle.omf_format.specs.Lines.{lines_of}
use Rattle.iigs_meaning.specs.declared.handles.Handle.{Handle}
use Rattle.loader_machine.specs.declared.script.CommandName.{CommandName}
use Rattle.loader_machine.specs.declared.script.CommandName.TheVariants as name
use Rattle.loader_machine.specs.declared.script.ScriptCause.{ScriptCause}
use Rattle.loader_machine.specs.declared.script.ScriptCause.TheVariants.{TooManyLines, BadWord, UnknownCommand, BanksFirst, WrongCount, BadNumber, BankTwice}
use Rattle.loader_machine.specs.declared.script.ScriptFault.{ScriptFault}
use Rattle.loader_machine.specs.Alloc.{is_attributes}
use Rattle.loader_machine.specs.Commands.{Command, Banks, Load, LoadSegment, UnloadSegment, Jsl, ShutDown, Restart, Purge, Poke, Bytes, Where, Info, Alloc, Free, Lock, Unlock, Level, StateOf, Room, Compact}

-- ---- lines

-- the most lines of a script
abbrev pub most_lines : ℕ
most_lines = 65536

-- an empty line, or one that begins with a semicolon
abbrev pub is_skipped : List ℕ → Bool
is_skipped [] = true
is_skipped (byte ∷ following) = byte == ascii.semicolon

-- ---- words

-- the words of a line: what lies between its spaces
unfoldable pub words_of : List ℕ → List (List ℕ)
words_of line = slice_split (λ byte. byte == ascii.space) line

-- a word is 1 to 255 bytes, each $21 to $7E
unfoldable pub is_word : List ℕ → Bool
is_word word = nat_le 1 (length word) && nat_le (length word) 255
    && list_all (λ byte. nat_le ascii.exclamation byte && nat_le byte ascii.tilde) word

-- ---- numbers

-- the number that a word of hexadecimal digits writes
unfoldable pub number_of : List ℕ → ℕ
number_of word = digits_value 16 word

-- the word is 1 to 8 digits 0 to 9 and A to F, and they write a number from the first bound to the second
unfoldable pub is_number : ℕ → ℕ → List ℕ → Bool
is_number least most word = nat_le 1 (length word) && nat_le (length word) 8
    && list_all (λ byte. (nat_le ascii.digit_0 byte && nat_le byte ascii.digit_9) || (nat_le ascii.capital_a byte && nat_le byte ascii.capital_f)) word
    && nat_le least (number_of word) && nat_le (number_of word) most

-- ---- commands

-- the command that a word names
unfoldable pub command_named : List ℕ → Option CommandName
command_named word =
    if bytes_eq word (codes "banks") then Some name.Banks
    else if bytes_eq word (codes "load") then Some name.Load
    else if bytes_eq word (codes "loadseg") then Some name.LoadSegment
    else if bytes_eq word (codes "unloadseg") then Some name.UnloadSegment
    else if bytes_eq word (codes "jsl") then Some name.Jsl
    else if bytes_eq word (codes "shutdown") then Some name.ShutDown
    else if bytes_eq word (codes "restart") then Some name.Restart
    else if bytes_eq word (codes "purge") then Some name.Purge
    else if bytes_eq word (codes "poke") then Some name.Poke
    else if bytes_eq word (codes "bytes") then Some name.Bytes
    else if bytes_eq word (codes "where") then Some name.Where
    else if bytes_eq word (codes "info") then Some name.Info
    else if bytes_eq word (codes "alloc") then Some name.Alloc
    else if bytes_eq word (codes "free") then Some name.Free
    else if bytes_eq word (codes "lock") then Some name.Lock
    else if bytes_eq word (codes "unlock") then Some name.Unlock
    else if bytes_eq word (codes "level") then Some name.Level
    else if bytes_eq word (codes "handle") then Some name.Handle
    else if bytes_eq word (codes "room") then Some name.Room
    else if bytes_eq word (codes "compact") then Some name.Compact
    else None

-- a number is in the list and again later in it
unfoldable pub stands_twice : List ℕ → Bool
stands_twice [] = false
stands_twice (n ∷ following) = list_any (λ other. n == other) following || stands_twice following

-- the one number of a command, up to a bound
unfoldable pub one_number : ℕ → List (List ℕ) → Result ℕ ScriptCause
one_number most (word ∷ []) = if is_number 0 most word then Ok (number_of word) else Err BadNumber
one_number most words = Err WrongCount

-- the two numbers of a command, up to a bound each
unfoldable pub two_numbers : ℕ → ℕ → List (List ℕ) → Result (ℕ × ℕ) ScriptCause
two_numbers most other (word ∷ second ∷ []) =
    if is_number 0 most word && is_number 0 other second then Ok (number_of word, number_of second) else Err BadNumber
two_numbers most other words = Err WrongCount

-- the command that numbers give
abbrev pub given_by : {A : Type 0} → (A → Command) → Result A ScriptCause → Result Command ScriptCause
given_by command (Ok numbers) = Ok (command numbers)
given_by command (Err cause) = Err cause

-- a handle as six digits write it: four of the slot and two of the generation
abbrev pub handle_of : ℕ → Handle
handle_of n = record { slot = n / 0x100; generation = n % 0x100 }

-- the command that the words after its name give, or the first cause against them: `banks` takes 1 to 256 numbers, none of them twice, and
-- each other command its own count of words
unfoldable pub words_command : CommandName → List (List ℕ) → Result Command ScriptCause
words_command name.Banks words =
    if not (nat_le 1 (length words) && nat_le (length words) 256) then Err WrongCount
    else if not (list_all (is_number 0 0xFF) words) then Err BadNumber
    else if stands_twice (map number_of words) then Err BankTwice
    else Ok (Banks (map number_of words))
words_command name.Load (path ∷ []) = Ok (Load path)
words_command name.LoadSegment words = given_by (λ n. LoadSegment n.0 n.1) (two_numbers 0xFFFF 0xFFFF words)
words_command name.UnloadSegment words = given_by (λ n. UnloadSegment n.0 n.1) (two_numbers 0xFFFF 0xFFFF words)
words_command name.Jsl (user ∷ segment ∷ at ∷ []) =
    if is_number 0 0xFFFF user && is_number 0 0xFFFF segment && is_number 0 0xFFFFFFFF at
    then Ok (Jsl (number_of user) (number_of segment) (number_of at)) else Err BadNumber
words_command name.ShutDown (user ∷ manner ∷ []) =
    if is_number 0 0xFFFF user && (bytes_eq manner (codes "keep") || bytes_eq manner (codes "drop"))
    then Ok (ShutDown (number_of user) (bytes_eq manner (codes "keep"))) else Err BadNumber
words_command name.Restart words = given_by Restart (one_number 0xFFFF words)
words_command name.Purge words = given_by Purge (one_number 0xFFFF words)
words_command name.Poke (user ∷ segment ∷ at ∷ byte ∷ []) =
    if is_number 0 0xFFFF user && is_number 0 0xFFFF segment && is_number 0 0xFFFFFFFF at && is_number 0 0xFF byte
    then Ok (Poke (number_of user) (number_of segment) (number_of at) (number_of byte)) else Err BadNumber
words_command name.Bytes (user ∷ segment ∷ at ∷ size ∷ []) =
    if is_number 0 0xFFFF user && is_number 0 0xFFFF segment && is_number 0 0xFFFFFFFF at && is_number 1 0x100 size
    then Ok (Bytes (number_of user) (number_of segment) (number_of at) (number_of size)) else Err BadNumber
words_command name.Where words = given_by Where (one_number 0xFFFFFF words)
words_command name.Info words = given_by (λ n. Info n.0 n.1) (two_numbers 0xFFFF 0xFFFF words)
words_command name.Alloc (size ∷ attributes ∷ address ∷ []) =
    if is_number 1 0x1000000 size && (is_number 0 0xFFFF attributes && is_attributes (number_of attributes)) && is_number 0 0xFFFFFF address
    then Ok (Alloc (number_of size) (number_of attributes) (number_of address)) else Err BadNumber
words_command name.Free words = given_by (λ n. Free (handle_of n)) (one_number 0xFFFFFF words)
words_command name.Lock words = given_by (λ n. Lock (handle_of n)) (one_number 0xFFFFFF words)
words_command name.Unlock words = given_by (λ n. Unlock (handle_of n)) (one_number 0xFFFFFF words)
words_command name.Level words = given_by (λ n. Level (handle_of n.0) n.1) (two_numbers 0xFFFFFF 3 words)
words_command name.Handle words = given_by (λ n. StateOf (handle_of n)) (one_number 0xFFFFFF words)
words_command name.Room [] = Ok Room
words_command name.Compact [] = Ok Compact
words_command _ _ = Err WrongCount

abbrev pub is_banks : CommandName → Bool
is_banks name.Banks = true
is_banks _ = false

-- a handle that six digits write
abbrev pub IsHandle : Handle → Type 0
IsHandle h = (h.slot ≤ 0xFFFF) × (h.generation ≤ 0xFF)

-- what the values of every command keep, as a script's first one or not
abbrev pub IsCommand : Bool → Command → Type 0
IsCommand is_first (Banks banks) = (is_first ≡ true) × (1 ≤ length banks) × (length banks ≤ 256)
    × AllByRecursion (λ bank. bank ≤ 0xFF) banks × (stands_twice banks ≡ false)
IsCommand is_first (Load path) = (is_first ≡ false) × (1 ≤ length path) × (length path ≤ 255) × (is_word path ≡ true)
IsCommand is_first (LoadSegment user segment) = (is_first ≡ false) × (user ≤ 0xFFFF) × (segment ≤ 0xFFFF)
IsCommand is_first (UnloadSegment user segment) = (is_first ≡ false) × (user ≤ 0xFFFF) × (segment ≤ 0xFFFF)
IsCommand is_first (Jsl user segment at) = (is_first ≡ false) × (user ≤ 0xFFFF) × (segment ≤ 0xFFFF) × (at ≤ 0xFFFFFFFF)
IsCommand is_first (ShutDown user keep) = (is_first ≡ false) × (user ≤ 0xFFFF)
IsCommand is_first (Restart user) = (is_first ≡ false) × (user ≤ 0xFFFF)
IsCommand is_first (Purge user) = (is_first ≡ false) × (user ≤ 0xFFFF)
IsCommand is_first (Poke user segment at byte) = (is_first ≡ false) × (user ≤ 0xFFFF) × (segment ≤ 0xFFFF)
    × (at ≤ 0xFFFFFFFF) × (byte ≤ 0xFF)
IsCommand is_first (Bytes user segment at size) = (is_first ≡ false) × (user ≤ 0xFFFF) × (segment ≤ 0xFFFF)
    × (at ≤ 0xFFFFFFFF) × (1 ≤ size) × (size ≤ 0x100)
IsCommand is_first (Where address) = (is_first ≡ false) × (address ≤ 0xFFFFFF)
IsCommand is_first (Info user segment) = (is_first ≡ false) × (user ≤ 0xFFFF) × (segment ≤ 0xFFFF)
IsCommand is_first (Alloc size attributes address) = (is_first ≡ false) × (1 ≤ size) × (size ≤ 0x1000000)
    × (attributes ≤ 0xFFFF) × (is_attributes attributes ≡ true) × (address ≤ 0xFFFFFF)
IsCommand is_first (Free h) = (is_first ≡ false) × IsHandle h
IsCommand is_first (Lock h) = (is_first ≡ false) × IsHandle h
IsCommand is_first (Unlock h) = (is_first ≡ false) × IsHandle h
IsCommand is_first (Level h level) = (is_first ≡ false) × IsHandle h × (level ≤ 3)
IsCommand is_first (StateOf h) = (is_first ≡ false) × IsHandle h
IsCommand is_first Room = is_first ≡ false
IsCommand is_first Compact = is_first ≡ false

-- what the values of a list of commands keep, the first of which is a script's first command or not
abbrev pub AreCommands : Bool → List Command → Type 0
AreCommands is_first [] = Unit {0}
AreCommands is_first (command ∷ commands) = IsCommand is_first command × AreCommands false commands

-- The command of a line that isn't skipped, or the first cause against it: it has at most 1,023 bytes, which are words with one space between
-- them, and the first word names a command; `banks` is the first command of a script, and no later one.
unfoldable pub line_command : Bool → List ℕ → Result Command ScriptCause
line_command is_first line =
    if nat_le (length line) 1023 && list_all is_word (words_of line) then (elim (words_of line) [
      | [] ↦ Err UnknownCommand
      | word ∷ words ↦ elim (command_named word) [
        | None ↦ Err UnknownCommand
        | Some name ↦ if (if is_banks name then is_first else not is_first) then words_command name words else Err BanksFirst
      ]
    ]) else Err BadWord

-- ---- scripts

-- these lines give these commands one by one, the first of them as a script's first command or not
abbrev pub Give : Bool → List (List ℕ) → List Command → Type 0
Give is_first [] [] = Unit {0}
Give is_first [] (command ∷ commands) = ⊥
Give is_first (line ∷ lines) [] = ⊥
Give is_first (line ∷ lines) (command ∷ commands) =
    (line_command is_first line ≡ Ok command) × Give false lines commands

-- no line is bad: there are at most 65,536, and those that aren't skipped give these commands
pub record AreGood (lines : List (List ℕ)) (commands : List Command) : Type 0 where
  pub few : length lines ≤ most_lines
  pub give : Give true (filter (λ line. not (is_skipped line)) lines) commands

-- the text is a script of these commands
abbrev pub IsScript : List ℕ → List Command → Type 0
IsScript text commands = AreGood (lines_of text) commands

-- The first cause against a line, after `before` others: it is one too many, or isn't skipped and gives no command.
pub data IsBad (before : ℕ) (is_first : Bool) (line : List ℕ) (cause : ScriptCause) : Type 0 where
  OneTooMany : before ≡ most_lines → cause ≡ TooManyLines → IsBad before is_first line cause
  NoCommand : before < most_lines → is_skipped line ≡ false → line_command is_first line ≡ Err cause → IsBad before is_first line cause

-- no command was given yet
abbrev pub is_start : List Command → Bool
is_start [] = true
is_start (command ∷ commands) = false

-- the line with this number, from 1, is bad for this cause, and no line before it is bad
pub record IsFirstBadLine (text : List ℕ) (number : ℕ) (cause : ScriptCause) : Type 0 where
  pub before : List (List ℕ)
  pub line : List ℕ
  pub following : List (List ℕ)
  pub lines : lines_of text ≡ before ++ line ∷ following
  pub number_is : number ≡ length before + 1
  pub commands : List Command
  pub good : AreGood before commands
  pub bad : IsBad (length before) (is_start commands) line cause

-- the first fault of a text that is no script
abbrev pub HasScriptFault : List ℕ → ScriptFault → Type 0
HasScriptFault text fault = IsFirstBadLine text fault.line fault.cause
