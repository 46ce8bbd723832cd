-- The result of loading a file that the linker wrote.
use Rattle.std.specs.Prelude.{◌≡◌, ℕ, List, Some, Result, Ok, Err}
use Rattle.std.specs.List.{AllByRecursion}
use Rattle.std.specs.FinMap.{get}
use Rattle.omf_io.specs.Files.{FileMap}
use Rattle.link_meaning.specs.LinkFaults.{LinkInput, HasBytes}
use Rattle.link_meaning.specs.EmitFaults.{IsLinkedTo}
use Rattle.link_meaning.specs.LinkLoadable.{NamesNoSkipped}
use Rattle.loader_machine.specs.Rule.{RoomRule}
use Rattle.loader_machine.specs.declared.faults.LoaderFault.{LoaderFault}
use Rattle.loader_machine.specs.declared.faults.LoaderFault.TheVariants.{TooManyUsers, CannotRead, NoHandle, NoRoom, Memory}
use Rattle.loader_machine.specs.State.{Machine}
use Rattle.loader_machine.specs.Commands.{Load}
use Rattle.loader_agrees.specs.Agrees.{Loaded, Meets}
use Rattle.sys_loader.specs.declared.answers.Started.{Started}
use Rattle.sys_loader.specs.Replies.{load_reply}

-- the reason lies outside the file: 255 users, a read that failed, no handle, no room, or no memory
abbrev pub LiesOutside : LoaderFault → Type 0
LiesOutside TooManyUsers = Unit {0}
LiesOutside CannotRead = Unit {0}
LiesOutside NoHandle = Unit {0}
LiesOutside (NoRoom number) = Unit {0}
LiesOutside Memory = Unit {0}
LiesOutside _ = ⊥

-- a program began, or none did for a reason outside the file
abbrev pub BeginsOrLacks : Result Started LoaderFault → Type 0
BeginsOrLacks (Ok started) = Unit {0}
BeginsOrLacks (Err why) = LiesOutside why

-- the path of each run-time library file that was given, which is the path of its row, holds that very file
abbrev pub HoldsLibraries : FileMap → LinkInput → Type 0
HoldsLibraries held given = AllByRecursion (λ file. get held file.0 ≡ Some file.1) given.runtimes

-- Where a path holds a file that the linker wrote, no part of it and no entry of its jump table for the file itself names a skipped
-- segment, and the paths of its rows hold the run-time library files with which it was linked, a load of that path is answered by its
-- program, or refused for a reason outside the file.
abbrev pub LinkedFilesBegin : Type 0
LinkedFilesBegin = (given : LinkInput) (output : List ℕ) → HasBytes given → (is : IsLinkedTo given output) → NamesNoSkipped is.list is.table
    → (held : FileMap) (path : List ℕ) → get held path ≡ Some output → HoldsLibraries held given
    → (state : Machine) (result : Result Started LoaderFault) (new : Loaded) (before now : ℕ) → Meets RoomRule held state (Load path) (load_reply result) new before now → BeginsOrLacks result
