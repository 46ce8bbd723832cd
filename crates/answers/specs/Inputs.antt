-- Every input of a command has an answer: what is made of it, or why nothing is, which isn't Memory.
use Rattle.std.specs.Prelude.{◌≢◌, ◌⊎◌, ℕ, List}
use Rattle.std.specs.List.{AllByRecursion}
use Rattle.omf_format.specs.declared.fault.FileCause.TheVariants as files
use Rattle.omf_format.specs.declared.fault.FileFault.{FileFault}
use Rattle.omf_format.specs.Number.{IsBytes}
use Rattle.omf_format.specs.File.{IsFirstFault}
use Rattle.dump_lines.specs.Listing.{IsListing}
use Rattle.lib_dict.specs.declared.fault.LibCause.TheVariants as lib
use Rattle.lib_dict.specs.declared.fault.LibFault.{LibFault}
use Rattle.lib_dict.specs.Library.{LibraryInput, LibraryRow, IsLibraryOf, HasRows, IsNoLibrary, IsFalseAt}
use Rattle.lib_dict.specs.Made.{IsLibRefused}
use Rattle.link_meaning.specs.declared.fault.LinkCause.TheVariants as link
use Rattle.link_meaning.specs.declared.fault.LinkFault.{LinkFault}
use Rattle.link_meaning.specs.LinkFaults.{LinkInput, HasBytes}
use Rattle.link_meaning.specs.EmitFaults.{IsFirstLinkFault, IsLinkedTo}
use Rattle.omf_compact.specs.declared.fault.CompactCause.TheVariants as compact
use Rattle.omf_compact.specs.declared.fault.CompactFault.{CompactFault}
use Rattle.omf_compact.specs.Answer.{IsAnswer, IsRefused}
use Rattle.list_meaning.specs.declared.faults.ListCause.TheVariants as list
use Rattle.list_meaning.specs.declared.faults.ListFault.{ListFault}
use Rattle.list_meaning.specs.Answer.{IsListing as IsSource, IsListFault}
use Rattle.loader_machine.specs.declared.script.ScriptCause.TheVariants as script
use Rattle.loader_machine.specs.declared.script.ScriptFault.{ScriptFault}
use Rattle.loader_machine.specs.Commands.{Command}
use Rattle.loader_machine.specs.Script.{IsScript, HasScriptFault}

-- `dump`: a file has a listing, or a first fault
abbrev pub DumpsAreAnswered : Type 0
DumpsAreAnswered = (file : List ℕ) → IsBytes file
    → ((text : List ℕ) × IsListing file text) ⊎ ((fault : FileFault) × IsFirstFault file fault × (fault.cause ≢ files.Memory))

-- what a file is as a library: one with these rows, one whose dictionary is false, no library, or no file
abbrev pub DictionaryAnswer : List ℕ → Type 0
DictionaryAnswer file = ((rows : List LibraryRow) × HasRows file rows) ⊎ (((at : ℕ) × IsFalseAt file at)
    ⊎ (IsNoLibrary file ⊎ ((fault : FileFault) × IsFirstFault file fault × (fault.cause ≢ files.Memory))))

-- `lib`: each file has an answer as a library
abbrev pub DictionariesAreAnswered : Type 0
DictionariesAreAnswered = (file : List ℕ) → IsBytes file → DictionaryAnswer file

-- `lib`: files have a library, or a first fault
abbrev pub LibrariesAreAnswered : Type 0
LibrariesAreAnswered = (given : List LibraryInput) → AllByRecursion (λ file. IsBytes file.bytes) given
    → ((bytes : List ℕ) × IsLibraryOf given bytes) ⊎ ((fault : LibFault) × IsLibRefused fault given × (fault.cause ≢ lib.Memory))

-- `compact`: a file has a canonical form, or a reason why it has none
abbrev pub LoadFilesAreCompacted : Type 0
LoadFilesAreCompacted = (file : List ℕ) → IsBytes file
    → ((out : List ℕ) × IsAnswer file out) ⊎ ((fault : CompactFault) × IsRefused fault file × (fault.cause ≢ compact.Memory))

-- `list`: a file has a source, or a reason why it has none
abbrev pub SourcesAreListed : Type 0
SourcesAreListed = (file : List ℕ) → IsBytes file
    → ((text : List ℕ) × IsSource file text) ⊎ ((fault : ListFault) × IsListFault file fault × (fault.cause ≢ list.Memory))

-- `link`, `rtl` and `linkrt`: files have a load file, or a first fault
abbrev pub LinksAreAnswered : Type 0
LinksAreAnswered = (given : LinkInput) → HasBytes given
    → ((output : List ℕ) × IsLinkedTo given output) ⊎ ((fault : LinkFault) × IsFirstLinkFault given fault × (fault.cause ≢ link.Memory))

-- `run`: a text is a script of commands, or has a first bad line
abbrev pub ScriptsAreAnswered : Type 0
ScriptsAreAnswered = (text : List ℕ)
    → ((commands : List Command) × IsScript text commands) ⊎ ((fault : ScriptFault) × HasScriptFault text fault × (fault.cause ≢ script.Memory))
