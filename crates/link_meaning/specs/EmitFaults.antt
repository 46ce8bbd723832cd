-- Why resolved files aren't linked: the first fault of the phases in which equates and records get their values and the load
-- file is written; and what the linker answers.
use Rattle.std.specs.Prelude.{◌≡◌, ◌<◌, ◌↔◌, ℕ, List, [], ◌∷◌, length, Some, None, Result, Ok, Err}
use Rattle.omf_format.specs.File.{Segment, IsFile}
use Rattle.load_meaning.specs.WrittenFile.{AreReadAs}
use Rattle.link_meaning.specs.declared.fault.LinkCause.TheVariants.{Circular, FileTooLong}
use Rattle.link_meaning.specs.declared.fault.LinkFault.{LinkFault}
use Rattle.link_meaning.specs.First.{IsFirst, HasNone}
use Rattle.link_meaning.specs.Member.{Member}
use Rattle.link_meaning.specs.Search.{FoundDefinition}
use Rattle.link_meaning.specs.Cycles.{equates, IsCircular}
use Rattle.link_meaning.specs.LinkValues.{EquateAnswer, IsTable}
use Rattle.link_meaning.specs.LinkedCells.{Item, items, state_after, made}
use Rattle.link_meaning.specs.LinkWritten.{AreMade, start, images, written_file, linked_cells, HaveCells}
use Rattle.link_meaning.specs.LinkFaults.{LinkInput, HasBytes, no_spot, spot_in, IsFirstResolveFault, IsResolved}
use Rattle.object_meaning.specs.Sizes.{most_bytes}

-- ---- cycles

-- the equate leads back to itself
pub record HasCycleFault (list : List Member) (before : List FoundDefinition) (e : FoundDefinition) (fault : LinkFault) : Type 0 where
  pub cycle : IsCircular list e
  pub reported : fault ≡ record { cause = Circular; name = Some e.definition.name; spot = spot_in e.member e.definition.at }

-- ---- values

-- the record, after those before it, gives no cells: its expression has no value, or the value doesn't fit
pub record HasValueFault (list : List Member) (table : List EquateAnswer) (before : List Item) (i : Item) (fault : LinkFault) : Type 0 where
  pub cause : made list table (state_after list table before) i ≡ Err fault.cause
  pub name : fault.name ≡ None
  pub spot : fault.spot ≡ spot_in i.member i.here.at

-- ---- the file

-- the load file would have more
pub record HasSizeFault (list : List Member) (table : List EquateAnswer) (fault : LinkFault) : Type 0 where
  pub long : most_bytes < length (written_file list table)
  pub reported : fault ≡ record { cause = FileTooLong; name = None; spot = no_spot }

-- ---- the phases

-- the phases after layout, in their order
pub data EmitPhase : Type 0 where
  Cycles : EmitPhase
  Values : EmitPhase
  Size : EmitPhase

-- what a phase finds in the linked list: the first equate, in list and record order, that leads back to itself; the first
-- record, in that order, that gives no cells; a file that is too long
abbrev pub HasEmitFault : List Member → List EmitPhase → EmitPhase → LinkFault → Type 0
HasEmitFault list before Cycles fault = IsFirst (HasCycleFault list) (equates list) fault
HasEmitFault list before Values fault = (table : List EquateAnswer) × IsTable list table × IsFirst (HasValueFault list table) (items list) fault
HasEmitFault list before Size fault = (table : List EquateAnswer) × IsTable list table × HasSizeFault list table fault

-- the first fault of these phases
abbrev pub IsFirstEmitFault : List Member → LinkFault → Type 0
IsFirstEmitFault list fault = IsFirst (HasEmitFault list) (Cycles ∷ Values ∷ Size ∷ []) fault

-- the equates of the list have these values, and none of these phases finds a fault
pub record IsEmitted (list : List Member) (table : List EquateAnswer) : Type 0 where
  pub valued : IsTable list table
  pub sound : HasNone (HasEmitFault list) (Cycles ∷ Values ∷ Size ∷ [])

-- ---- all phases

-- the first fault of all phases: of those in which the files are resolved, and where these find none, of those after them
pub data IsFirstLinkFault (given : LinkInput) (fault : LinkFault) : Type 0 where
  OfResolving : IsFirstResolveFault given fault → IsFirstLinkFault given fault
  OfEmitting : (list : List Member) → IsResolved given list → IsFirstEmitFault list fault → IsFirstLinkFault given fault

-- no phase finds a fault in the files, which have this linked list, whose equates have these values
pub record IsLinkable (given : LinkInput) (list : List Member) (table : List EquateAnswer) : Type 0 where
  pub resolved : IsResolved given list
  pub emitted : IsEmitted list table

-- the load file of the files
pub record IsLinkedTo (given : LinkInput) (output : List ℕ) : Type 0 where
  pub list : List Member
  pub table : List EquateAnswer
  pub linkable : IsLinkable given list table
  pub is_written : output ≡ written_file list table

-- ---- what the linker answers

-- of a linked list: the load file, or the first fault
abbrev pub IsEmitAnswer : List Member → Result (List ℕ) LinkFault → Type 0
IsEmitAnswer list (Ok output) = (table : List EquateAnswer) × IsEmitted list table × (output ≡ written_file list table)
IsEmitAnswer list (Err fault) = IsFirstEmitFault list fault

-- of files
abbrev pub IsLinkAnswer : LinkInput → Result (List ℕ) LinkFault → Type 0
IsLinkAnswer given (Ok output) = IsLinkedTo given output
IsLinkAnswer given (Err fault) = IsFirstLinkFault given fault

-- ---- laws

-- Files have one answer at most: one load file, or one first fault, and not both.
abbrev pub OneLinkAnswer : Type 0
OneLinkAnswer = (given : LinkInput) (a b : Result (List ℕ) LinkFault) → IsLinkAnswer given a → IsLinkAnswer given b → a ≡ b

-- A linked list has one answer at most too, for the phases after layout.
abbrev pub OneEmitAnswer : Type 0
OneEmitAnswer = (list : List Member) (a b : Result (List ℕ) LinkFault) → IsEmitAnswer list a → IsEmitAnswer list b → a ≡ b

-- What the linker answers of resolved files is what it answers of their linked list.
abbrev pub LinkAnswersAsEmit : Type 0
LinkAnswersAsEmit = (given : LinkInput) (list : List Member) (a : Result (List ℕ) LinkFault) → IsResolved given list → IsEmitAnswer list a → IsLinkAnswer given a

-- No record has a fault exactly where each gives its cells.
abbrev pub MadeWhereSound : Type 0
MadeWhereSound = (list : List Member) (table : List EquateAnswer) → HasNone (HasValueFault list table) (items list) ↔ AreMade list table start (items list)

-- The load file of files without a fault is a file of the load segments, the table and the pathname segment, where there are these two, and
-- each of them represents its linked cells.
abbrev pub LinkableStandsFor : Type 0
LinkableStandsFor = (given : LinkInput) (list : List Member) (table : List EquateAnswer) → HasBytes given → IsLinkable given list table
    → (segments : List Segment) × IsFile segments (written_file list table) × AreReadAs (images list table) segments
    × HaveCells (linked_cells list table) segments
