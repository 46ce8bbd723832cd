-- What it takes to follow a JSL, whatever files there are.
use Rattle.std.specs.Prelude.{◌≡◌, ◌≢◌, ◌⊎◌, ℕ, ◌+◌, ◌%◌, ◌^◌, ◌<◌, true, false, List, Option, Some, None, Result, Ok, Err}
use Rattle.omf_io.specs.Counts.{one_more}
use Rattle.omf_io.specs.Files.{FileMap}
use Rattle.load_meaning.specs.declared.table.Target.{Target}
use Rattle.load_meaning.specs.Table.{entry_place}
use Rattle.load_meaning.specs.LoadTable.{entry_count, target_at}
use Rattle.iigs_meaning.specs.Memory.{bytes_at}
use Rattle.loader_machine.specs.declared.faults.LoaderFault.{LoaderFault}
use Rattle.loader_machine.specs.declared.faults.LoaderFault.TheVariants as fault
use Rattle.loader_machine.specs.Heads.{is_table}
use Rattle.loader_machine.specs.Refusals.{bytes_refusal, load_segment_refusal}
use Rattle.loader_machine.specs.Steps.{no_jsl, address_of}
use Rattle.loader_machine.specs.Commands.{Reply, Refused}
use Rattle.loader_machine.specs.Commands as commands
use Rattle.loader_machine.specs.State.{named_by}
use Rattle.loader_agrees.specs.Agrees.{Loaded, kept_outlines, seen_by}
use Rattle.loader_agrees.specs.Acts.{HasBorrowed, LiesIn}
use Rattle.sys_loader.specs.declared.answers.Entered.{Entered}
use Rattle.sys_loader.specs.declared.jsl.Reached.{Reached}
use Rattle.sys_loader.specs.declared.jsl.Reached.TheVariants as reached
use Rattle.sys_loader.specs.Activating.{segment_reads, DidActivate}

-- the reply of a call that follows a JSL
abbrev pub jsl_reply : Result Entered LoaderFault → Reply
jsl_reply (Ok place) = commands.Entered place.user place.segment place.offset place.address
jsl_reply (Err why) = Refused why

-- a JSL to an address is at an offset of an active segment
pub record HasJsl (loader : Loaded) (id number at address : ℕ) : Type 0 where
  pub bytes : List ℕ
  pub borrowed : HasBorrowed loader id number at 4 bytes
  pub jsl : no_jsl bytes ≡ None
  pub address_is : address ≡ address_of bytes

-- the address lies in an active segment of a user that runs
pub record LeadsTo (loader : Loaded) (id number at : ℕ) (place : Entered) : Type 0 where
  pub call : HasJsl loader id number at place.address
  pub lies : LiesIn loader place.address place.user place.segment place.offset

-- the place is the code of an entry of a jump table, and the entry holds this target
pub record IsEntry (loader : Loaded) (place : Entered) (t : Target) : Type 0 where
  pub lies : LiesIn loader place.address place.user place.segment place.offset
  pub table : is_table lies.is.head ≡ true
  pub k : ℕ
  pub inside : k < entry_count lies.is.head.length
  pub code : entry_place k ≡ place.offset
  pub target_is : t ≡ target_at (bytes_at loader.memory lies.h.slot) k

-- Why a JSL leads to no place and to no entry: the four bytes can't be read; they are no JSL; the address lies in no active segment;
-- or it lies in a table, and is no entry's code.
pub data IsJslRefusal (loader : Loaded) (id number at : ℕ) (why : LoaderFault) : Type 0 where
  NoBytes : bytes_refusal loader.memory.slots (seen_by loader id) number at 4 ≡ Some why → IsJslRefusal loader id number at why
  NoJsl : (bytes : List ℕ) → HasBorrowed loader id number at 4 bytes → no_jsl bytes ≡ Some why → IsJslRefusal loader id number at why
  NoPlace : (address : ℕ) → HasJsl loader id number at address → ((user segment offset : ℕ) → ¬ LiesIn loader address user segment offset)
      → why ≡ fault.NoTarget → IsJslRefusal loader id number at why
  NoEntry : (place : Entered) → (leads : LeadsTo loader id number at place) → is_table leads.lies.is.head ≡ true
      → ((k : ℕ) → k < entry_count leads.lies.is.head.length → entry_place k ≢ place.offset) → why ≡ fault.NotEntry → IsJslRefusal loader id number at why

-- the JSL leads to a place that is in no table
pub record EntersPlace (loader : Loaded) (id number at : ℕ) (place : Entered) : Type 0 where
  pub leads : LeadsTo loader id number at place
  pub plain : is_table leads.lies.is.head ≡ false

-- the JSL leads to an entry of a user's table, and the entry to an offset in a segment of this user, which can be made active
pub record CallsEntry (loader : Loaded) (id number at other segment offset : ℕ) : Type 0 where
  pub place : Entered
  pub leads : LeadsTo loader id number at place
  pub target : Target
  pub entry : IsEntry loader place target
  pub named : named_by (kept_outlines loader.users) place.user target.file ≡ Some other
  pub segment' : target.segment ≡ segment
  pub offset' : target.offset ≡ offset
  pub passes : load_segment_refusal (seen_by loader other) segment ≡ None

-- what a call answers where a user's segment was made active at an address, or wasn't
abbrev pub entered_at : ℕ → ℕ → ℕ → Result ℕ LoaderFault → Result Entered LoaderFault
entered_at user segment offset (Ok address) = Ok (record { user = user; segment = segment; offset = offset; address = (address + offset) % 2 ^ 24 })
entered_at user segment offset (Err why) = Err why

-- a file is read: the JSL leads to an entry for a segment that isn't there
pub record JslReads (loader : Loaded) (id number at : ℕ) : Type 0 where
  pub other : ℕ
  pub segment : ℕ
  pub offset : ℕ
  pub calls : CallsEntry loader id number at other segment offset
  pub reads : segment_reads loader other segment ≡ true

-- none is: the call is refused before; the JSL leads to a place; or to an entry for a segment that is there
pub data JslReadsNone (loader : Loaded) (id number at : ℕ) : Type 0 where
  IsRefused : (why : LoaderFault) → IsJslRefusal loader id number at why → JslReadsNone loader id number at
  IsPlace : (place : Entered) → EntersPlace loader id number at place → JslReadsNone loader id number at
  IsThere : (other segment offset : ℕ) → CallsEntry loader id number at other segment offset → segment_reads loader other segment ≡ false
      → JslReadsNone loader id number at

-- a count of reads is one more where a file is read, and else as before
abbrev pub HasAsked : Loaded → ℕ → ℕ → ℕ → ℕ → ℕ → Type 0
HasAsked loader id number at before now = (JslReads loader id number at × (now ≡ one_more before)) ⊎ (JslReadsNone loader id number at × (now ≡ before))

-- What a call that follows a JSL did: it is refused and all stays; it enters a place, and all stays; or the segment of an entry, which can
-- be made active, is, and is entered.
pub data DidJsl (held : Option FileMap) (old : Loaded) (id number at : ℕ) (result : Result Entered LoaderFault) (new : Loaded) (before now : ℕ) : Type 0 where
  Stops : (why : LoaderFault) → IsJslRefusal old id number at why → result ≡ Err why → new ≡ old → now ≡ before → DidJsl held old id number at result new before now
  Leads : (place : Entered) → EntersPlace old id number at place → result ≡ Ok place → new ≡ old → now ≡ before → DidJsl held old id number at result new before now
  Calls : (other segment offset : ℕ) → CallsEntry old id number at other segment offset → (made : Result ℕ LoaderFault)
      → DidActivate held old other segment made new before now → result ≡ entered_at other segment offset made → DidJsl held old id number at result new before now

-- ---- on the way; no public clause cites the rest

-- where a JSL leads
abbrev pub HasReached : Loaded → ℕ → ℕ → ℕ → Reached → Type 0
HasReached loader id number at (reached.Place place) = EntersPlace loader id number at place
HasReached loader id number at (reached.Entry other segment offset) = CallsEntry loader id number at other segment offset
