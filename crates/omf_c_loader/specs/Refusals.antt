-- Why calls are refused, as C sees it, and what a call answers.
use Rattle.std.specs.Prelude.{◌≡◌, ℕ, Bool, true, false}
use Rattle.load_meaning.specs.declared.load.LoadCause.{LoadCause}
use Rattle.load_meaning.specs.declared.load.LoadCause.TheVariants as load
use Rattle.loader_machine.specs.declared.seen.Facts.{Facts}
use Rattle.loader_machine.specs.declared.faults.LoaderFault.{LoaderFault}
use Rattle.loader_machine.specs.declared.faults.LoaderFault.TheVariants as why
use Rattle.omf_c_loader.specs.declared.refusal.OmfFacts.{OmfFacts}
use Rattle.omf_c_loader.specs.declared.refusal.OmfRefusal.{OmfRefusal}

-- the statuses
abbrev pub status_done : ℕ
status_done = 0

abbrev pub status_refused : ℕ
status_refused = 1

abbrev pub status_memory : ℕ
status_memory = 2

abbrev pub status_misused : ℕ
status_misused = 3

-- the number of the cause of a bad file, as of the other calls; out of memory has none
abbrev pub load_cause_number : LoadCause → ℕ
load_cause_number load.Truncated = 1
load_cause_number load.BadHeader = 2
load_cause_number load.Unsupported = 3
load_cause_number load.BadRecord = 4
load_cause_number load.NotLoadFile = 5
load_cause_number load.Sequence = 6
load_cause_number load.DataTooLong = 7
load_cause_number load.PatchOutside = 8
load_cause_number load.NoSuchTarget = 9
load_cause_number load.DynamicTarget = 10
load_cause_number load.BadTable = 11
load_cause_number load.Memory = 0

-- what is reported of a segment where a file has changed, as C sees it
abbrev pub facts_view : Facts → OmfFacts
facts_view f = record { count = f.count; segment = f.segment; length = f.length; kind = f.kind; bank_size = f.bank_size; align = f.align; org = f.org; entry = f.entry }

abbrev pub no_facts : OmfFacts
no_facts = record { count = 0; segment = 0; length = 0; kind = 0; bank_size = 0; align = 0; org = 0; entry = 0 }

-- a refusal of a cause that carries nothing
abbrev pub plain_refusal : ℕ → OmfRefusal
plain_refusal cause = record { cause = cause; file_cause = 0; segment = 0; at = 0; kept = no_facts; found = no_facts }

-- each refusal with the number of its cause and what it carries; out of memory has no number
abbrev pub refusal_of : LoaderFault → OmfRefusal
refusal_of why.NoUser = plain_refusal 1
refusal_of why.NotRunning = plain_refusal 2
refusal_of why.Running = plain_refusal 3
refusal_of why.NoSegment = plain_refusal 4
refusal_of why.Static = plain_refusal 5
refusal_of why.NotActive = plain_refusal 6
refusal_of why.OutOfSegment = plain_refusal 7
refusal_of why.TableByte = plain_refusal 8
refusal_of why.NotJsl = plain_refusal 9
refusal_of why.NoTarget = plain_refusal 10
refusal_of why.NotEntry = plain_refusal 11
refusal_of why.TooManyUsers = plain_refusal 12
refusal_of why.CannotRead = plain_refusal 13
refusal_of (why.BadFile bad) = record (plain_refusal 14) { file_cause = load_cause_number bad.cause; segment = bad.segment; at = bad.at }
refusal_of (why.Changed kept found) = record (plain_refusal 15) { kept = facts_view kept; found = facts_view found }
refusal_of why.NoHandle = plain_refusal 16
refusal_of (why.NoRoom segment) = record (plain_refusal 17) { segment = segment }
refusal_of why.Stale = plain_refusal 18
refusal_of why.LoaderOwned = plain_refusal 19
refusal_of why.Empty = plain_refusal 20
refusal_of why.Memory = plain_refusal 0

-- whether memory is missing
abbrev pub lacks_memory : LoaderFault → Bool
lacks_memory why.Memory = true
lacks_memory why.NoUser = false
lacks_memory why.NotRunning = false
lacks_memory why.Running = false
lacks_memory why.NoSegment = false
lacks_memory why.Static = false
lacks_memory why.NotActive = false
lacks_memory why.OutOfSegment = false
lacks_memory why.TableByte = false
lacks_memory why.NotJsl = false
lacks_memory why.NoTarget = false
lacks_memory why.NotEntry = false
lacks_memory why.TooManyUsers = false
lacks_memory why.CannotRead = false
lacks_memory (why.BadFile bad) = false
lacks_memory (why.Changed kept found) = false
lacks_memory why.NoHandle = false
lacks_memory (why.NoRoom segment) = false
lacks_memory why.Stale = false
lacks_memory why.LoaderOwned = false
lacks_memory why.Empty = false

-- a call that did nothing: memory is missing, and nothing is written; or the refusal is reported
pub data IsFaultReported (fault : LoaderFault) (status : ℕ) (old new : OmfRefusal) : Type 0 where
  Lacks : lacks_memory fault ≡ true → status ≡ status_memory → new ≡ old → IsFaultReported fault status old new
  Refuses : lacks_memory fault ≡ false → status ≡ status_refused → new ≡ refusal_of fault → IsFaultReported fault status old new
