-- What the lister answers: the text of a file, or why there is none (the order of faults is this project's own).
use Rattle.std.specs.Prelude.{◌≡◌, ℕ, true, false, List, Ok, Err}
use Rattle.omf_format.specs.declared.fault.FileCause.{FileCause}
use Rattle.omf_format.specs.declared.fault.FileCause.TheVariants as files
use Rattle.omf_format.specs.declared.fault.FileFault.{FileFault}
use Rattle.omf_format.specs.File.{Segment, IsFile, IsFirstFault}
use Rattle.list_meaning.specs.declared.faults.ListCause.{ListCause}
use Rattle.list_meaning.specs.declared.faults.ListCause.TheVariants.{Truncated, BadHeader, Unsupported, BadRecord, NotListable, TooLong, Memory}
use Rattle.list_meaning.specs.declared.faults.ListFault.{ListFault}
use Rattle.list_meaning.specs.Listed.{ListedStatement, listing_text}
use Rattle.list_meaning.specs.Listing.{listing_from, is_small}

-- the file's segments have a listing of at most 16,777,216 bytes and 65,536 lines, and this is its text
pub record IsListing (file text : List ℕ) : Type 0 where
  pub segments : List Segment
  pub is_file : IsFile segments file
  pub all : List ListedStatement
  pub lines : listing_from 1 segments ≡ Ok all
  pub small : is_small all ≡ true
  pub is : text ≡ listing_text all

-- a fault of the file has its own cause
abbrev pub cause_of : FileCause → ListCause
cause_of files.Truncated = Truncated
cause_of files.BadHeader = BadHeader
cause_of files.Unsupported = Unsupported
cause_of files.BadRecord = BadRecord
cause_of files.Memory = Memory

-- a segment can't be listed: the first in the file, and the first place in it
pub record IsNotListable (file : List ℕ) (number at : ℕ) : Type 0 where
  pub segments : List Segment
  pub is_file : IsFile segments file
  pub refused : listing_from 1 segments ≡ Err (number, at)

-- only the size fails
pub record IsTooLong (file : List ℕ) : Type 0 where
  pub segments : List Segment
  pub is_file : IsFile segments file
  pub all : List ListedStatement
  pub lines : listing_from 1 segments ≡ Ok all
  pub large : is_small all ≡ false

-- the file's first fault; else the first segment and the first place in it that can't be listed; else the size
pub data IsListFault (file : List ℕ) (fault : ListFault) : Type 0 where
  OutOfMemory : fault ≡ record { cause = Memory; segment = 0; at = 0 } → IsListFault file fault
  InFile : (found : FileFault) → IsFirstFault file found → fault ≡ record { cause = cause_of found.cause; segment = found.segment; at = found.at } → IsListFault file fault
  InSegment : (number at : ℕ) → IsNotListable file number at → fault ≡ record { cause = NotListable; segment = number; at = at } → IsListFault file fault
  InSize : IsTooLong file → fault ≡ record { cause = TooLong; segment = 0; at = 0 } → IsListFault file fault
