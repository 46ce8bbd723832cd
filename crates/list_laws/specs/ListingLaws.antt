-- The laws of listings: each line is read as it was meant, and the whole is assembled to segments that represent the same; a file has one
-- listing or one first fault.
use Rattle.std.specs.Prelude.{◌≡◌, ◌≢◌, ℕ, ◌+◌, ◌≤◌, List, [], ◌∷◌, ◌++◌, length, map, Ok}
use Rattle.omf_format.specs.File.{Segment, IsFile}
use Rattle.omf_format.specs.Number.{IsBytes}
use Rattle.orca_meaning.specs.Line.{line_of, numbered_lines}
use Rattle.asm_meaning.specs.declared.faults.AsmCause.TheVariants as causes
use Rattle.asm_meaning.specs.Object.{AreSteps}
use Rattle.source_meaning.specs.Object.{IsObject, IsFirstFault}
use Rattle.asm_meaning.specs.State.{State, start}
use Rattle.asm_meaning.specs.Statement.{IsStep}
use Rattle.list_laws.specs.Flat.{AreAllAlike}
use Rattle.list_laws.specs.Given.{IsLeft}
use Rattle.list_meaning.specs.declared.faults.ListCause.TheVariants.{Memory}
use Rattle.list_meaning.specs.declared.faults.ListFault.{ListFault}
use Rattle.list_meaning.specs.Answer.{IsListing, IsListFault}
use Rattle.list_meaning.specs.Listed.{ListedStatement, said_text, listing_text}
use Rattle.list_meaning.specs.Listing.{listing_from}

-- a line of a file's listing, read with what the lines before it left, has no fault and leaves what it was written for
abbrev pub LineIsRead : Type 0
LineIsRead = (file : List ℕ) (segments : List Segment) (before following : List ListedStatement) (said : ListedStatement) (state : State) → IsBytes file → IsFile segments file
    → listing_from 1 segments ≡ Ok (before ++ said ∷ following) → AreSteps start (numbered_lines 0 1 (map said_text before)) state
    → let line = line_of 0 (1 + length before) (said_text said) in (next : State) × IsStep state line (Ok next) × IsLeft line said state next

-- assembled without macros, a text gives an object whose segments represent the same as these, unless that object would be too long
pub data IsReadAgain (text : List ℕ) (segments : List Segment) : Type 0 where
  Whole : (object : List ℕ) → IsObject text [] object → (others : List Segment) → IsFile others object → AreAllAlike segments others → IsReadAgain text segments
  TooLong : IsFirstFault text [] (record { cause = causes.TooLong; file = 0; line = 0 }) → IsReadAgain text segments

-- a file's listing of at most 65,536 lines is read again so
abbrev pub ListingIsReadAgain : Type 0
ListingIsReadAgain = (file : List ℕ) (segments : List Segment) (all : List ListedStatement) → IsBytes file → IsFile segments file → listing_from 1 segments ≡ Ok all → length all ≤ 65536
    → IsReadAgain (listing_text all) segments

-- the object that is assembled from a file's listing without macros has that listing
abbrev pub ListingIsListedAgain : Type 0
ListingIsListedAgain = (file text object : List ℕ) → IsBytes file → IsListing file text → IsObject text [] object → IsListing object text

-- ---- one answer

-- a file has one listing at most
abbrev pub ListingIsOne : Type 0
ListingIsOne = (file one other : List ℕ) → IsListing file one → IsListing file other → one ≡ other

-- one that has a listing has no fault but Memory
abbrev pub NoFaultBeside : Type 0
NoFaultBeside = (file text : List ℕ) (fault : ListFault) → IsListing file text → IsListFault file fault → fault.cause ≡ Memory

-- a file has one first fault at most but Memory
abbrev pub FaultIsOne : Type 0
FaultIsOne = (file : List ℕ) (one other : ListFault) → IsListFault file one → IsListFault file other → one.cause ≢ Memory → other.cause ≢ Memory → one ≡ other
