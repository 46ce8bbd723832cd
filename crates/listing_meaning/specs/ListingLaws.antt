-- What a listing shows: each visited line and no other, the records of the object, and the first fault.
use Rattle.std.proofs.Common.{◌≡◌, ℕ, List, [], ◌++◌, None, Ok, flat_map, ◌+◌, length}
use Rattle.omf_format.specs.Record.{Record}
use Rattle.orca_meaning.specs.Line.{Line}
use Rattle.macro_meaning.specs.Expansion.{HasVisits}
use Rattle.macro_meaning.specs.Visit.{MacroProgram, Move, On, Ends, Stops, first_visit}
use Rattle.asm_meaning.specs.declared.faults.AsmFault.{AsmFault}
use Rattle.asm_meaning.specs.Pieces.{place_after}
use Rattle.asm_meaning.specs.State.{State}
use Rattle.asm_meaning.specs.Statement.{IsStep}
use Rattle.source_meaning.specs.Object.{HasLines, IsObject, IsFirstFault}
use Rattle.listing_meaning.specs.Given.{records_in, records_of_ended, given_records, cells_from}
use Rattle.listing_meaning.specs.Listing.{IsListing, IsListingUpTo}
use Rattle.listing_meaning.specs.Rows.{Row, IsListed}
use Rattle.listing_meaning.specs.Seen.{SeenLine, Show}

-- visits end, or stop at a line with a fault
abbrev pub IsEnd : Move → Type 0
IsEnd (On v) = ⊥
IsEnd Ends = Unit {0}
IsEnd (Stops line cause) = Unit {0}

-- the lines that visited lines give, one after another
abbrev pub given_by_all : List SeenLine → List Line
given_by_all seen = flat_map (λ s. s.given) seen

-- visits that give lines and end are shown with these lines
abbrev pub AllAreShown : Type 0
AllAreShown = (program : MacroProgram) (lines : List Line) (end : Move) → HasVisits program lines end → IsEnd end
    → (seen : List SeenLine) × Show program [] first_visit seen end × (given_by_all seen ≡ lines)

-- what is shown was visited, and gives these lines
abbrev pub NoneElseIsShown : Type 0
NoneElseIsShown = (program : MacroProgram) (seen : List SeenLine) (end : Move) → Show program [] first_visit seen end → HasVisits program (given_by_all seen) end

-- a line leaves the records that were there, and behind them those that it gives
abbrev pub StepsAddRecords : Type 0
StepsAddRecords = (state next : State) (line : Line) → IsStep state line (Ok next) → records_in next ≡ records_in state ++ given_records state next

-- the cells of records behind others are behind theirs, from the place where those end
abbrev pub CellsFollow : Type 0
CellsFollow = (at : ℕ) (before more : List Record) → cells_from at (before ++ more) ≡ cells_from at before ++ cells_from (place_after at before) more

-- records move the place by as many cells as they give, so the offset of a row is the number of the cells before it in its segment
abbrev pub PlacesCountCells : Type 0
PlacesCountCells = (at : ℕ) (contents : List Record) → place_after at contents ≡ at + length (cells_from at contents)

-- a source that is assembled has a listing
abbrev pub EachObjectIsListed : Type 0
EachObjectIsListed = (source : List ℕ) (macros : List (List ℕ)) (object : List ℕ) → IsObject source macros object → (text : List ℕ) × IsListing source macros text

-- where all segments have ended, the records of the rows are those of the segments that the lines leave
abbrev pub RowsGiveObject : Type 0
RowsGiveObject = (source : List ℕ) (macros : List (List ℕ)) (rows : List Row) (last : State) → IsListed source macros rows last → last.segment ≡ None
    → HasLines source macros last × (flat_map (λ row. row.records) rows ≡ records_of_ended last.ended)

-- rows that end with a fault end with the first one
abbrev pub FaultIsFirst : Type 0
FaultIsFirst = (source : List ℕ) (macros : List (List ℕ)) (fault : AsmFault) (text : List ℕ) → IsListingUpTo source macros fault text → IsFirstFault source macros fault
