-- The lines of a segment's records and of a file's segments, and why there are none.
use Rattle.std.specs.Prelude.{◌≡◌, ◌⊎◌, ℕ, ◌+◌, [], ◌++◌, List, take, Some, Ok, Err}
use Rattle.std.specs.List.{flat_map}
use Rattle.omf_format.specs.Field.{◌>>=◌}
use Rattle.omf_format.specs.File.{Segment}
use Rattle.omf_format.specs.Header.{HeaderFields}
use Rattle.omf_format.specs.Reading.{Reader, HandsOut}
use Rattle.omf_format.specs.Record.{Record}
use Rattle.list_meaning.specs.declared.faults.ListCause.TheVariants.{NotListable, Memory}
use Rattle.list_meaning.specs.declared.faults.ListFault.{ListFault}
use Rattle.list_meaning.specs.Listed.{ListedStatement}
use Rattle.list_meaning.specs.Listing.{PendingRun, equate_name, said_from, listing_of, listing_from}
use Rattle.list_lines.specs.declared.names.Names.{Names}
use Rattle.list_lines.specs.declared.output.ListingText.{ListingText}
use Rattle.w65_list.specs.declared.records.PendingRun as kept_before
use Rattle.w65_list.specs.declared.source.Refusal.{Refusal}
use Rattle.w65_list.specs.declared.source.Refusal.TheVariants as refusals
use Rattle.list_lines.specs.declared.stop.LineStop.{LineStop}
use Rattle.list_lines.specs.declared.stop.LineStop.TheVariants as stops
use Rattle.w65_list.specs.BeforeView.{IsBefore}
use Rattle.list_lines.specs.Kept.{with_lines}
use Rattle.list_lines.specs.LineView.{WroteAll}
use Rattle.list_lines.specs.NamesView.{AreNames}
use Rattle.list_lines.specs.OutputView.{finished_lines, open_line}

-- the lines of these records were written
pub record WroteRecords (f : HeaderFields) (equates : List (List ℕ)) (b : PendingRun) (founds : List (ℕ × Record)) (old new : ListingText) : Type 0 where
  pub lines : List ListedStatement
  pub are : said_from f equates b founds ≡ Ok lines
  pub wrote : WroteAll lines old new

-- the lines of the segment were written
pub record WroteSegment (s : Segment) (old new : ListingText) : Type 0 where
  pub lines : List ListedStatement
  pub are : listing_of s ≡ Ok lines
  pub wrote : WroteAll lines old new

-- the lines of these segments were written, from nothing on
pub record WroteFile (segments : List Segment) (out : ListingText) : Type 0 where
  pub lines : List ListedStatement
  pub are : listing_from 1 segments ≡ Ok lines
  pub wrote : finished_lines out ≡ with_lines lines (Some ([], 0))

-- the names of the equates among records
abbrev pub equates_in : List (ℕ × Record) → List (List ℕ)
equates_in founds = flat_map (λ found. equate_name found.1) founds

-- the refusal for a stop at this place
abbrev pub IsStop : ℕ → LineStop → Refusal → Type 0
IsStop place stops.NotListable refusal = refusal ≡ refusals.NotListable place
IsStop place stops.Memory refusal = refusal ≡ refusals.Memory

-- the place of a refusal is this one, unless out of memory
abbrev pub IsRefusal : Refusal → (ℕ → Type 0) → Type 0
IsRefusal (refusals.NotListable at) P = P at
IsRefusal refusals.Memory P = Unit {0}

-- out of memory, or this is the first place that can't be listed
abbrev pub IsSegmentFault : List Segment → ListFault → Type 0
IsSegmentFault segments fault =
    (fault ≡ record { cause = Memory; segment = 0; at = 0 })
    ⊎ ((number : ℕ) × (at : ℕ) × (listing_from 1 segments ≡ Err (number, at)) × (fault ≡ record { cause = NotListable; segment = number; at = at }))

-- a refusal as a fault of the segment with this number
abbrev pub IsReported : Refusal → ℕ → ListFault → Type 0
IsReported (refusals.NotListable at) number fault = fault ≡ record { cause = NotListable; segment = number; at = at }
IsReported refusals.Memory number fault = fault ≡ record { cause = Memory; segment = 0; at = 0 }

-- ---- loops

-- the names of the equates so far
pub record EquatesOn (start at : Reader) (names : Names) : Type 0 where
  pub before : List (ℕ × Record)
  pub run : HandsOut start before at
  pub are : AreNames names (equates_in before)

-- the lines of the records so far were written, and what is left gives the lines that are left
pub record LinesOn (f : HeaderFields) (equates : List (List ℕ)) (b : PendingRun) (so_far : List (ℕ × Record)) (old now : ListingText) (before : kept_before.PendingRun) : Type 0 where
  pub lines : List ListedStatement
  pub left : PendingRun
  pub is : IsBefore before left
  pub wrote : WroteAll lines old now
  pub on : (rest : List (ℕ × Record)) → said_from f equates b (so_far ++ rest) ≡ (said_from f equates left rest >>= λ more. Ok (lines ++ more))

-- the lines of the records so far are written, and a run of constant bytes may be pending
pub record RecordsOn (f : HeaderFields) (names : Names) (start at : Reader) (first before : kept_before.PendingRun) (old now : ListingText) : Type 0 where
  pub line : open_line now ≡ []
  pub so_far : List (ℕ × Record)
  pub run : HandsOut start so_far at
  pub each : (b : PendingRun) (all : List (List ℕ)) → IsBefore first b → AreNames names all → LinesOn f all b so_far old now before

-- the lines of the segments before this place were written, and the segments that are left give the lines that are left
pub record SegmentsOn (segments : List Segment) (place : ℕ) (out : ListingText) : Type 0 where
  pub line : open_line out ≡ []
  pub lines : List ListedStatement
  pub wrote : finished_lines out ≡ with_lines lines (Some ([], 0))
  pub on : (rest : List Segment) → listing_from 1 (take place segments ++ rest) ≡ (listing_from (1 + place) rest >>= λ more. Ok (lines ++ more))
