-- The text of the listing of an assembly (this project's own form).
use Rattle.std.specs.Prelude.{◌≡◌, ℕ, zero, suc, ◌<◌, ◌≤◌, ◌-◌, nat_lt, List, [], ◌∷◌, ◌++◌, length, take, replicate, codes, Option, Some, None, Err, if◌then◌else◌}
use Rattle.std.specs.List.{flat_map}
use Rattle.omf_format.specs.Ascii as ascii
use Rattle.omf_base.specs.Digits.{decimal, hexadecimal}
use Rattle.omf_base.specs.Lines.{line}
use Rattle.omf_format.specs.Record.{Record}
use Rattle.orca_meaning.specs.Line.{Line}
use Rattle.macro_meaning.specs.declared.faults.MacroCause.{MacroCause}
use Rattle.macro_meaning.specs.declared.faults.MacroFault.{MacroFault}
use Rattle.macro_meaning.specs.Expansion.{AreGoodFiles, program_of, first_of_files, file_text_fault, file_part_fault}
use Rattle.macro_meaning.specs.Visit.{Ends, Stops, first_visit}
use Rattle.asm_meaning.specs.declared.faults.AsmCause.{AsmCause}
use Rattle.asm_meaning.specs.declared.faults.AsmCause.TheVariants.{Unclosed, TooLong}
use Rattle.asm_meaning.specs.declared.faults.AsmFault.{AsmFault}
use Rattle.asm_meaning.specs.Object.{object_text, most_bytes}
use Rattle.asm_meaning.specs.State.{FinishedSegment, StartedSegment, State, start}
use Rattle.asm_meaning.specs.Statement.{IsStep}
use Rattle.source_meaning.specs.Object.{cause_of}
use Rattle.listing_meaning.specs.Seen.{SeenLine, Show}
use Rattle.listing_meaning.specs.Given.{RecordPlace, cells_from}
use Rattle.listing_meaning.specs.Rows.{Row, AreRows, IsListed}

-- ---- columns

-- a text with spaces before it, at least this long
abbrev pub to_right : ℕ → List ℕ → List ℕ
to_right width text = replicate (width - length text) ascii.space ++ text

-- a text with spaces behind it, at least this long
abbrev pub to_left : ℕ → List ℕ → List ℕ
to_left width text = text ++ replicate (width - length text) ascii.space

-- two digits of a constant byte, or two dots for a byte of an expression
abbrev pub cell_text : Option ℕ → List ℕ
cell_text (Some byte) = hexadecimal 2 byte
cell_text None = codes ".."

-- the first eight cells, and ` >` where there are more
abbrev pub cells_text : List (Option ℕ) → List ℕ
cells_text cells = flat_map cell_text (take 8 cells) ++ (if nat_lt 8 (length cells) then codes " >" else [])

-- the number of the segment, the offset, the displacement and the cells of records; spaces for none
unfoldable pub records_columns : RecordPlace → List Record → List ℕ
records_columns place [] = replicate 42 ascii.space
records_columns place (first ∷ more) =
    to_right 5 (decimal place.segment) ++ codes " " ++ hexadecimal 8 place.offset ++ codes " " ++ hexadecimal 8 place.displacement ++ codes " "
    ++ to_left 18 (cells_text (cells_from place.offset (first ∷ more)))

-- how deep a visit is nested, and nothing in the source
abbrev pub depth_text : ℕ → List ℕ
depth_text zero = []
depth_text (suc depth) = codes "+" ++ decimal (suc depth)

-- the text of a visited line with its symbols replaced, where it gives a line, and else as it stands in its file
abbrev pub shown_text : SeenLine → List ℕ
shown_text seen = elim seen.given [ [] ↦ seen.line.text | given ∷ more ↦ given.text ]

-- the depth of a visited line, its file with its number there, and its text
unfoldable pub line_columns : SeenLine → List ℕ
line_columns seen =
    to_left 3 (depth_text seen.visit.depth) ++ codes " " ++ to_left 9 (decimal seen.line.file ++ codes ":" ++ decimal seen.line.number) ++ codes " " ++ shown_text seen

-- a row with what its line gives
abbrev pub row_text : Row → List ℕ
row_text row = line (records_columns row.place row.records ++ codes " " ++ line_columns row.seen)

-- a row of a line that was not assembled
abbrev pub bare_row_text : SeenLine → List ℕ
bare_row_text seen = line (replicate 42 ascii.space ++ codes " " ++ line_columns seen)

-- ---- the listing

-- a segment: its name, its LENGTH and how many records it has
unfoldable pub segment_line : FinishedSegment → List ℕ
segment_line s = line (codes "segment " ++ s.header.name ++ codes " length " ++ hexadecimal 8 s.header.length ++ codes " records " ++ decimal (length s.body))

-- the listing of a source with macro files that is assembled: its rows, and then its segments
pub record IsListing (source : List ℕ) (macros : List (List ℕ)) (text : List ℕ) : Type 0 where
  pub rows : List Row
  pub last : State
  pub listed : IsListed source macros rows last
  pub ended : last.segment ≡ None
  pub fits : length (object_text last.ended) ≤ most_bytes
  pub is : text ≡ flat_map row_text rows ++ flat_map segment_line last.ended

-- the rows up to the line with a fault and that line; only the lines before it have records
pub record HasBadRow (source : List ℕ) (macros : List (List ℕ)) (bad : Line) (cause : AsmCause) (text : List ℕ) : Type 0 where
  pub good : AreGoodFiles source macros
  pub before : List SeenLine
  pub wrong : SeenLine
  pub following : List SeenLine
  pub rows : List Row
  pub last : State
  pub show : Show (program_of source macros) [] first_visit (before ++ wrong ∷ following) Ends
  pub are : AreRows start before rows last
  pub gives : wrong.given ≡ bad ∷ []
  pub faulty : IsStep last bad (Err cause)
  pub is : text ≡ flat_map row_text rows ++ bare_row_text wrong

-- The rows of a source with macro files that isn't assembled, and its fault: none where a file can't be read or a definition has
-- a fault; up to the visited line with a fault, without records; up to the line that can't be assembled; all of them, where a
-- segment has no END or the object is too long.
pub data IsListingUpTo (source : List ℕ) (macros : List (List ℕ)) (fault : AsmFault) (text : List ℕ) : Type 0 where
  InText : (found : MacroFault) → first_of_files file_text_fault source macros ≡ Some found
      → fault ≡ record { cause = cause_of found.cause; file = found.file; line = found.line } → text ≡ [] → IsListingUpTo source macros fault text
  InDefinition : (found : MacroFault) → first_of_files file_text_fault source macros ≡ None → first_of_files file_part_fault source macros ≡ Some found
      → fault ≡ record { cause = cause_of found.cause; file = found.file; line = found.line } → text ≡ [] → IsListingUpTo source macros fault text
  InVisit : AreGoodFiles source macros → (seen : List SeenLine) (of : Line) (cause : MacroCause) → Show (program_of source macros) [] first_visit seen (Stops of cause)
      → fault ≡ record { cause = cause_of cause; file = of.file; line = of.number } → text ≡ flat_map bare_row_text seen → IsListingUpTo source macros fault text
  InLine : (bad : Line) (cause : AsmCause) → HasBadRow source macros bad cause text
      → fault ≡ record { cause = cause; file = bad.file; line = bad.number } → IsListingUpTo source macros fault text
  InSegment : (rows : List Row) (last : State) (s : StartedSegment) → IsListed source macros rows last → last.segment ≡ Some s
      → fault ≡ record { cause = Unclosed; file = s.start_line.file; line = s.start_line.number } → text ≡ flat_map row_text rows → IsListingUpTo source macros fault text
  InLength : (rows : List Row) (last : State) → IsListed source macros rows last → last.segment ≡ None → most_bytes < length (object_text last.ended)
      → fault ≡ record { cause = TooLong; file = 0; line = 0 } → text ≡ flat_map row_text rows → IsListingUpTo source macros fault text
