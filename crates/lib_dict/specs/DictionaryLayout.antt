-- A dictionary as positions: what its three records hold, and what each row says of the library (GS/OS Reference, appendix F, "Library
-- Dictionary Segment"; the 0 that ends the first record is this project's own choice).
use Rattle.std.specs.Prelude.{◌≡◌, ◌≢◌, ◌<◌, ℕ, Bool, true, not, List, [], ◌∷◌, ◌++◌, length, Some, Ok, ◌==◌}
use Rattle.std.specs.List.{flat_map}
use Rattle.omf_format.specs.Number.{number_at}
use Rattle.omf_format.specs.Header.{form_of}
use Rattle.omf_format.specs.Record.{Record, LongConst}
use Rattle.omf_format.specs.File.{Segment, IsFile, segment_at}
use Rattle.link_meaning.specs.First.{IsIn}
use Rattle.link_meaning.specs.Member.{OfferedRow, is_library}
use Rattle.object_meaning.specs.Defines.{Definition, outer_scope, defined_in}
use Rattle.link_meaning.specs.Dictionary.{rows_of}

-- a name as it is in a dictionary: its length, and its bytes
abbrev pub counted_name : List ℕ → List ℕ
counted_name name = length name ∷ name

-- the first record: file numbers of two bytes, none of them 0, each with a name after it, and 0 at the end
abbrev pub AreFileNumbers : List ℕ → List ℕ → Type 0
AreFileNumbers [] bytes = (length bytes ≡ 2) × (number_at 2 0 bytes ≡ 0)
AreFileNumbers (number ∷ numbers) bytes =
    (digits : List ℕ) × (name : List ℕ) × (rest : List ℕ) × (bytes ≡ digits ++ (counted_name name ++ rest)) × (length digits ≡ 2) × (number_at 2 0 digits ≡ number) × (number ≢ 0)
    × AreFileNumbers numbers rest

-- the third record: names one after another
abbrev pub AreNames : List (List ℕ) → List ℕ → Type 0
AreNames names bytes = bytes ≡ flat_map counted_name names

-- one of the names starts there
pub record StartsAt (names : List (List ℕ)) (name : List ℕ) (at : ℕ) : Type 0 where
  pub before : List (List ℕ)
  pub following : List (List ℕ)
  pub parts : names ≡ before ++ name ∷ following
  pub place : at ≡ length (flat_map counted_name before)

-- the segment defines the name by SEGNAME, GLOBAL or GEQU, private or not
pub record DefinesSo (s : Segment) (name : List ℕ) (private : Bool) : Type 0 where
  pub by : Definition
  pub among : IsIn (defined_in s) by
  pub name' : by.name ≡ name
  pub scope : by.scope ≡ outer_scope private

-- the twelve bytes of a row: where its name starts, its file's number, the private flag, and where its segment starts, which is
-- after the dictionary and isn't one
pub record IsRow (segments : List Segment) (numbers : List ℕ) (names : List (List ℕ)) (bytes : List ℕ) (row : OfferedRow) : Type 0 where
  pub name : StartsAt names row.name (number_at 4 0 bytes)
  pub from : row.from ≡ number_at 2 4 bytes
  pub known : IsIn numbers row.from
  pub private : row.private ≡ not (number_at 2 6 bytes == 0)
  pub segment : Segment
  pub here : segment_at segments row.segment ≡ Some segment
  pub following : 1 < row.segment
  pub start : segment.start ≡ number_at 4 8 bytes
  pub other : form_of segment.fields.kind ≢ 0x08
  pub defines : DefinesSo segment row.name row.private

-- the second record: rows of twelve bytes one after another
abbrev pub AreRows : List Segment → List ℕ → List (List ℕ) → List OfferedRow → List ℕ → Type 0
AreRows segments numbers names [] bytes = bytes ≡ []
AreRows segments numbers names (row ∷ rows) bytes =
    (text : List ℕ) × (rest : List ℕ) × (bytes ≡ text ++ rest) × (length text ≡ 12) × IsRow segments numbers names text row × AreRows segments numbers names rows rest

-- the first segment is a dictionary with these rows: it has three LCONST records and END
pub record IsDictionary (segments : List Segment) (rows : List OfferedRow) : Type 0 where
  pub dictionary : Segment
  pub others : List Segment
  pub parts : segments ≡ dictionary ∷ others
  pub a : ℕ
  pub first : List ℕ
  pub b : ℕ
  pub second : List ℕ
  pub c : ℕ
  pub third : List ℕ
  pub e : ℕ × Record
  pub records : dictionary.records ≡ (a, LongConst first) ∷ (b, LongConst second) ∷ (c, LongConst third) ∷ e ∷ []
  pub numbers : List ℕ
  pub files : AreFileNumbers numbers first
  pub names : List (List ℕ)
  pub named : AreNames names third
  pub rows' : AreRows segments numbers names rows second

-- the rows that are read from a library are those of its dictionary
abbrev pub RowsAreLaidOut : Type 0
RowsAreLaidOut = (segments : List Segment) (rows : List OfferedRow) → is_library segments ≡ true → rows_of segments ≡ Ok rows → IsDictionary segments rows

-- and a file's dictionary is read, with its rows
abbrev pub LaidOutIsRead : Type 0
LaidOutIsRead = (file : List ℕ) (segments : List Segment) (rows : List OfferedRow) → IsFile segments file → IsDictionary segments rows → rows_of segments ≡ Ok rows
