-- What statements give: constant bytes and records, of which neighbouring bytes are one record (GS/OS Reference,
-- appendix F, CONST and LCONST).
use Rattle.std.specs.Prelude.{◌≡◌, ◌<◌, ◌^◌, ℕ, zero, suc, ◌+◌, ◌-◌, nat_le, false, List, [], ◌∷◌, ◌++◌, length, if◌then◌else◌}
use Rattle.std.specs.List.{AllByRecursion}
use Rattle.omf_format.specs.Field.{written_layout}
use Rattle.omf_format.specs.Reading.{is_end}
use Rattle.omf_format.specs.Record.{Record, Const, LongConst, IsRecord}
use Rattle.object_meaning.specs.Sizes.{size_at}

-- constant bytes, or a record of another kind
pub data Piece : Type 0 where
  Bytes : (bytes : List ℕ) → Piece
  Whole : (content : Record) → Piece

-- constant bytes: no record of none, CONST of 1 to 223, and LCONST of more
abbrev pub constant_records : List ℕ → List Record
constant_records [] = []
constant_records (byte ∷ bytes) =
    (if nat_le (length (byte ∷ bytes)) 223 then Const (byte ∷ bytes) else LongConst (byte ∷ bytes)) ∷ []

-- the records of pieces after constant bytes that have no record yet
unfoldable pub records_after : List ℕ → List Piece → List Record
records_after bytes [] = constant_records bytes
records_after bytes (Bytes more ∷ pieces) = records_after (bytes ++ more) pieces
records_after bytes (Whole content ∷ pieces) = constant_records bytes ++ content ∷ records_after [] pieces

-- the records of pieces
abbrev pub records_of : List Piece → List Record
records_of pieces = records_after [] pieces

-- pieces, repeated a given number of times
abbrev pub copies : ℕ → List Piece → List Piece
copies zero pieces = []
copies (suc n) pieces = pieces ++ copies n pieces

-- ---- cells

-- the place after these records, where the first is at this place of its segment
unfoldable pub place_after : ℕ → List Record → ℕ
place_after at [] = at
place_after at (content ∷ contents) = place_after (at + size_at at content) contents

-- the length of a statement is the number of cells that its records give
unfoldable pub length_at : ℕ → List Record → ℕ
length_at at contents = place_after at contents - at

-- ---- pieces that can be written

-- a record of a body that has a spelling as long as it gives less than 2 ^ 32 cells
pub record IsPlain (r : Record) : Type 0 where
  pub spelled : (at : ℕ) → size_at at r < 2 ^ 32 → IsRecord written_layout r
  pub inner : is_end r ≡ false

-- constant bytes, or such a record
abbrev pub IsPlainPiece : Piece → Type 0
IsPlainPiece (Bytes bytes) = Unit {0}
IsPlainPiece (Whole r) = IsPlain r

-- such pieces alone
abbrev pub ArePlainPieces : List Piece → Type 0
ArePlainPieces pieces = AllByRecursion IsPlainPiece pieces
