-- The records that a reader of a sound body is still to hand out.
use Rattle.std.specs.Prelude.{◌≡◌, ℕ, true, List, [], ◌∷◌, Option, Some, None}
use Rattle.omf_format.specs.Record.{Record}
use Rattle.omf_format.specs.Reading.{Reader, HandsOut}
use Rattle.omf_records.specs.declared.record.Rec.{Rec}
use Rattle.omf_records.specs.View.{view}

-- these records remain, END being the last
pub record Coming (at : Reader) (back : List (ℕ × Record)) : Type 0 where
  pub last : Reader
  pub run : HandsOut at back last
  pub ended : last.ended ≡ true

abbrev pub IsComing : Reader → Type 0
IsComing at = (back : List (ℕ × Record)) × Coming at back

-- a record without where its bytes lie, and its displacement
abbrev pub seen_record : ℕ × Rec → ℕ × Record
seen_record found = (found.0, view found.1)

-- the first of the records was returned, and the others remain; or there was none
abbrev pub Walks : Reader → List (ℕ × Record) → Option (ℕ × Record) → Type 0
Walks at back None = back ≡ []
Walks at back (Some found) = (more : List (ℕ × Record)) × (back ≡ found ∷ more) × Coming at more
