-- The rows of a listing: visited lines with what their lines give.
use Rattle.std.specs.Prelude.{◌≡◌, ℕ, List, [], ◌∷◌}
use Rattle.omf_format.specs.Record.{Record}
use Rattle.macro_meaning.specs.Expansion.{AreGoodFiles, program_of}
use Rattle.macro_meaning.specs.Visit.{Ends, first_visit}
use Rattle.asm_meaning.specs.Object.{AreSteps}
use Rattle.asm_meaning.specs.State.{State, start}
use Rattle.listing_meaning.specs.Seen.{SeenLine, Show}
use Rattle.listing_meaning.specs.Given.{RecordPlace, given_records, place_of}

-- a visited line, the records that its line gives, and where they are
pub record Row : Type 0 where
  pub seen : SeenLine
  pub records : List Record
  pub place : RecordPlace

-- the row of a visited line whose line leaves `next` where `state` was left
abbrev pub row_of : State → State → SeenLine → Row
row_of state next seen = record { seen = seen; records = given_records state next; place = place_of state next }

-- the rows of visited lines whose lines leave `last` where `state` was left
abbrev pub AreRows : State → List SeenLine → List Row → State → Type 0
AreRows state [] [] last = state ≡ last
AreRows state (first ∷ seen) (row ∷ rows) last = (next : State) × AreSteps state first.given next × (row ≡ row_of state next first) × AreRows next seen rows last
AreRows state _ _ last = ⊥

-- all visited lines of a source with macro files have these rows, and leave this
pub record IsListed (source : List ℕ) (macros : List (List ℕ)) (rows : List Row) (last : State) : Type 0 where
  pub good : AreGoodFiles source macros
  pub seen : List SeenLine
  pub show : Show (program_of source macros) [] first_visit seen Ends
  pub are : AreRows start seen rows last
