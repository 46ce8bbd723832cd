-- What a caller hands over to be written, the outcome of a call, and what it leaves there.
use Rattle.std.specs.Prelude.{◌≡◌, ◌⊎◌, ℕ, ◌<◌, ◌≤◌, List, ◌++◌, length, drop, Option, None, Some}
use Rattle.omf_c_files.specs.declared.fault.OmfFault.{OmfFault}
use Rattle.omf_c_files.specs.declared.answer.Answer.{Answer}
use Rattle.omf_c_files.specs.declared.answer.Answer.TheVariants as answer

-- the statuses
abbrev pub status_done : ℕ
status_done = 0

abbrev pub status_refused : ℕ
status_refused = 1

abbrev pub memory : ℕ
memory = 2

abbrev pub status_misused : ℕ
status_misused = 3

abbrev pub status_small : ℕ
status_small = 4

abbrev pub status_no_file : ℕ
status_no_file = 5

abbrev pub status_is_open : ℕ
status_is_open = 6

abbrev pub status_no_segment : ℕ
status_no_segment = 7

abbrev pub status_other_count : ℕ
status_other_count = 8

abbrev pub status_no_item : ℕ
status_no_item = 9

abbrev pub status_too_long : ℕ
status_too_long = 10

-- the outcome of a call: what it was asked for, or why there is none
pub data CallOutcome (X : Type 0) : Type 0 where
  Made : X → CallOutcome X
  Refused : OmfFault → CallOutcome X
  NoMemory : CallOutcome X
  Misused : CallOutcome X

-- a caller's room for a list, and the number of items that is reported
pub record Room (X : Type 0) : Type 0 where
  pub items : List X
  pub size : ℕ

-- the items are at the start of the room where they fit, and nothing is written where they don't; their number is reported in both cases
abbrev pub IsPut : {X : Type 0} → List X → ℕ → Room X → Room X → Type 0
IsPut xs status old new =
    ((status ≡ status_done) × (length xs ≤ length old.items) × (new ≡ record { items = xs ++ drop (length xs) old.items; size = length xs }))
    ⊎ ((status ≡ status_small) × (length old.items < length xs) × (new ≡ record { items = old.items; size = length xs }))

-- a call with a room was answered: only what it made, or its fault, is written
abbrev pub IsHanded : {X : Type 0} → CallOutcome (List X) → ℕ → Room X → Room X → OmfFault → OmfFault → Type 0
IsHanded (Made xs) status old new fault after = IsPut xs status old new × (after ≡ fault)
IsHanded (Refused reported) status old new fault after = (status ≡ status_refused) × (new ≡ old) × (after ≡ reported)
IsHanded NoMemory status old new fault after = (status ≡ memory) × (new ≡ old) × (after ≡ fault)
IsHanded Misused status old new fault after = (status ≡ status_misused) × (new ≡ old) × (after ≡ fault)

-- the outcome of an answer
abbrev pub outcome_of : Answer → CallOutcome (List ℕ)
outcome_of (answer.Made bytes) = Made bytes.items
outcome_of (answer.Refused reported) = Refused reported
outcome_of answer.Memory = NoMemory
outcome_of answer.Misused = Misused

-- a fault as an outcome; no fault means out of memory
abbrev pub reported_outcome : {X : Type 0} → Option OmfFault → CallOutcome X
reported_outcome None = NoMemory
reported_outcome (Some reported) = Refused reported
