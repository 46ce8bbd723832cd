-- Commands that read all their inputs in order, make bytes of them, and then write or print these.
use Rattle.std.specs.Prelude.{◌≡◌, ℕ, suc, ◌≤◌, List, [], ◌∷◌, ◌++◌, length, Option, None, Some, codes}
use Rattle.std.specs.FinMap.{get}
use Rattle.omf_io.specs.Counts.{one_more, IsFront}
use Rattle.omf_io.specs.Files.{FileMap, StoreSeen, max_file, IsRead, IsUnread, after_reads, with_written}
use Rattle.omf_io.specs.Sinks.{SinkSeen}
use Rattle.omf_io.specs.Outside.{Outside, IsCalm}
use Rattle.omf_making.specs.Lines.{cannot_read_line}
use Rattle.omf_making.specs.Steps.{cannot_write_line}
use Rattle.omf_making.specs.Printing.{Ends, IsPut}
use Rattle.omf_making.specs.Made.{Made, Bytes, Refusal, all_bytes, AreShort}
use Rattle.omf_making.specs.declared.reading.Reading.{Reading}
use Rattle.omf_making.specs.declared.reading.Reading.TheVariants as reading
use Rattle.omf_making.specs.declared.making.MakeResult.{MakeResult}
use Rattle.omf_making.specs.declared.making.MakeResult.TheVariants as end
use Rattle.omf_making.specs.declared.status.Status.{Status}
use Rattle.omf_making.specs.declared.status.Status.TheVariants.{Done, Refused, CannotRead, CannotWrite, Memory}
use Rattle.omf_base.specs.Lines.{line}

-- these paths hold these files, one each, in order
abbrev pub AreRead : Option FileMap → List (List ℕ) → List (List ℕ) → Type 0
AreRead held [] [] = Unit {0}
AreRead held (path ∷ paths) (file ∷ files) = IsRead held path file × AreRead held paths files
AreRead held _ _ = ⊥

-- the inputs before one were read, then that one could not be; nothing else was done
pub record StopsReading (inputs : List (List ℕ)) (path : List ℕ) (before now : StoreSeen) : Type 0 where
  pub front : List (List ℕ)
  pub rest : List (List ℕ)
  pub inputs' : inputs ≡ front ++ path ∷ rest
  pub files : List (List ℕ)
  pub read : AreRead before.held front files
  pub cause : IsUnread before.held path before.faults now.faults
  pub store : now ≡ record (after_reads (suc (length front)) before) { faults = now.faults }

-- an allocation failed after some reads; nothing else was done
pub record IsShort (inputs : List (List ℕ)) (before now : StoreSeen) : Type 0 where
  pub reads : ℕ
  pub most : reads ≤ length inputs
  pub store : now ≡ after_reads reads before

-- all inputs were read, and this was made of their bytes
pub record HasMade (makes : List (List ℕ) → Made → Type 0) (inputs : List (List ℕ)) (before : StoreSeen) (made : Made) : Type 0 where
  pub files : List (List ℕ)
  pub read : AreRead before.held inputs files
  pub made' : makes files made

abbrev pub all_read : List (List ℕ) → StoreSeen → StoreSeen
all_read inputs before = after_reads (length inputs) before

-- all inputs were read and the bytes made; then the store failed in the write, and the output holds the first of these bytes
pub record StopsWriting (makes : List (List ℕ) → Made → Type 0) (output : List ℕ) (inputs : List (List ℕ)) (before now : StoreSeen) : Type 0 where
  pub bytes : List ℕ
  pub made : HasMade makes inputs before (Bytes bytes)
  pub front : List ℕ
  pub is_front : IsFront front bytes
  pub store : now ≡ record (with_written output front (all_read inputs before)) { faults = one_more before.faults }

-- ---- the ends

-- all was read and made, and the bytes are at the output
abbrev pub Writes : (List (List ℕ) → Made → Type 0) → Option (List ℕ) → List (List ℕ) → StoreSeen → StoreSeen → Type 0
Writes makes None inputs before now = ⊥
Writes makes (Some output) inputs before now =
    (bytes : List ℕ) × HasMade makes inputs before (Bytes bytes) × (now ≡ with_written output bytes (all_read inputs before))

-- what a run that says this text with this status did to the store, and why it says it
abbrev pub Says : Status → (List (List ℕ) → Made → Type 0) → Option (List ℕ) → List (List ℕ) → StoreSeen → StoreSeen → List ℕ → Type 0
Says Done makes None inputs before now text = HasMade makes inputs before (Bytes text) × (now ≡ all_read inputs before)
Says Refused makes output inputs before now text = HasMade makes inputs before (Refusal text) × (now ≡ all_read inputs before)
Says CannotRead makes output inputs before now text = (path : List ℕ) × StopsReading inputs path before now × (text ≡ cannot_read_line path)
Says CannotWrite makes (Some output) inputs before now text = StopsWriting makes output inputs before now × (text ≡ line (codes "cannot write " ++ output))
Says _ makes output inputs before now text = ⊥

-- a run of a maker
abbrev pub MakesRun : (List (List ℕ) → Made → Type 0) → Option (List ℕ) → List (List ℕ) → Status → Outside → Type 0
MakesRun makes output inputs status o =
    Ends (λ wanted text. Says wanted makes output inputs o.store o.new_store text) (Writes makes output inputs o.store o.new_store) (IsShort inputs o.store o.new_store)
    status o.sink o.new_sink

-- ---- when it succeeds

-- these files are held, small enough to be read
abbrev pub AreHeld : FileMap → List (List ℕ) → List (List ℕ) → Type 0
AreHeld reported [] [] = Unit {0}
AreHeld reported (path ∷ paths) (file ∷ files) = ((length file ≤ max_file) × (get reported path ≡ Some file)) × AreHeld reported paths files
AreHeld reported _ _ = ⊥

-- the store reveals all inputs, and they have no fault for which they would be refused
pub record CanMake (makes : List (List ℕ) → Made → Type 0) (inputs : List (List ℕ)) (o : Outside) : Type 0 where
  pub reported : FileMap
  pub is_reported : o.store.held ≡ Some reported
  pub files : List (List ℕ)
  pub held' : AreHeld reported inputs files
  pub sound : (text : List ℕ) → makes files (Refusal text) → ⊥
  pub calm : IsCalm o

-- ---- on the way

-- how reading all inputs ends
abbrev pub HasReadAll : Reading → List (List ℕ) → StoreSeen → StoreSeen → Type 0
HasReadAll (reading.All files) inputs before now = AreRead before.held inputs (all_bytes files.items) × AreShort (all_bytes files.items) × (now ≡ all_read inputs before)
HasReadAll (reading.Unread path) inputs before now = StopsReading inputs path.now before now
HasReadAll reading.Memory inputs before now = IsShort inputs before now

-- how a command ends before anything is printed
abbrev pub HasCome : (List (List ℕ) → Made → Type 0) → Option (List ℕ) → List (List ℕ) → MakeResult → StoreSeen → StoreSeen → Type 0
HasCome makes output inputs end.Written before now = Writes makes output inputs before now
HasCome makes output inputs (end.Text text) before now = Says Done makes output inputs before now text.items
HasCome makes output inputs (end.Refused text) before now = Says Refused makes output inputs before now text
HasCome makes output inputs (end.Unread path) before now = StopsReading inputs path.now before now
HasCome makes output inputs (end.Unwritten path) before now = Says CannotWrite makes output inputs before now (cannot_write_line path.now)
HasCome makes output inputs end.Memory before now = IsShort inputs before now

-- what is printed of an end
abbrev pub HasSaid : MakeResult → Status → SinkSeen → SinkSeen → Type 0
HasSaid end.Written result before now = (result ≡ Done) × (now ≡ before)
HasSaid (end.Text text) result before now = IsPut text.items Done result before now
HasSaid (end.Refused text) result before now = IsPut text Refused result before now
HasSaid (end.Unread path) result before now = IsPut (cannot_read_line path.now) CannotRead result before now
HasSaid (end.Unwritten path) result before now = IsPut (cannot_write_line path.now) CannotWrite result before now
HasSaid end.Memory result before now = (result ≡ Memory) × (now ≡ before)
