-- Stores of files: what is seen of one, and what a read and a write may answer.
use Rattle.std.specs.Prelude.{◌≡◌, ◌≢◌, ◌⊎◌, ℕ, ◌<◌, ◌≤◌, List, length, Option, None, Some, IsSomeAnd}
use Rattle.std.specs.Option.{option_map}
use Rattle.std.specs.FinMap.{FinMap, get, insert}
use Rattle.std.specs.Cmp.Lexicographic.{slice_cmp}
use Rattle.std.specs.Ordering.{nat_cmp}
use Rattle.omf_io.specs.declared.files.ReadFault.{ReadFault}
use Rattle.omf_io.specs.declared.files.ReadFault.TheVariants as read
use Rattle.omf_io.specs.declared.files.WriteFault.{WriteFault}
use Rattle.omf_io.specs.declared.files.WriteFault.TheVariants as write
use Rattle.omf_io.specs.Counts.{one_more, saturating_sum, IfRevealedOr, IsFront}

-- files by the bytes of their paths
abbrev pub FileMap : Type 0
FileMap = FinMap (slice_cmp nat_cmp) (List ℕ)

-- the most bytes that a file may have
abbrev pub max_file : ℕ
max_file = 16777216

-- what is seen of a store: its files, where it reveals them; how often the outside failed; and how often it was read
pub record StoreSeen : Type 0 where
  pub held : Option FileMap
  pub faults : ℕ
  pub asked : ℕ

-- the store after `count` reads that didn't fail
abbrev pub after_reads : ℕ → StoreSeen → StoreSeen
after_reads count store = record store { asked = saturating_sum count store.asked }

-- the store with these bytes at the path, and all other paths as they are; files that aren't revealed stay so
abbrev pub with_written : List ℕ → List ℕ → StoreSeen → StoreSeen
with_written path bytes store = record store { held = option_map (λ files. insert files path bytes) store.held }

-- the file that a read gave: the held one, where files are revealed
abbrev pub IsRead : Option FileMap → List ℕ → List ℕ → Type 0
IsRead held path file = (length file ≤ max_file) × (elim held [ None ↦ Unit {0} | Some files ↦ get files path ≡ Some file ])

-- a read that gave these bytes
abbrev pub HasRead : List ℕ → List ℕ → StoreSeen → StoreSeen → Type 0
HasRead bytes path before now = IsRead before.held path bytes × (now ≡ after_reads 1 before)

-- a fault of a read and when it comes: by the files that are held, where a proof can speak of them, the path, and how many faults the store has
-- counted before the read and after it
abbrev pub HasCause : ReadFault → Option FileMap → List ℕ → ℕ → ℕ → Type 0
HasCause read.Absent held path before now =
    IfRevealedOr held (now ≡ one_more before) (λ files. (get files path ≡ None) × (now ≡ before))
HasCause read.TooLong held path before now =
    IfRevealedOr held (now ≡ one_more before) (λ files. IsSomeAnd (get files path) (λ bytes. max_file < length bytes) × (now ≡ before))
HasCause read.Failed held path before now = now ≡ one_more before
HasCause read.Memory held path before now = now ≡ before

-- a read that was refused
abbrev pub ReadFailed : ReadFault → List ℕ → StoreSeen → StoreSeen → Type 0
ReadFailed fault path before now =
    HasCause fault before.held path before.faults now.faults × (now ≡ record (after_reads 1 before) { faults = now.faults })

-- a read answered that the path isn't held, that its file is too long, or that it failed
abbrev pub IsUnread : Option FileMap → List ℕ → ℕ → ℕ → Type 0
IsUnread held path before now =
    HasCause read.Absent held path before now ⊎ (HasCause read.TooLong held path before now ⊎ HasCause read.Failed held path before now)

-- a write that took all the bytes
abbrev pub HasWritten : List ℕ → List ℕ → StoreSeen → StoreSeen → Type 0
HasWritten bytes path before now = now ≡ with_written path bytes before

-- a write that was refused: where the outside failed, a prefix of the bytes is held at the path, which may be none or all of them
abbrev pub WriteFailed : WriteFault → List ℕ → List ℕ → StoreSeen → StoreSeen → Type 0
WriteFailed write.Failed bytes path before now =
    (front : List ℕ) × IsFront front bytes × (now ≡ record (with_written path front before) { faults = one_more before.faults })
WriteFailed write.Memory bytes path before now = now ≡ before

-- a file that is put at a path is held there, and every other path is as before
abbrev pub PutKeepsOtherPaths : Type 0
PutKeepsOtherPaths = (files : FileMap) (path bytes : List ℕ) → (get (insert files path bytes) path ≡ Some bytes)
    × ((other : List ℕ) → other ≢ path → get (insert files path bytes) other ≡ get files other)
