-- Going over the records of a body.
use Rattle.std.specs.Prelude.{◌≡◌, ℕ, Bool, true, false, List, Some, None, is_some}
use Rattle.std.specs.List.{flat_map, AllByRecursion}
use Rattle.omf_format.specs.Field.{Layout}
use Rattle.omf_format.specs.Super.{locations_left}
use Rattle.omf_format.specs.Record.{Record, Reloc, InterSeg, ShortReloc, ShortInterSeg, Super, IsRecord, content_of}
use Rattle.omf_format.specs.Reading.{Reader, next_answer, HandsOut, records_of, IsBody}
use Rattle.omf_format.specs.File.{Segment}
use Rattle.load_meaning.specs.Cells.{Patch, patches_in}
use Rattle.load_meaning.specs.Loadable.{Fault, record_refusal, answer_fault}
use Rattle.omf_records.specs.View.{first}

-- the records from there on end with END, and a load segment may have each of them
pub record IsLoadBody (reader : Reader) : Type 0 where
  pub body : IsBody reader
  pub pass : AllByRecursion (λ found. record_refusal found.1 ≡ None) (records_of reader)

-- the first record from there on that isn't read, or that no load segment has
pub record HasBodyFault (reader : Reader) (fault : Fault) : Type 0 where
  pub before : List (ℕ × Record)
  pub at : Reader
  pub run : HandsOut reader before at
  pub pass : AllByRecursion (λ found. record_refusal found.1 ≡ None) before
  pub fails : answer_fault (next_answer at) ≡ Some fault

-- the bytes that the records put into the segment
unfoldable pub content : Reader → List ℕ
content reader = flat_map (λ found. content_of found.1) (records_of reader)

-- the record is one of the format, under some layout
abbrev pub HasSpelling : Record → Type 0
HasSpelling r = (l : Layout) × IsRecord l r

-- a record gives a patch
abbrev pub gives_patch : Record → Bool
gives_patch (Reloc count shift location offset) = true
gives_patch (InterSeg count shift location file segment offset) = true
gives_patch (ShortReloc count shift location offset) = true
gives_patch (ShortInterSeg count shift location segment offset) = true
gives_patch (Super form bytes) = is_some (first (locations_left 0 0 bytes))
gives_patch _ = false

-- the patches that records of a segment give, in order
abbrev pub patches_from : Segment → List (ℕ × Record) → List Patch
patches_from s founds = flat_map (λ found. patches_in s found.1) founds
