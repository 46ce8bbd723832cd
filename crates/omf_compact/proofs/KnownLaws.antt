-- What is known of the segments of a load file.
use Rattle.std.proofs.Common.{◌≡◌, ℕ, zero, suc, ◌+◌, List, Option, Some, None, refl, subst, arith}
use Rattle.std.specs.Prelude.{slice_get, option_and_then, IsSomeAnd, IfSome}
use Rattle.std.specs.List.{AllByRecursion}
use Rattle.omf_format.specs.File.{Segment, segment_at}
use Rattle.load_meaning.specs.Cells.{Cell, cells, cell_at}
use Rattle.load_meaning.specs.Loadable.{IsSoundSegment}
use Rattle.load_meaning.specs.laws.CellLaws.{loadable_at, loadable_has}
use Rattle.omf_compact.specs.Stretches.{first_broken, IsWrittenCell}
use Rattle.omf_compact.specs.Canonical.{plain_of}
use Rattle.omf_compact.specs.laws.StretchLaws.{all-at}
use Rattle.omf_compact.specs.laws.CanonLaws.{IsHeld}
use Rattle.omf_compact.specs.laws.HeldLaws.{IsRead, segment-read, cell-written, all-cells}
use Rattle.omf_compact.specs.laws.AnswerLaws.{segment_held}
use Rattle.omf_compact.specs.laws.Writing.{IsKnown}

pub known_sound : (segments : List Segment) (number : ℕ) (s : Segment) → IsKnown segments → segment_at segments number ≡ Some s → IsSoundSegment segments number s
known_sound segments number s known at = loadable_has known.file segments known.loadable number s at

pub known_read : (segments : List Segment) (number : ℕ) (s : Segment) → IsKnown segments → segment_at segments number ≡ Some s → IsRead s
known_read segments number s known at = segment-read s known.file known.bytes (loadable_at known.file segments known.loadable number s at).segment

pub known_written : (segments : List Segment) (number : ℕ) (s : Segment) → IsKnown segments → segment_at segments number ≡ Some s → AllByRecursion IsWrittenCell (cells s)
known_written segments number s known at =
    all-cells IsWrittenCell (cells s) (λ k c there. cell-written segments number s k c (known_sound segments number s known at) (known_read segments number s known at) there)

pub known_held : (segments : List Segment) (number : ℕ) (s : Segment) → IsKnown segments → segment_at segments number ≡ Some s → first_broken (cells s) ≡ None → IsHeld number (plain_of s)
known_held segments zero s known at un = absurd cc
known_held segments (suc k) s known at un =
    let place : 1 + k ≡ suc k = omega arith in
    subst (λ (n : ℕ). IsHeld n (plain_of s)) place (segment_held known.file segments k s known.bytes known.loadable un at)

-- ---- a segment by its number

-- what holds of the segment with a number
pub at_some : (P : Segment → Type 0) (segments : List Segment) (number : ℕ) (s : Segment) → segment_at segments number ≡ Some s → IsSomeAnd (segment_at segments number) P → P s
at_some P segments number s at has = subst (λ (o : Option Segment). IsSomeAnd o P) at has

-- each cell of a segment can be written
pub written_there : (segments : List Segment) (number at : ℕ) → ((s : Segment) → segment_at segments number ≡ Some s → AllByRecursion IsWrittenCell (cells s)) → IfSome (cell_at segments number at) IsWrittenCell
written_there segments number at all = by_segment (segment_at segments number) all
  where
    by_cell : (of : List Cell) (k : ℕ) (o : Option Cell) → slice_get of k ≡ o → AllByRecursion IsWrittenCell of → IfSome o IsWrittenCell
    by_cell of k None e each = tt
    by_cell of k (Some c) e each = all-at of k c each e

    by_segment : (o : Option Segment) → ((s : Segment) → o ≡ Some s → AllByRecursion IsWrittenCell (cells s)) → IfSome (option_and_then (λ (s : Segment). slice_get (cells s) at) o) IsWrittenCell
    by_segment None each = tt
    by_segment (Some s) each = by_cell (cells s) at (slice_get (cells s) at) refl (each s refl)
