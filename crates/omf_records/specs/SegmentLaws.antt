-- What the views of a file's list show: laws for loops over it.
use Rattle.std.proofs.Common.{◌≡◌, ℕ, zero, suc, ◌+◌, ◌≤◌, List, [], ◌∷◌, length, Some, None, sym, ap, ◌∙◌, arith}
use Rattle.std.specs.Prelude.{slice_get}
use Rattle.omf_format.specs.Reading.{IsBody}
use Rattle.omf_format.specs.File.{Segment, body_reader, segment_at}
use Rattle.omf_header.specs.View.{fields}
use Rattle.omf_records.specs.declared.segment.SegmentView.{SegmentView}
use Rattle.omf_records.specs.Segments.{segment_of_view, IsSound}

-- the records of a sound view end with END
pub sound_body : (v : SegmentView) → IsSound v → IsBody (body_reader v.start (fields v.header) v.file.now)
sound_body v is = record { last = is.segment.last; run = is.segment.records; ended = is.segment.ended }

-- a number from 1 is a place from 0
pub at_number : (list : List Segment) (k : ℕ) → segment_at list (k + 1) ≡ slice_get list k
at_number list k = let same : k + 1 ≡ suc k = omega arith in ap (segment_at list) same

-- the segment at a place of the list is the one that the view there shows
pub shown_at : (list : List Segment) (k : ℕ) (v : SegmentView) → Some (segment_of_view v) ≡ segment_at list (k + 1) → slice_get list k ≡ Some (segment_of_view v)
shown_at list k v e = sym (at_number list k) ∙ sym e

-- there is one at each place
pub none_past : (list : List Segment) (k : ℕ) → None ≡ segment_at list (k + 1) → length list ≤ k
none_past list k e = past list k (sym (at_number list k) ∙ sym e)
  where
    past : (list : List Segment) (k : ℕ) → slice_get list k ≡ None → length list ≤ k
    past [] k e = omega arith
    past (s ∷ list) zero e = absurd cc
    past (s ∷ list) (suc k) e = let rest = past list k e in omega arith
