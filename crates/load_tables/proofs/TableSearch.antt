-- Looking for the table, view by view.
use Rattle.std.proofs.Common.{◌≡◌, ℕ, zero, suc, ◌+◌, ◌<◌, ◌≤◌, List, [], ◌∷◌, length, drop, map, get_or, Some, None, refl, sym, ap, ◌∙◌, arith}
use Rattle.std.specs.Prelude.{if◌then◌else◌}
use Rattle.std.proofs.Math.Seq.{drop-cons}
use Rattle.load_meaning.specs.LoadTable.{is_table, table_from}
use Rattle.omf_records.specs.declared.segment.SegmentView.{SegmentView}
use Rattle.omf_records.specs.Segments.{segment_of_view}

-- one view, and then the others
pub table-next : (views : List SegmentView) (i number : ℕ) (v : SegmentView) → i < length views → v ≡ get_or views i v
    → table_from number (map segment_of_view (drop i views)) ≡ (if is_table (segment_of_view v) then Some number else table_from (number + 1) (map segment_of_view (drop (suc i) views)))
table-next views i number v lt is =
    ap (λ l. table_from number (map segment_of_view l)) (drop-cons views i v lt)
    ∙ ap (λ (w : SegmentView). table_from number (map segment_of_view (w ∷ drop (suc i) views))) (sym is)

pub table-past : (views : List SegmentView) (i number : ℕ) → length views ≤ i → table_from number (map segment_of_view (drop i views)) ≡ None
table-past views i number past = ap (λ l. table_from number (map segment_of_view l)) (drop-past i views past)
  where
    drop-past : (k : ℕ) (xs : List SegmentView) → length xs ≤ k → drop k xs ≡ []
    drop-past zero [] h = refl
    drop-past zero (x ∷ xs) h = absurd (omega arith)
    drop-past (suc k) [] h = refl
    drop-past (suc k) (x ∷ xs) h = drop-past k xs (omega arith)
