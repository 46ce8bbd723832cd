-- The rows of the segments after the first, as far as they were passed.
use Rattle.std.proofs.Common.{◌≡◌, ℕ, zero, suc, ◌+◌, ◌≤◌, ◌<◌, List, [], ◌∷◌, ◌++◌, length, drop, map, Some, None, refl, sym, ap, ◌∙◌, append_assoc, arith}
use Rattle.std.specs.Prelude.{slice_get}
use Rattle.std.specs.List.{flat_map}
use Rattle.std.proofs.lemmas.List.{append-nil}
use Rattle.std.proofs.lemmas.List.Concat.{flat_map-cons}
use Rattle.omf_format.specs.File.{Segment, segment_at}
use Rattle.omf_records.specs.declared.segment.SegmentView.{SegmentView}
use Rattle.omf_records.specs.Segments.{segment_of_view}
use Rattle.omf_records.specs.SegmentLaws.{shown_at, none_past}
use Rattle.lib_dict.specs.declared.listed.Outer.{Outer}
use Rattle.lib_dict.specs.Library.{LibraryRow}
use Rattle.lib_dict.specs.View.{outer_row}
use Rattle.lib_dict.specs.Tables.{other_rows, following_rows}

-- a given number of segments were passed
pub record PassedRows (list : List Segment) (passed : ℕ) (rows : List Outer) : Type 0 where
  pub some : 1 ≤ passed
  pub within : passed ≤ length list + 1
  pub whole : following_rows list ≡ map outer_row rows ++ flat_map other_rows (drop passed list)

pub passed_first : (list : List Segment) (rows : List Outer) → rows ≡ [] → PassedRows list 1 rows
unfolding following_rows
passed_first list rows none = record {
  some = omega arith;
  within = omega arith;
  whole = ap (λ (l : List Outer). map outer_row l ++ flat_map other_rows (drop 1 list)) (sym none);
}

drop-at : (list : List Segment) (k : ℕ) (s : Segment) → slice_get list k ≡ Some s → drop k list ≡ s ∷ drop (k + 1) list
drop-at [] k s is = absurd cc
drop-at (t ∷ list) zero s is = let same : t ≡ s = cc in ap (λ (u : Segment). u ∷ list) same
drop-at (t ∷ list) (suc k) s is = let step : suc k + 1 ≡ suc (k + 1) = omega arith in drop-at list k s is ∙ ap (λ (n : ℕ). s ∷ drop n (t ∷ list)) (sym step)

within-at : (list : List Segment) (k : ℕ) (s : Segment) → slice_get list k ≡ Some s → k < length list
within-at [] k s is = absurd cc
within-at (t ∷ list) zero s is = omega arith
within-at (t ∷ list) (suc k) s is = let rest = within-at list k s is in omega arith

-- a segment more
pub passed_next : (list : List Segment) (passed : ℕ) (rows new : List Outer) (v : SegmentView) → PassedRows list passed rows → Some (segment_of_view v) ≡ segment_at list (passed + 1)
    → map outer_row new ≡ map outer_row rows ++ other_rows (segment_of_view v) → PassedRows list (passed + 1) new
passed_next list passed rows new v p is more =
    let here = shown_at list passed v is in
    let lt = within-at list passed (segment_of_view v) here in
    record {
      some = omega (arith, p.some);
      within = omega arith;
      whole =
          p.whole
          ∙ ap (λ (l : List Segment). map outer_row rows ++ flat_map other_rows l) (drop-at list passed (segment_of_view v) here)
          ∙ ap (λ (l : List LibraryRow). map outer_row rows ++ l) (flat_map-cons other_rows (segment_of_view v) (drop (passed + 1) list))
          ∙ sym (append_assoc (map outer_row rows) (other_rows (segment_of_view v)) (flat_map other_rows (drop (passed + 1) list)))
          ∙ ap (λ (l : List LibraryRow). l ++ flat_map other_rows (drop (passed + 1) list)) (sym more);
    }

-- and no more of them is within the list
pub passed_within : (list : List Segment) (passed : ℕ) (v : SegmentView) → Some (segment_of_view v) ≡ segment_at list (passed + 1) → passed < length list
passed_within list passed v is = within-at list passed (segment_of_view v) (shown_at list passed v is)

-- all were passed
pub passed_all : (list : List Segment) (passed : ℕ) (rows : List Outer) → PassedRows list passed rows → None ≡ segment_at list (passed + 1) → map outer_row rows ≡ following_rows list
passed_all list passed rows p none =
    sym (
    p.whole
    ∙ ap (λ (l : List Segment). map outer_row rows ++ flat_map other_rows l) (drop-past list passed (none_past list passed none))
    ∙ append-nil (map outer_row rows)
    )
  where
    drop-past : (list : List Segment) (k : ℕ) → length list ≤ k → drop k list ≡ []
    drop-past [] zero past = refl
    drop-past [] (suc k) past = refl
    drop-past (t ∷ list) zero past = absurd (omega arith)
    drop-past (t ∷ list) (suc k) past = drop-past list k (omega arith)
