-- A segment of an open file, and its bytes in memory.
use Rattle.std.proofs.Common.{◌≡◌, ℕ, ◌<◌, ◌≤◌, List, ◌++◌, length, map, drop, Option, Some, None, inl, inr, refl, sym, ap, subst, ◌∙◌}
use Rattle.std.specs.Prelude.{IsSomeAnd}
use Rattle.std.proofs.lemmas.List.{length-map}
use Rattle.omf_format.specs.File.{Segment, segment_at}
use Rattle.load_meaning.specs.Cells.{cells, byte_of, stands}
use Rattle.load_meaning.specs.laws.CellLaws.{length-cells}
use Rattle.omf_records.specs.declared.segment.SegmentView.{SegmentView}
use Rattle.omf_records.specs.Segments.{segment_of_view}
use Rattle.load_content.specs.Places.{address_in, Stands}
use Rattle.omf_cells.specs.Load.{Shows}
use Rattle.omf_c_files.specs.Handed.{Room, status_done, status_small}
use Rattle.omf_c_files.specs.Opened.{IsPlaced, Placed, OnOpen}

-- LENGTH bytes are in memory for a segment of a load file
stood_long : (segments : List Segment) (number : ℕ) (places : List (Option ℕ)) (v : SegmentView) → Shows segments number v → length (stands (address_in places) (segment_of_view v)) ≡ v.header.length
stood_long segments number places v shows =
    length-map (cells (segment_of_view v)) (byte_of (address_in places)) ∙ length-cells segments number (segment_of_view v) shows.sound

module _ (segments : List Segment) (number : ℕ) (addresses room : List ℕ) (size : ℕ) (v : SegmentView) (shows : Shows segments number v) (count : length addresses ≡ length segments) where
  -- a segment that doesn't fit the room: its size is reported
  pub small_placed : length room < v.header.length → IsPlaced number addresses segments status_small (record { items = room; size = size }) (record { items = room; size = v.header.length })
  small_placed less =
      let same = stood_long segments number (map Some addresses) v shows in
      Placed (segment_of_view v) shows.here count (inr (refl, subst (λ (n : ℕ). length room < n) (sym same) less, ap (λ (n : ℕ). let r : Room ℕ = record { items = room; size = n } in r) (sym same)))

  -- a segment that fits it
  pub all_placed : (bytes : List ℕ) → v.header.length ≤ length room → bytes ≡ stands (address_in (map Some addresses)) (segment_of_view v)
      → IsPlaced number addresses segments status_done (record { items = room; size = size }) (record { items = bytes ++ drop v.header.length room; size = v.header.length })
  all_placed bytes fits are =
      let same = stood_long segments number (map Some addresses) v shows in
      let put = ap (λ (bs : List ℕ). let r : Room ℕ = record { items = bs ++ drop v.header.length room; size = v.header.length } in r) are
      ∙ ap (λ (n : ℕ). let r : Room ℕ = record { items = stands (address_in (map Some addresses)) (segment_of_view v) ++ drop n room; size = n } in r) (sym same) in
      Placed (segment_of_view v) shows.here count (inl (refl, subst (λ (n : ℕ). n ≤ length room) (sym same) fits, put))

-- the bytes of a segment are the ones that are said to stand there
pub are_stood : (segments : List Segment) (number : ℕ) (places : List (Option ℕ)) (v : SegmentView) (bytes : List ℕ) → Shows segments number v → Stands segments number places bytes
    → bytes ≡ stands (address_in places) (segment_of_view v)
are_stood segments number places v bytes shows stood = go (segment_at segments number) stood shows.here
  where
    go : (o : Option Segment) → IsSomeAnd o (λ s. bytes ≡ stands (address_in places) s) → o ≡ Some (segment_of_view v) → bytes ≡ stands (address_in places) (segment_of_view v)
    go None stood is = absurd stood
    go (Some s) stood is = stood ∙ ap (λ (o : Option Segment). elim o [ None ↦ bytes | Some t ↦ stands (address_in places) t ]) is

-- what holds of the segments that are taken out of an open file holds of the file
pub on_open : {X : Type 0} (opened : Option (List Segment)) (Is : List Segment → ℕ → X → X → Type 0) (status : ℕ) (old new : X) (segments given : List Segment)
    → opened ≡ Some segments → given ≡ segments → Is given status old new → OnOpen opened Is status old new
on_open opened Is status old new segments given is same holds = rw (is) (subst (λ (s : List Segment). Is s status old new) same holds)
