-- A segment of a load file as a whole.
use Rattle.std.proofs.Common.{◌≡◌, ℕ, ◌-◌, ◌<◌, ◌≤◌, true, List, length, map, Option, Some, refl, sym, ap, subst, ◌∙◌, arith, inl, inr}
use Rattle.load_meaning.specs.laws.Steps.{is_zero}
use Rattle.std.specs.Prelude.{◌⊎◌, slice_get, option_map, IsSomeAnd}
use Rattle.std.specs.Option.{option_or, option_map_or}
use Rattle.std.proofs.lemmas.Bool.{cases_lt}
use Rattle.std.proofs.lemmas.Option.{slice_get_within, slice_get-map}
use Rattle.omf_format.specs.File.{Segment}
use Rattle.load_meaning.specs.Cells.{Cell, Byte, Patch, segment_bytes, cells}
use Rattle.load_meaning.specs.laws.CellLaws.{length-cells, length-segment_bytes}
use Rattle.load_meaning.specs.laws.StoredLaws.{HasPart, zeros_exact}
use Rattle.omf_records.specs.Segments.{segment_of_view}
use Rattle.omf_records.specs.declared.segment.SegmentView.{SegmentView}
use Rattle.load_content.specs.declared.targets.SegmentContent.{SegmentContent}
use Rattle.load_content.specs.Content.{shown_spots, last_at}
use Rattle.load_writer.specs.WrittenParts.{IsKept}
use Rattle.omf_cells.specs.Ends.{IsEnd}
use Rattle.omf_cells.specs.Load.{Shows, ShowsContent}
use Rattle.omf_cells.specs.Whole.{front_of, front_at, AreWhole, HasWhole}
use Rattle.load_content.proofs.Contents.{below_at}
use Rattle.load_writer.proofs.KeptLaws.{byte_is, other_byte}
use Rattle.omf_cells.proofs.LoadShows.{cell_of, shown_below}

-- ---- the cells up to the last one that isn't a byte 0

-- what a cell is: that of a spot, or the byte of the data
cell_there : (segments : List Segment) (number : ℕ) (v : SegmentView) (content : SegmentContent) (k : ℕ) → ShowsContent segments number v content
    → slice_get (cells (segment_of_view v)) k ≡ option_or (last_at (shown_spots content.spots.items) k) (option_map Byte (slice_get (segment_bytes (segment_of_view v)) k))
cell_there segments number v content k is =
    cell_of segments number (segment_of_view v) k is.shows.sound
    ∙ ap (λ o. option_or o (slice_get (map Byte (segment_bytes (segment_of_view v))) k)) (sym (is.content'.spots.last k))
    ∙ ap (λ (o : Option Cell). option_or (last_at (shown_spots content.spots.items) k) o) (slice_get-map Byte (segment_bytes (segment_of_view v)) k)

pub end_fits : (segments : List Segment) (number : ℕ) (v : SegmentView) (content : SegmentContent) (end : ℕ) → ShowsContent segments number v content → IsEnd (shown_spots content.spots.items) end → end ≤ length (segment_bytes (segment_of_view v))
end_fits segments number v content end is ends = elim ends.last [
  | inl none ↦ omega (arith, none)
  | inr some ↦
      let lt = below_at v.header.length (shown_spots content.spots.items) (end - 1) some.0 (shown_below segments number v content is) some.2 in
      omega (arith, lt, some.1, length-segment_bytes (segment_of_view v) is.shows.sound.fits)
]

pub front_there : (segments : List Segment) (number : ℕ) (v : SegmentView) (content : SegmentContent) (end size : ℕ) → ShowsContent segments number v content → IsEnd (shown_spots content.spots.items) end
    → IsKept (segment_bytes (segment_of_view v)) end size → (size ≡ front_at segments number) × (size ≤ v.header.length)
front_there segments number v content end size is ends kept = (
  zeros_exact (cells (segment_of_view v)) size each last (omega (arith, kept.within, sized, length-cells segments number (segment_of_view v) is.shows.sound))
      ∙ sym (ap (λ (o : Option Segment). option_map_or front_of o 0) is.shows.here),
  omega (arith, kept.within, sized),
)
  where
    bytes : List ℕ
    bytes = segment_bytes (segment_of_view v)

    founds : List (ℕ × Cell)
    founds = shown_spots content.spots.items

    sized : length bytes ≡ v.header.length
    sized = length-segment_bytes (segment_of_view v) is.shows.sound.fits

    past : (k : ℕ) → end ≤ k → slice_get (cells (segment_of_view v)) k ≡ option_map Byte (slice_get bytes k)
    past k le = cell_there segments number v content k is ∙ ap (λ (o : Option Cell). option_or o (option_map Byte (slice_get bytes k))) (ends.past k le)

    each : (k : ℕ) (c : Cell) → size ≤ k → slice_get (cells (segment_of_view v)) k ≡ Some c → is_zero c ≡ true
    each k c le e =
        let inside : k < length bytes = omega (arith, sized, length-cells segments number (segment_of_view v) is.shows.sound, slice_get_within (cells (segment_of_view v)) k c e) in
        byte_is (slice_get bytes k) c (kept.zeros k le inside) (sym (past k (omega (arith, le, kept.reaches))) ∙ e)

    at_end : size ≡ end → (size ≡ 0) ⊎ ((1 ≤ size) × HasPart (cells (segment_of_view v)) (size - 1))
    at_end same = elim ends.last [
      | inl none ↦ inl (same ∙ none)
      | inr some ↦ inr (
        omega (arith, same, some.1),
        subst (HasPart (cells (segment_of_view v))) (ap (λ (n : ℕ). n - 1) (sym same))
            (some.0, cell_there segments number v content (end - 1) is ∙ ap (λ (o : Option Cell). option_or o (option_map Byte (slice_get bytes (end - 1)))) some.2, some.3),
      )
    ]

    last : (size ≡ 0) ⊎ ((1 ≤ size) × HasPart (cells (segment_of_view v)) (size - 1))
    last = elim kept.last [
      | inl same ↦ at_end same
      | inr other ↦ elim (cases_lt (size - 1) end) [
        | inl lt ↦ at_end (omega (arith, lt, kept.reaches))
        | inr from ↦
            let byte = other_byte (slice_get bytes (size - 1)) bytes (size - 1) refl (omega (arith, kept.within, other.1)) other.0 in
            inr (other.1, (byte.0, past (size - 1) from ∙ byte.1, byte.2))
      ]
    ]

-- ---- the data

-- ---- the patches

pub has_whole : (segments : List Segment) (number : ℕ) (v : SegmentView) (patches : List Patch) → Shows segments number v → AreWhole (segment_of_view v) patches → HasWhole segments number patches
has_whole segments number v patches is are = subst (λ (o : Option Segment). IsSomeAnd o (λ (s : Segment). AreWhole s patches)) (sym is.here) are
