-- What is kept of a segment beside its header: where its bytes are in the file, and which of them patches give.
use Rattle.std.specs.Prelude.{◌≡◌, ◌⊎◌, ℕ, zero, suc, ◌+◌, ◌-◌, ◌<◌, ◌≤◌, ◌^◌, ◌==◌, nat_le, ◌||◌, if◌then◌else◌, List, [], ◌∷◌, ◌++◌, length, take, drop, replicate, slice_get, slice_index, slice_set, Option, Some, None}
use Rattle.std.specs.Option.{option_or}
use Rattle.std.specs.List.{AllByRecursion}
use Rattle.std.specs.List.Sorted.{IsNonDecreasingBy}
use Rattle.omf_format.specs.File.{Segment}
use Rattle.omf_format.specs.Number.{number_at}
use Rattle.load_meaning.specs.Cells.{Cell, Part, Patch, segment_bytes, byte_of}
use Rattle.load_meaning.specs.Loadable.{patch_list}
use Rattle.omf_records.specs.declared.segment.SegmentView.{SegmentView}
use Rattle.omf_records.specs.Segments.{segment_of_view}
use Rattle.load_content.specs.declared.pieces.BytePiece.{BytePiece}
use Rattle.load_content.specs.declared.spots.PatchSpot.{PatchSpot}
use Rattle.load_content.specs.declared.spots.Relocation.{Relocation}
use Rattle.load_content.specs.declared.targets.SegmentContent.{SegmentContent}

-- ---- searches

-- the items before a place have a number that is at most this one, and those from the place on have a greater one
pub record IsSplit {A : Type 0} (n : A → ℕ) (xs : List A) (most place : ℕ) : Type 0 where
  pub before : (i : ℕ) (x : A) → i < place → slice_get xs i ≡ Some x → n x ≤ most
  pub following : (i : ℕ) (x : A) → place ≤ i → slice_get xs i ≡ Some x → most < n x

-- ---- data

-- the bytes are zeros
abbrev pub IsZeros : List ℕ → Type 0
IsZeros bytes = bytes ≡ replicate (length bytes) 0

-- where a piece begins
abbrev pub start_of : BytePiece → ℕ
start_of p = p.start

-- the piece at a place of a list
abbrev pub IsAt : List BytePiece → ℕ → BytePiece → Type 0
IsAt pieces i p = slice_get pieces i ≡ Some p

-- the piece has no byte at the offset
abbrev pub IsElsewhere : BytePiece → ℕ → Type 0
IsElsewhere p k = (k < p.start) ⊎ (p.start + length p.bytes.now ≤ k)

-- the pieces lie one after another; the bytes contain theirs, and are 0 elsewhere
pub record ArePieces (pieces : List BytePiece) (bytes : List ℕ) : Type 0 where
  pub apart : (i j : ℕ) (p q : BytePiece) → i < j → IsAt pieces i p → IsAt pieces j q → p.start + length p.bytes.now ≤ q.start
  pub inside : (i n : ℕ) (p : BytePiece) → IsAt pieces i p → n < length p.bytes.now → slice_get bytes (p.start + n) ≡ slice_get p.bytes.now n
  pub fits : (i : ℕ) (p : BytePiece) → IsAt pieces i p → p.start + length p.bytes.now ≤ length bytes
  pub zeros : (k : ℕ) → k < length bytes → ((i : ℕ) (p : BytePiece) → IsAt pieces i p → IsElsewhere p k) → slice_get bytes k ≡ Some 0

-- they are those of the segment that the view shows, which has LENGTH bytes
pub record HasPieces (v : SegmentView) (pieces : List BytePiece) : Type 0 where
  pub are : ArePieces pieces (segment_bytes (segment_of_view v))
  pub sized : length (segment_bytes (segment_of_view v)) ≡ v.header.length
  pub short : v.header.length < 2 ^ 32

-- the bytes are those of the data from an offset on, as many as they are
abbrev pub IsNear : SegmentView → ℕ → List ℕ → Type 0
IsNear v at near = (n : ℕ) → n < length near → number_at 1 (at + n) (segment_bytes (segment_of_view v)) ≡ slice_index near n

-- ---- patches

-- a patch, as the format defines it
abbrev pub patch_of : Relocation → Patch
patch_of r = record { location = r.location; count = r.count; file = r.file; segment = r.segment; offset = r.offset; shift = r.shift }

-- n cells that a patch gives, each with its offset, from an offset and an index on
abbrev pub spread_from : Patch → ℕ → ℕ → ℕ → List (ℕ × Cell)
spread_from p at index zero = []
spread_from p at index (suc n) = (at, Part p.file p.segment p.offset p.shift index) ∷ spread_from p (at + 1) (index + 1) n

-- all cells of a patch
abbrev pub cells_of_patch : Patch → List (ℕ × Cell)
cells_of_patch p = spread_from p p.location 0 p.count

-- those of each patch, in order
abbrev pub spread_all : List Patch → List (ℕ × Cell)
spread_all [] = []
spread_all (p ∷ patches) = cells_of_patch p ++ spread_all patches

-- the last of these cells that is at an offset
abbrev pub last_at : List (ℕ × Cell) → ℕ → Option Cell
last_at [] k = None
last_at (found ∷ founds) k = option_or (last_at founds k) (if found.0 == k then Some found.1 else None)

-- how many bytes a patch of a SUPER of a type has
abbrev pub super_count : ℕ → ℕ
super_count form = if form == 1 || form == 2 then 3 else 2

-- the segment that it names at a location
abbrev pub super_segment : Segment → ℕ → ℕ → ℕ
super_segment s form at =
    if form == 0 || form == 1 then s.fields.seg_num
    else if form == 2 then number_at 1 (at + 2) (segment_bytes s)
    else if nat_le form 25 then form - 13 else form - 25

-- where a spot is
abbrev pub offset_of : PatchSpot → ℕ
offset_of s = s.at

-- where it ends
abbrev pub end_of : PatchSpot → ℕ
end_of s = s.at + (s.end - s.first)

-- the cell that its first byte gives
abbrev pub part_of : PatchSpot → Cell
part_of s = Part 1 s.segment s.offset s.shift s.first

-- the patch that has its bytes
abbrev pub spot_patch : PatchSpot → Patch
spot_patch s = record { location = s.at; count = s.end; file = 1; segment = s.segment; offset = s.offset; shift = s.shift }

-- the cells that it gives, each with its offset
abbrev pub spread_spot : PatchSpot → List (ℕ × Cell)
spread_spot s = spread_from (spot_patch s) s.at s.first (s.end - s.first)

-- those of each spot, in order
abbrev pub shown_spots : List PatchSpot → List (ℕ × Cell)
shown_spots [] = []
shown_spots (s ∷ spots) = spread_spot s ++ shown_spots spots

-- the cells lie below an offset
abbrev pub AreBelow : ℕ → List (ℕ × Cell) → Type 0
AreBelow size founds = AllByRecursion (λ found. found.0 < size) founds

-- each spot ends where a later one begins, or before it
abbrev pub AreApart : List PatchSpot → Type 0
AreApart spots = (i j : ℕ) (s t : PatchSpot) → i < j → slice_get spots i ≡ Some s → slice_get spots j ≡ Some t → end_of s ≤ t.at

-- no spot begins or ends before an earlier one does
pub record AreRising (spots : List PatchSpot) : Type 0 where
  pub starts : IsNonDecreasingBy offset_of spots
  pub ends : (i j : ℕ) (s t : PatchSpot) → i < j → slice_get spots i ≡ Some s → slice_get spots j ≡ Some t → end_of s ≤ end_of t

-- runs of the given numbers of spots, one after another; in each of them no spot begins or ends before an earlier one
abbrev pub AreRuns : List ℕ → List PatchSpot → Type 0
AreRuns [] spots = spots ≡ []
AreRuns (n ∷ runs) spots = (n ≤ length spots) × AreRising (take n spots) × AreRuns runs (drop n spots)

-- a spot of one byte
abbrev pub IsSingle : PatchSpot → Type 0
IsSingle s = s.end ≡ suc s.first

-- spots of one byte, which give these cells, were put after the old ones
pub record IsCut (old : List PatchSpot) (founds : List (ℕ × Cell)) (new : List PatchSpot) : Type 0 where
  pub shown' : shown_spots new ≡ shown_spots old ++ founds
  pub single : AllByRecursion IsSingle old → AllByRecursion IsSingle new

-- the spots are in runs, and at each offset the last cell is that of the patches
pub record AreSpots (patches : List Patch) (spots : List PatchSpot) (runs : List ℕ) : Type 0 where
  pub are : AreRuns runs spots
  pub last : (k : ℕ) → last_at (shown_spots spots) k ≡ last_at (spread_all patches) k

-- the bytes with those that the cells represent written over them, in order
abbrev pub with_cells : (ℕ → ℕ) → List (ℕ × Cell) → List ℕ → List ℕ
with_cells places [] bytes = bytes
with_cells places (found ∷ founds) bytes = with_cells places founds (slice_set bytes found.0 (byte_of places found.1))

-- ---- contents

-- what is kept of a segment that a view shows
pub record IsContent (v : SegmentView) (content : SegmentContent) : Type 0 where
  pub pieces : HasPieces v content.pieces.items
  pub spots : AreSpots (patch_list (segment_of_view v)) content.spots.items content.runs.items

-- each view has its content
abbrev pub AreContents : List SegmentView → List SegmentContent → Type 0
AreContents [] [] = Unit {0}
AreContents [] (content ∷ contents) = ⊥
AreContents (v ∷ views) [] = ⊥
AreContents (v ∷ views) (content ∷ contents) = IsContent v content × AreContents views contents
