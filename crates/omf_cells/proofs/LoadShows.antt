-- The segments of a load file by their numbers: cells, bytes in memory, and the table.
use Rattle.std.proofs.Common.{◌≡◌, ℕ, zero, suc, ◌+◌, ◌-◌, ◌^◌, ◌<◌, ◌≤◌, Bool, true, false, eqb, List, [], ◌∷◌, ◌++◌, length, map, replicate, All, Option, Some, None, inl, inr, refl, sym, ap, subst, ◌∙◌, arith}
use Rattle.std.specs.Prelude.{slice_get, slice_set, option_map, option_and_then, IsSomeAnd, IsTrue, if◌then◌else◌}
use Rattle.std.specs.List.{list_any}
use Rattle.std.specs.Option.{option_or, option_map_or}
use Rattle.std.proofs.lemmas.Bool.{cases_Bool, eqb-true, eqb-false}
use Rattle.std.proofs.lemmas.List.{length-map}
use Rattle.std.proofs.lemmas.List.Elements.{All-get_or}
use Rattle.std.proofs.lemmas.Option.{slice_get_within, slice_get_past, get_or_from_slice_get, slice_get-map}
use Rattle.omf_format.specs.Reading.{Reader, records_of}
use Rattle.omf_format.specs.File.{Segment, body_reader, segment_at}
use Rattle.omf_format.specs.laws.FileLaws.{segments_fit}
use Rattle.omf_format.specs.Body.{body_bytes}
use Rattle.load_meaning.specs.Cells.{Cell, Byte, Patch, parts_from, segment_bytes, patches_of, cells, cell_at, byte_of, stands}
use Rattle.load_meaning.specs.laws.CellLaws.{cells-bytes, length-segment_bytes, loadable_has, length-cells, patched-laid, fit_in}
use Rattle.load_meaning.specs.laws.LayingLaws.{same_list, get-laid}
use Rattle.load_meaning.specs.LoadTable.{table_of, entry_count, target_at, targets_of}
use Rattle.load_meaning.specs.laws.LoadTableLaws.{length-targets_from, get-targets_from}
use Rattle.load_meaning.specs.Loadable.{patch_list, IsSoundSegment}
use Rattle.omf_records.specs.declared.segment.SegmentView.{SegmentView}
use Rattle.omf_records.specs.Segments.{placed_view, segment_of_view}
use Rattle.load_content.specs.declared.targets.SegmentContent.{SegmentContent}
use Rattle.load_content.specs.Walk.{content, gives_patch}
use Rattle.load_content.specs.Content.{spread_all, last_at, shown_spots, AreBelow, with_cells}
use Rattle.load_content.specs.Places.{address_in, Stands}
use Rattle.load_content.specs.Views.{IsLoadView}
use Rattle.omf_cells.specs.Load.{AreLoadViews, Shows, ShowsContent, IsOutside, HasLength, HasPatches, HasBytes, table_targets}
use Rattle.load_content.proofs.PatchRuns.{has_some, has_none}
use Rattle.load_content.proofs.ShownBytes.{body_content, bytes-shown}
use Rattle.load_content.proofs.SpotLists.{last_over-spread, length-slice_set}
use Rattle.load_content.proofs.Contents.{contents_at, spots-below}

-- ---- the segments by their numbers

segment_at-some : (segments : List Segment) (number : ℕ) → 0 < number → segment_at segments number ≡ slice_get segments (number - 1)
segment_at-some segments zero more = absurd (omega arith)
segment_at-some segments (suc k) more = let same : k ≡ suc k - 1 = omega arith in ap (slice_get segments) same

load_view_at : (file : List ℕ) (views : List SegmentView) (k : ℕ) (v : SegmentView) → All (IsLoadView file) views → slice_get views k ≡ Some v → IsLoadView file v
load_view_at file views k v all is =
    subst (IsLoadView file) (get_or_from_slice_get views k v v is) (All-get_or (IsLoadView file) views k v (slice_get_within views k v is) all)

pub shows : (views : List SegmentView) (contents : List SegmentContent) (number : ℕ) (v : SegmentView) → AreLoadViews views contents → 0 < number → slice_get views (number - 1) ≡ Some v → Shows (map segment_of_view views) number v
shows views contents number v is more found =
    let here : segment_at (map segment_of_view views) number ≡ Some (segment_of_view v) =
    segment_at-some (map segment_of_view views) number more ∙ slice_get-map segment_of_view views (number - 1) ∙ ap (option_map segment_of_view) found in
    let view = load_view_at is.file views (number - 1) v is.each found in
    record {
      here = here;
      short = omega (arith, ap length view.file', is.short);
      view = subst (λ (f : List ℕ). IsLoadView f v) (sym view.file') view;
      sound = loadable_has is.file (map segment_of_view views) is.loadable number (segment_of_view v) here;
    }

-- a load file has fewer than 2 ^ 32 segments
pub few_views : (views : List SegmentView) (contents : List SegmentContent) → AreLoadViews views contents → length views < 2 ^ 32
few_views views contents is =
    omega (arith, segments_fit (map segment_of_view views) 0 is.file (length is.file) is.loadable.is_file, length-map views segment_of_view, is.short)

-- and there is room for one more number
pub few_more : (views : List SegmentView) (contents : List SegmentContent) → AreLoadViews views contents → length views + 1 < 2 ^ 32
few_more views contents is =
    omega (arith, segments_fit (map segment_of_view views) 0 is.file (length is.file) is.loadable.is_file, length-map views segment_of_view, is.short)

-- ---- cells

-- LENGTH has room for the bytes of its body
pub content_fits : (segments : List Segment) (number : ℕ) (v : SegmentView) (reader : Reader) → Shows segments number v → reader ≡ body_reader v.start (placed_view v).fields v.file.now → length (content reader) ≤ v.header.length
content_fits segments number v reader is at =
    let size : length (body_bytes (segment_of_view v)) ≡ length (content reader) = ap length (body_content (placed_view v) ∙ ap content (sym at)) in
    omega (arith, size, is.sound.fits)

-- what a cell of a segment is: that of the last patch over it, or the byte of the data there
pub cell_of : (segments : List Segment) (number : ℕ) (s : Segment) (k : ℕ) → IsSoundSegment segments number s → slice_get (cells s) k ≡ option_or (last_at (spread_all (patch_list s)) k) (slice_get (map Byte (segment_bytes s)) k)
unfolding cells
cell_of segments number s k sound =
    let size : length (map Byte (segment_bytes s)) ≡ s.fields.length = length-map (segment_bytes s) Byte ∙ length-segment_bytes s sound.fits in
    ap (λ (l : List Cell). slice_get l k) (patched-laid (patch_list s) (map Byte (segment_bytes s)))
    ∙ get-laid (λ p. parts_from p 0 p.count) (patch_list s) (map Byte (segment_bytes s)) k (fit_in segments s (length (map Byte (segment_bytes s))) (patch_list s) size sound.patches)
    ∙ last_over-spread (patch_list s) k (slice_get (map Byte (segment_bytes s)) k)

cell_at-shown : (segments : List Segment) (number k : ℕ) (v : SegmentView) → Shows segments number v → cell_at segments number k ≡ slice_get (cells (segment_of_view v)) k
cell_at-shown segments number k v is = ap (option_and_then (λ (s : Segment). slice_get (cells s) k)) is.here

-- past LENGTH there is none
pub cell_past : (segments : List Segment) (number k : ℕ) (v : SegmentView) → Shows segments number v → v.header.length ≤ k → cell_at segments number k ≡ None
cell_past segments number k v is past =
    cell_at-shown segments number k v is ∙ slice_get_past (cells (segment_of_view v)) k (omega (arith, length-cells segments number (segment_of_view v) is.sound))

-- a cell of a patch
pub cell_part : (segments : List Segment) (number k : ℕ) (v : SegmentView) (content : SegmentContent) (cell : Cell) → ShowsContent segments number v content → last_at (shown_spots content.spots.items) k ≡ Some cell → cell_at segments number k ≡ Some cell
cell_part segments number k v content cell is found =
    cell_at-shown segments number k v is.shows ∙ cell_of segments number (segment_of_view v) k is.shows.sound
    ∙ ap (λ o. option_or o (slice_get (map Byte (segment_bytes (segment_of_view v))) k)) (sym (is.content'.spots.last k) ∙ found)

-- a byte of the data
pub cell_byte : (segments : List Segment) (number k : ℕ) (v : SegmentView) (content : SegmentContent) (b : ℕ) → ShowsContent segments number v content → last_at (shown_spots content.spots.items) k ≡ None
    → slice_get (segment_bytes (segment_of_view v)) k ≡ Some b → cell_at segments number k ≡ Some (Byte b)
cell_byte segments number k v content b is none found =
    cell_at-shown segments number k v is.shows ∙ cell_of segments number (segment_of_view v) k is.shows.sound
    ∙ ap (λ o. option_or o (slice_get (map Byte (segment_bytes (segment_of_view v))) k)) (sym (is.content'.spots.last k) ∙ none)
    ∙ slice_get-map Byte (segment_bytes (segment_of_view v)) k ∙ ap (option_map Byte) found

-- ---- bytes in memory

-- what a cell that may be there gives, or else the byte
abbrev over_byte : (ℕ → ℕ) → Option Cell → Option ℕ → Option ℕ
over_byte places None o = o
over_byte places (Some cell) o = Some (byte_of places cell)

get-set_here : (bytes : List ℕ) (i x : ℕ) → i < length bytes → slice_get (slice_set bytes i x) i ≡ Some x
get-set_here [] i x lt = absurd (omega arith)
get-set_here (b ∷ bytes) zero x lt = refl
get-set_here (b ∷ bytes) (suc i) x lt = get-set_here bytes i x (omega arith)

get-set_else : (bytes : List ℕ) (i x k : ℕ) → (i ≡ k → ⊥) → slice_get (slice_set bytes i x) k ≡ slice_get bytes k
get-set_else [] i x k apart = refl
get-set_else (b ∷ bytes) zero x zero apart = absurd (apart refl)
get-set_else (b ∷ bytes) zero x (suc k) apart = refl
get-set_else (b ∷ bytes) (suc i) x zero apart = refl
get-set_else (b ∷ bytes) (suc i) x (suc k) apart = get-set_else bytes i x k (λ e. apart (ap suc e))

-- a cell written, and then the others over it
over_cell : (places : ℕ → ℕ) (found : ℕ × Cell) (bytes : List ℕ) (k : ℕ) (rest : Option Cell) → found.0 < length bytes
    → over_byte places rest (slice_get (slice_set bytes found.0 (byte_of places found.1)) k) ≡ over_byte places (option_or rest (if eqb found.0 k then Some found.1 else None)) (slice_get bytes k)
over_cell places found bytes k (Some cell) lt = refl
over_cell places found bytes k None lt = elim (cases_Bool (eqb found.0 k)) [
  | inl here ↦
      let same : k ≡ found.0 = sym (eqb-true found.0 k here) in
      ap (slice_get (slice_set bytes found.0 (byte_of places found.1))) same ∙ get-set_here bytes found.0 (byte_of places found.1) lt ∙ sym (rw here refl)
  | inr apart ↦ get-set_else bytes found.0 (byte_of places found.1) k (eqb-false found.0 k apart) ∙ sym (rw apart refl)
]

-- what is at an offset once the cells are written
get-with_cells : (places : ℕ → ℕ) (founds : List (ℕ × Cell)) (bytes : List ℕ) (k : ℕ) → AreBelow (length bytes) founds
    → slice_get (with_cells places founds bytes) k ≡ over_byte places (last_at founds k) (slice_get bytes k)
get-with_cells places [] bytes k below = refl
get-with_cells places (found ∷ founds) bytes k below =
    let next = slice_set bytes found.0 (byte_of places found.1) in
    let size : length next ≡ length bytes = length-slice_set bytes found.0 (byte_of places found.1) in
    get-with_cells places founds next k (subst (λ (n : ℕ). AreBelow n founds) (sym size) below.1)
    ∙ over_cell places found bytes k (last_at founds k) below.0

over_byte-map : (places : ℕ → ℕ) (o : Option Cell) (b : Option ℕ) → over_byte places o b ≡ option_map (byte_of places) (option_or o (option_map Byte b))
over_byte-map places None None = refl
over_byte-map places None (Some b) = refl
over_byte-map places (Some cell) b = refl

-- the spots lie below LENGTH
pub shown_below : (segments : List Segment) (number : ℕ) (v : SegmentView) (content : SegmentContent) → ShowsContent segments number v content → AreBelow v.header.length (shown_spots content.spots.items)
shown_below segments number v content is = spots-below segments (segment_of_view v) (patch_list (segment_of_view v)) content.spots.items content.runs.items is.shows.sound.patches is.content'.spots

-- the data with the spots over it are the bytes in memory
pub stands-spots : (segments : List Segment) (number : ℕ) (v : SegmentView) (content : SegmentContent) (places : ℕ → ℕ) (bytes out : List ℕ) → ShowsContent segments number v content
    → bytes ≡ segment_bytes (segment_of_view v) → out ≡ with_cells places (shown_spots content.spots.items) bytes → out ≡ stands places (segment_of_view v)
stands-spots segments number v content places bytes out is data_is out_is = same_list out (stands places (segment_of_view v)) at
  where
    size : length bytes ≡ v.header.length
    size = ap length data_is ∙ length-segment_bytes (segment_of_view v) is.shows.sound.fits

    at : (k : ℕ) → slice_get out k ≡ slice_get (stands places (segment_of_view v)) k
    at k =
        ap (λ (l : List ℕ). slice_get l k) out_is
        ∙ get-with_cells places (shown_spots content.spots.items) bytes k (subst (λ (n : ℕ). AreBelow n (shown_spots content.spots.items)) (sym size) (shown_below segments number v content is))
        ∙ over_byte-map places (last_at (shown_spots content.spots.items) k) (slice_get bytes k)
        ∙ ap (λ o. option_map (byte_of places) (option_or o (option_map Byte (slice_get bytes k)))) (is.content'.spots.last k)
        ∙ ap (λ o. option_map (byte_of places) (option_or (last_at (spread_all (patch_list (segment_of_view v))) k) o)) (ap (λ (l : List ℕ). option_map Byte (slice_get l k)) data_is ∙ sym (slice_get-map Byte (segment_bytes (segment_of_view v)) k))
        ∙ ap (option_map (byte_of places)) (sym (cell_of segments number (segment_of_view v) k is.shows.sound))
        ∙ sym (slice_get-map (byte_of places) (cells (segment_of_view v)) k)

pub stands-there : (segments : List Segment) (number : ℕ) (v : SegmentView) (places : List (Option ℕ)) (out : List ℕ) → Shows segments number v → out ≡ stands (address_in places) (segment_of_view v) → Stands segments number places out
stands-there segments number v places out is e = subst (λ (o : Option Segment). IsSomeAnd o (λ (s : Segment). out ≡ stands (address_in places) s)) (sym is.here) e

-- ---- a segment's bytes as a whole

pub has_length : (segments : List Segment) (number n : ℕ) (v : SegmentView) → HasLength segments number n → Shows segments number v → v.header.length ≡ n
has_length segments number n v has is = subst (λ (o : Option Segment). IsSomeAnd o (λ (s : Segment). s.fields.length ≡ n)) is.here has

no_items : (patches : List (ℕ × Patch)) → ((patches ≡ [] → ⊥) → ⊥) → patches ≡ []
no_items [] none = refl
no_items (p ∷ patches) none = absurd (none (λ e. cc))

unpatched_shown : (segments : List Segment) (number : ℕ) (v : SegmentView) → Shows segments number v → (HasPatches segments number → ⊥) → patches_of (segment_of_view v) ≡ []
unpatched_shown segments number v is none =
    no_items (patches_of (segment_of_view v)) (λ some. none (subst (λ (o : Option Segment). IsSomeAnd o (λ (s : Segment). patches_of s ≡ [] → ⊥)) (sym is.here) some))

pub has_bytes : (segments : List Segment) (number : ℕ) (v : SegmentView) (reader : Reader) (bytes : List ℕ) → Shows segments number v → (HasPatches segments number → ⊥) → reader ≡ body_reader v.start (placed_view v).fields v.file.now
    → bytes ≡ content reader ++ replicate (v.header.length - length (content reader)) 0 → HasBytes segments number bytes
has_bytes segments number v reader bytes is none of same =
    let all : cells (segment_of_view v) ≡ map Byte bytes = cells-bytes (segment_of_view v) (unpatched_shown segments number v is none) ∙ ap (map Byte) (bytes-shown v reader of ∙ sym same) in
    subst (λ (o : Option Segment). IsSomeAnd o (λ (s : Segment). cells s ≡ map Byte bytes)) (sym is.here) all

-- outside the numbers there is no segment
pub outside : (segments : List Segment) (number : ℕ) → IsOutside segments number → segment_at segments number ≡ None
outside segments zero is = refl
outside segments (suc k) (inl zero-is) = absurd (omega arith)
outside segments (suc k) (inr past) = slice_get_past segments k (omega arith)

pub no_length : (segments : List Segment) (number n : ℕ) → HasLength segments number n → IsOutside segments number → ⊥
no_length segments number n has is = subst (λ (o : Option Segment). IsSomeAnd o (λ (s : Segment). s.fields.length ≡ n)) (outside segments number is) has

-- ---- patches

-- the segment with this number has patches where a record of the view's body gives one
pub patches_shown : (segments : List Segment) (number : ℕ) (v : SegmentView) (reader : Reader) (any : Bool) → Shows segments number v → reader ≡ body_reader v.start (placed_view v).fields v.file.now
    → any ≡ list_any (λ found. gives_patch found.1) (records_of reader) → (IsTrue any → HasPatches segments number) × (HasPatches segments number → IsTrue any)
patches_shown segments number v reader any is at given = (
  λ yes. subst HasSome (sym is.here) (has_some (segment_of_view v) (sym whole ∙ yes)),
  λ has. by_any any whole (subst HasSome is.here has),
)
  where
    HasSome : Option Segment → Type 0
    HasSome o = IsSomeAnd o (λ s. patches_of s ≡ [] → ⊥)

    whole : any ≡ list_any (λ found. gives_patch found.1) (segment_of_view v).records
    whole = given ∙ ap (λ (r : Reader). list_any (λ found. gives_patch found.1) (records_of r)) at

    by_any : (b : Bool) → b ≡ list_any (λ found. gives_patch found.1) (segment_of_view v).records → (patches_of (segment_of_view v) ≡ [] → ⊥) → b ≡ true
    by_any true same some = refl
    by_any false same some = absurd (some (has_none (segment_of_view v) (sym same)))

pub nothing_patched : (segments : List Segment) (number : ℕ) → IsOutside segments number → HasPatches segments number → ⊥
nothing_patched segments number is has = subst (λ (o : Option Segment). IsSomeAnd o (λ (s : Segment). patches_of s ≡ [] → ⊥)) (outside segments number is) has

-- ---- the table

pub shows_content : (views : List SegmentView) (contents : List SegmentContent) (number : ℕ) (v : SegmentView) (content : SegmentContent) → AreLoadViews views contents → 0 < number
    → slice_get views (number - 1) ≡ Some v → slice_get contents (number - 1) ≡ Some content → ShowsContent (map segment_of_view views) number v content
shows_content views contents number v content is more here there = record {
  shows = shows views contents number v is more here;
  content' = contents_at views contents is.contents' (number - 1) v content here there;
}

pub targets-there : (segments : List Segment) (number : ℕ) (v : SegmentView) → table_of segments ≡ Some number → Shows segments number v → table_targets segments ≡ targets_of (segment_of_view v)
targets-there segments number v is shows =
    ap (λ o. option_map_or targets_of (option_and_then (segment_at segments) o) []) is ∙ ap (λ o. option_map_or targets_of o []) shows.here

pub targets-outside : (segments : List Segment) (number : ℕ) → table_of segments ≡ Some number → IsOutside segments number → table_targets segments ≡ []
targets-outside segments number is past =
    ap (λ o. option_map_or targets_of (option_and_then (segment_at segments) o) []) is ∙ ap (λ o. option_map_or targets_of o []) (outside segments number past)

pub length-targets_of : (s : Segment) → length (targets_of s) ≡ entry_count s.fields.length
unfolding targets_of
length-targets_of s = length-targets_from (segment_bytes s) 0 (entry_count s.fields.length)

pub get-targets_of : (s : Segment) (place : ℕ) → place < entry_count s.fields.length → slice_get (targets_of s) place ≡ Some (target_at (segment_bytes s) place)
unfolding targets_of
get-targets_of s place lt =
    let same : 0 + place ≡ place = omega arith in
    get-targets_from (segment_bytes s) 0 (entry_count s.fields.length) place lt ∙ ap (λ (n : ℕ). Some (target_at (segment_bytes s) n)) same
