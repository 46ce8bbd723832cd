-- Patches that lie apart as the patches of a segment.
use Rattle.std.proofs.Common.{◌≡◌, ℕ, zero, suc, ◌+◌, ◌-◌, ◌<◌, List, [], ◌∷◌, ◌++◌, length, map, take, get_or, refl, sym, ap, subst, ◌∙◌, append_assoc, arith, inl, inr}
use Rattle.std.specs.Prelude.{slice_get}
use Rattle.std.specs.Option.{option_or}
use Rattle.std.specs.List.{AllByRecursion}
use Rattle.std.specs.List.Sorted.{IsPermutation}
use Rattle.std.proofs.lemmas.List.{length-map, map-append, take_more}
use Rattle.std.proofs.lemmas.List.Elements.{All-from_recursion, recursion_from_All}
use Rattle.std.proofs.lemmas.List.Sorted.{All-permutation, IsPermutation-sym}
use Rattle.omf_format.specs.File.{Segment}
use Rattle.load_meaning.specs.Cells.{Cell, Byte, Patch, parts_from, patched_cells, segment_bytes, cells}
use Rattle.load_meaning.specs.laws.LayingLaws.{Has, Fit, laid, same_list, same_laid, get-laid}
use Rattle.load_meaning.specs.laws.CellLaws.{patched-laid, length-segment_bytes}
use Rattle.omf_records.specs.Segments.{segment_of_view}
use Rattle.omf_records.specs.declared.segment.SegmentView.{SegmentView}
use Rattle.load_content.specs.declared.spots.PatchSpot.{PatchSpot}
use Rattle.load_content.specs.declared.targets.SegmentContent.{SegmentContent}
use Rattle.load_content.specs.Content.{spread_from, cells_of_patch, spread_all, spot_patch, spread_spot, shown_spots, last_at}
use Rattle.load_writer.specs.declared.written.Patch as code
use Rattle.load_writer.specs.WrittenParts.{seen}
use Rattle.omf_cells.specs.Load.{ShowsContent}
use Rattle.omf_cells.specs.Whole.{AreSpaced, AreWhole}
use Rattle.omf_cells.specs.SpacedLaws.{spaced_is, spaced_apart}
use Rattle.load_content.proofs.SpotLists.{shown-push, last_over-spread}
use Rattle.omf_cells.proofs.LoadShows.{cell_of}

-- ---- one patch for each spot

pub spread_push : (patches : List Patch) (p : Patch) → spread_all (patches ++ p ∷ []) ≡ spread_all patches ++ cells_of_patch p
spread_push [] p = nil-last (cells_of_patch p)
  where
    nil-last : (l : List (ℕ × Cell)) → l ++ [] ≡ l
    nil-last [] = refl
    nil-last (x ∷ l) = ap (λ m. x ∷ m) (nil-last l)
spread_push (q ∷ patches) p = ap (λ l. cells_of_patch q ++ l) (spread_push patches p) ∙ sym (append_assoc (cells_of_patch q) (spread_all patches) (cells_of_patch p))

pub spot_spread : (s : PatchSpot) → s.first ≡ 0 → cells_of_patch (spot_patch s) ≡ spread_spot s
spot_spread s none =
    let size : s.end ≡ s.end - s.first = omega (arith, none) in
    ap (λ (n : ℕ). spread_from (spot_patch s) s.at n s.end) (sym none) ∙ ap (spread_from (spot_patch s) s.at s.first) size

-- ---- the same patches in another order

has_seen : (patches : List code.Patch) → AllByRecursion (λ p. Has (map seen patches) (seen p)) patches
has_seen patches = each patches (λ p has. has)
  where
    each : (ps : List code.Patch) → ((p : code.Patch) → Has (map seen ps) (seen p) → Has (map seen patches) (seen p)) → AllByRecursion (λ p. Has (map seen patches) (seen p)) ps
    each [] into = tt
    each (p ∷ ps) into = (into p (inl refl), each ps (λ q has. into q (inr has)))

one_of : (P : Patch → Type 0) (patches : List code.Patch) (p : Patch) → AllByRecursion (λ q. P (seen q)) patches → Has (map seen patches) p → P p
one_of P [] p all has = absurd has
one_of P (q ∷ patches) p all has = elim has [
  | inl same ↦ subst P (sym same) all.0
  | inr more ↦ one_of P patches p all.1 more
]

pub has_moved : (xs ys : List code.Patch) (p : Patch) → IsPermutation xs ys → Has (map seen xs) p → Has (map seen ys) p
has_moved xs ys p permutation has =
    let P : code.Patch → Type 0 = λ q. Has (map seen ys) (seen q) in
    one_of (Has (map seen ys)) xs p (recursion_from_All P xs (All-permutation P ys xs (IsPermutation-sym xs ys permutation) (All-from_recursion P ys (has_seen ys)))) has

-- ---- over the data

length-parts : (p : Patch) (index n : ℕ) → length (parts_from p index n) ≡ n
length-parts p index zero = refl
length-parts p index (suc n) = ap suc (length-parts p (index + 1) n)

-- patches whose bytes are those of the spots, and that lie apart in another order
pub whole_there : (segments : List Segment) (number : ℕ) (v : SegmentView) (content : SegmentContent) (ps sorted : List code.Patch) → ShowsContent segments number v content
    → spread_all (map seen ps) ≡ shown_spots content.spots.items → IsPermutation ps sorted → AreSpaced v.header.length 0 (map seen sorted) → AreWhole (segment_of_view v) (map seen sorted)
whole_there segments number v content ps sorted is same permutation spaced = record { spaced = spaced; cells' = same_list (cells (segment_of_view v)) (patched_cells data' (map seen sorted)) at }
  where
    parts : Patch → List Cell
    parts p = parts_from p 0 p.count

    data' : List Cell
    data' = map Byte (segment_bytes (segment_of_view v))

    size : length data' ≡ v.header.length
    size = length-map (segment_bytes (segment_of_view v)) Byte ∙ length-segment_bytes (segment_of_view v) is.shows.sound.fits

    back : (p : Patch) → Has (map seen ps) p → Has (map seen sorted) p
    back p = has_moved ps sorted p permutation

    there : (p : Patch) → Has (map seen sorted) p → Has (map seen ps) p
    there p = has_moved sorted ps p (IsPermutation-sym ps sorted permutation)

    fit : Fit parts (length data') (map seen sorted)
    fit p has = let one = spaced_is v.header.length 0 (map seen sorted) p spaced has in (length-parts p 0 p.count, omega (arith, one.2, size))

    moved : laid parts data' (map seen sorted) ≡ laid parts data' (map seen ps)
    moved = same_laid parts (map seen sorted) (map seen ps) data' data' refl fit (spaced_apart v.header.length 0 (map seen sorted) spaced) there back (λ k none. refl)

    at : (k : ℕ) → slice_get (cells (segment_of_view v)) k ≡ slice_get (patched_cells data' (map seen sorted)) k
    at k =
        cell_of segments number (segment_of_view v) k is.shows.sound
        ∙ ap (λ o. option_or o (slice_get data' k)) (sym (is.content'.spots.last k) ∙ ap (λ l. last_at l k) (sym same))
        ∙ sym (last_over-spread (map seen ps) k (slice_get data' k))
        ∙ sym (get-laid parts (map seen ps) data' k (λ p has. fit p (back p has)))
        ∙ ap (λ (l : List Cell). slice_get l k) (sym moved ∙ sym (patched-laid (map seen sorted) data'))

-- ---- one spot more

pub whole_more : (spots : List PatchSpot) (patches new : List code.Patch) (i : ℕ) (d : PatchSpot) (p : code.Patch) → i < length spots → spread_all (map seen patches) ≡ shown_spots (take i spots) → new ≡ patches ++ p ∷ []
    → (get_or spots i d).first ≡ 0 → seen p ≡ spot_patch (get_or spots i d) → spread_all (map seen new) ≡ shown_spots (take (i + 1) spots)
whole_more spots patches new i d p lt so_far pushed first same =
    ap (λ (l : List code.Patch). spread_all (map seen l)) pushed ∙ ap spread_all (map-append seen patches (p ∷ []))
    ∙ spread_push (map seen patches) (seen p)
    ∙ ap (λ l. l ++ cells_of_patch (seen p)) so_far
    ∙ ap (λ (q : Patch). shown_spots (take i spots) ++ cells_of_patch q) same
    ∙ ap (λ l. shown_spots (take i spots) ++ l) (spot_spread (get_or spots i d) first)
    ∙ sym (shown-push (take i spots) (get_or spots i d))
    ∙ ap shown_spots (sym (take_more spots i d lt))
