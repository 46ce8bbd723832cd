-- Cells between patches: where no spot begins, none is over a cell that isn't over the one before.
use Rattle.std.proofs.Common.{◌≡◌, ℕ, zero, suc, ◌+◌, ◌-◌, ◌<◌, ◌≤◌, Bool, true, false, List, [], ◌∷◌, ◌++◌, length, take, drop, get_or, eqb, cond, Option, Some, None, refl, sym, ap, subst, ◌∙◌, arith, inl, inr}
use Rattle.std.specs.Prelude.{slice_get, option_and_then}
use Rattle.std.specs.List.{AllByRecursion}
use Rattle.std.specs.List.Sorted.{IsNonDecreasingBy}
use Rattle.std.specs.Option.{option_or}
use Rattle.std.proofs.lemmas.Bool.{cases_lt}
use Rattle.omf_format.specs.File.{Segment}
use Rattle.load_meaning.specs.Cells.{Cell, Byte, Part, segment_bytes, cells, cell_at}
use Rattle.load_meaning.specs.Cells as format
use Rattle.omf_records.specs.declared.segment.SegmentView.{SegmentView}
use Rattle.omf_records.specs.Segments.{segment_of_view}
use Rattle.load_content.specs.declared.spots.PatchSpot.{PatchSpot}
use Rattle.load_content.specs.declared.targets.SegmentContent.{SegmentContent}
use Rattle.load_content.specs.Content.{IsSplit, offset_of, spot_patch, spread_from, spread_spot, shown_spots, last_at}
use Rattle.load_content.proofs.Splits.{within, get_there, in_order}
use Rattle.load_content.proofs.SpotLists.{last_at-append, Covers, cell_in, spot_here, none_over, each_place}
use Rattle.omf_cells.specs.Load.{IsOutside, ShowsContent}
use Rattle.omf_cells.proofs.LoadShows.{cell_past, cell_part, cell_byte, outside}
use Rattle.omf_compact.specs.laws.Walk.{IsNoPart, AreNoParts, NoneBegins}
use Rattle.omf_compact.proofs.PartWalks.{Walked, walked_over}

-- ---- where spots begin

-- the first item after those up to an offset is the first that begins after it
pub none_before : (spots : List PatchSpot) (low place : ℕ) (s : PatchSpot) → IsNonDecreasingBy offset_of spots → IsSplit offset_of spots low place → slice_get spots place ≡ Some s → NoneBegins low s.at spots
none_before spots low place s rise split there = each_place (λ t. low < t.at → s.at ≤ t.at) spots (λ i t is lt. elim (cases_lt i place) [
  | inl before ↦ let most = split.before i t before is in absurd (omega (arith, most, lt))
  | inr following ↦ in_order offset_of spots place i s t rise following there is
])

-- where there is none, none begins after it
pub none_later : (spots : List PatchSpot) (low high place : ℕ) → IsSplit offset_of spots low place → length spots ≤ place → NoneBegins low high spots
none_later spots low high place split all = each_place (λ t. low < t.at → high ≤ t.at) spots (λ i t is lt.
    let most = split.before i t (omega (arith, within spots i t is, all)) is in absurd (omega (arith, most, lt)))

pub none_lower : (low high less : ℕ) (spots : List PatchSpot) → less ≤ high → NoneBegins low high spots → NoneBegins low less spots
none_lower low high less [] le none = tt
none_lower low high less (s ∷ spots) le none = ((λ lt. let most = none.0 lt in omega (arith, le, most)), none_lower low high less spots le none.1)

pub none_joined : (n low high : ℕ) (spots : List PatchSpot) → NoneBegins low high (take n spots) → NoneBegins low high (drop n spots) → NoneBegins low high spots
none_joined zero low high spots front back = back
none_joined (suc n) low high [] front back = tt
none_joined (suc n) low high (s ∷ spots) front back = (front.0, none_joined n low high spots front.1 back)

-- ---- what covers an offset

none_of_both : (a b : Option Cell) → option_or a b ≡ None → (a ≡ None) × (b ≡ None)
none_of_both None b none = (refl, none)
none_of_both (Some c) b none = absurd cc

some_none : (c : Cell) (o : Option Cell) → o ≡ Some c → o ≡ None → ⊥
some_none c o some none = cc

-- where nothing is found, no spot covers the offset
uncovered : (spots : List PatchSpot) (k : ℕ) → last_at (shown_spots spots) k ≡ None → AllByRecursion (λ s. Covers k s → ⊥) spots
uncovered [] k none = tt
uncovered (s ∷ spots) k none =
    let both = none_of_both (last_at (shown_spots spots) k) (last_at (spread_spot s) k) (sym (last_at-append (spread_spot s) (shown_spots spots) k) ∙ none) in
    ((λ over. some_none (cell_in s k) (last_at (spread_spot s) k) (spot_here s k over) both.1), uncovered spots k both.0)

-- a spot that covers a later offset begins in between, or covers the earlier one
uncovered_later : (low high k : ℕ) (spots : List PatchSpot) → low ≤ k → k < high → NoneBegins low high spots → AllByRecursion (λ s. Covers low s → ⊥) spots → AllByRecursion (λ s. Covers k s → ⊥) spots
uncovered_later low high k [] le lt none before = tt
uncovered_later low high k (s ∷ spots) le lt none before = (
  (λ over. elim (cases_lt low s.at) [
    | inl after ↦ let most = none.0 after in omega (arith, most, lt, over.0)
    | inr begun ↦ before.0 (begun, omega (arith, le, over.1))
  ]),
  uncovered_later low high k spots le lt none.1 before.1,
)

none_between : (low high k : ℕ) (spots : List PatchSpot) → low ≤ k → k < high → NoneBegins low high spots → last_at (shown_spots spots) low ≡ None → last_at (shown_spots spots) k ≡ None
none_between low high k spots le lt none before = none_over spots k (uncovered_later low high k spots le lt none (uncovered spots low before))

-- ---- cells

-- what spots give is no byte
abbrev IsOfPlace : Cell → Type 0
IsOfPlace (Byte b) = ⊥
IsOfPlace (Part file segment offset shift index) = Unit {0}

spread_places : (p : format.Patch) (at index n : ℕ) → AllByRecursion (λ found. IsOfPlace found.1) (spread_from p at index n)
spread_places p at index zero = tt
spread_places p at index (suc n) = (tt, spread_places p (at + 1) (index + 1) n)

all_joined : (xs ys : List (ℕ × Cell)) → AllByRecursion (λ found. IsOfPlace found.1) xs → AllByRecursion (λ found. IsOfPlace found.1) ys → AllByRecursion (λ found. IsOfPlace found.1) (xs ++ ys)
all_joined [] ys front back = back
all_joined (x ∷ xs) ys front back = (front.0, all_joined xs ys front.1 back)

shown_places : (spots : List PatchSpot) → AllByRecursion (λ found. IsOfPlace found.1) (shown_spots spots)
shown_places [] = tt
shown_places (s ∷ spots) = all_joined (spread_spot s) (shown_spots spots) (spread_places (spot_patch s) s.at s.first (s.end - s.first)) (shown_places spots)

last_place : (founds : List (ℕ × Cell)) (k : ℕ) (c : Cell) → AllByRecursion (λ found. IsOfPlace found.1) founds → last_at founds k ≡ Some c → IsOfPlace c
last_place [] k c all is = absurd cc
last_place (found ∷ founds) k c all is = by_rest (last_at founds k) refl is (last_place founds k c all.1)
  where
    one_is : (d : Cell) → Some d ≡ Some c → d ≡ c
    one_is d e = cc

    by_here : (b : Bool) → (cond b (Some found.1) None) ≡ Some c → IsOfPlace c
    by_here true e = subst IsOfPlace (one_is found.1 e) all.0
    by_here false e = absurd cc

    by_rest : (o : Option Cell) → last_at founds k ≡ o → option_or o (cond (eqb found.0 k) (Some found.1) None) ≡ Some c → (last_at founds k ≡ Some c → IsOfPlace c) → IsOfPlace c
    by_rest None e here again = by_here (eqb found.0 k) here
    by_rest (Some d) e here again = again (e ∙ here)

-- where no part is, no spot gives one
found_nothing : (segments : List Segment) (number k : ℕ) (v : SegmentView) (content : SegmentContent) → ShowsContent segments number v content → IsNoPart (cell_at segments number k)
    → last_at (shown_spots content.spots.items) k ≡ None
found_nothing segments number k v content is none = by_found (last_at (shown_spots content.spots.items) k) refl
  where
    clash : (c : Cell) → IsOfPlace c → IsNoPart (Some c) → ⊥
    clash (Byte b) place none = place
    clash (Part f s o sh i) place none = none

    by_found : (o : Option Cell) → last_at (shown_spots content.spots.items) k ≡ o → last_at (shown_spots content.spots.items) k ≡ None
    by_found None e = e
    by_found (Some c) e = absurd (clash c (last_place (shown_spots content.spots.items) k c (shown_places content.spots.items) e) (subst IsNoPart (cell_part segments number k v content c is e) none))

-- after a cell that is no part there is none before the next spot begins
pub gap_passed : (segments : List Segment) (number low high : ℕ) (v : SegmentView) (content : SegmentContent) → ShowsContent segments number v content → IsNoPart (cell_at segments number low)
    → NoneBegins low high content.spots.items → AreNoParts segments number low high
gap_passed segments number low high v content is none begins = λ k le lt. elim (cases_lt k v.header.length) [
  | inl inside ↦
      let bytes = segment_bytes (segment_of_view v) in
      let there = get_there bytes k 0 (omega (arith, inside, is.content'.pieces.sized)) in
      let nothing = none_between low high k content.spots.items le lt begins (found_nothing segments number low v content is none) in
      subst IsNoPart (sym (cell_byte segments number k v content (get_or bytes k 0) is nothing there)) tt
  | inr past ↦ subst IsNoPart (sym (cell_past segments number k v is.shows past)) tt
]

-- and a segment that isn't there has none
pub no_gap : (segments : List Segment) (number low high : ℕ) → IsOutside segments number → AreNoParts segments number low high
no_gap segments number low high past = λ k le lt. subst IsNoPart (sym (ap (option_and_then (λ (s : Segment). slice_get (cells s) k)) (outside segments number past))) tt

pub next_alone : (segments : List Segment) (number low : ℕ) → IsNoPart (cell_at segments number low) → AreNoParts segments number low (low + 1)
next_alone segments number low none = λ k le lt. let same : low ≡ k = omega (arith, le, lt) in subst (λ (n : ℕ). IsNoPart (cell_at segments number n)) same none

-- ---- a walk

walked_by : (segments : List Segment) (number n at : ℕ) (patches : List format.Patch) → Walked segments number at patches → AreNoParts segments number at (at + n) → Walked segments number (at + n) patches
walked_by segments number zero at patches walked none = let same : at ≡ at + 0 = omega arith in subst (λ (k : ℕ). Walked segments number k patches) same walked
walked_by segments number (suc n) at patches walked none =
    let same : at + 1 + n ≡ at + suc n = omega arith in
    subst (λ (k : ℕ). Walked segments number k patches) same
    (walked_by segments number n (at + 1) patches (walked_over segments number at patches walked (none at (omega arith) (omega arith))) (λ k le lt. none k (omega (arith, le)) (omega (arith, lt))))

-- a gap adds nothing
pub walked_gap : (segments : List Segment) (number at next : ℕ) (patches : List format.Patch) → at ≤ next → Walked segments number at patches → AreNoParts segments number at next → Walked segments number next patches
walked_gap segments number at next patches le walked none =
    let same : at + (next - at) ≡ next = omega (arith, le) in
    subst (λ (k : ℕ). Walked segments number k patches) same
    (walked_by segments number (next - at) at patches walked (λ k low lt. none k low (omega (arith, lt, le))))
