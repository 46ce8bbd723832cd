-- What is kept of the segments beside their headers.
use Rattle.std.proofs.Common.{◌≡◌, ℕ, zero, suc, ◌+◌, ◌<◌, ◌≤◌, false, eqb, List, [], ◌∷◌, ◌++◌, length, map, take, drop, get_or, Option, Some, None, refl, sym, ap, subst, ◌∙◌, arith, inl, inr}
use Rattle.std.specs.Prelude.{slice_get, option_map, if◌then◌else◌}
use Rattle.std.specs.List.{flat_map, AllByRecursion}
use Rattle.std.specs.Option.{option_or}
use Rattle.std.proofs.lemmas.Bool.{cases_Bool, eqb-true, eq-eqb}
use Rattle.std.proofs.lemmas.List.Concat.{flat_map-cons}
use Rattle.load_meaning.specs.declared.load.LoadFault.{LoadFault}
use Rattle.omf_format.specs.Record.{Record}
use Rattle.omf_format.specs.File.{Segment}
use Rattle.load_meaning.specs.Cells.{Cell, Patch, patches_in, patches_of}
use Rattle.load_meaning.specs.Loadable.{Fault, first_in, target_fault, patch_list, IsPatch}
use Rattle.load_meaning.specs.laws.Steps.{in_segment}
use Rattle.load_meaning.specs.laws.CellLaws.{patches-cons, sound_patches}
use Rattle.omf_records.specs.declared.segment.SegmentView.{SegmentView}
use Rattle.omf_records.specs.Segments.{segment_of_view}
use Rattle.load_content.specs.declared.spots.PatchSpot.{PatchSpot}
use Rattle.load_content.specs.declared.targets.SegmentContent.{SegmentContent}
use Rattle.load_content.specs.Walk.{patches_from}
use Rattle.load_content.specs.Content.{spread_from, cells_of_patch, spread_all, last_at, shown_spots, AreBelow, AreRuns, AreSpots, IsContent, AreContents}
use Rattle.load_content.proofs.LoadViews.{found_from, found_from-next, Passed}

-- ---- the patches of a segment

list_from : (s : Segment) (founds : List (ℕ × Record)) → map (λ (f : ℕ × Patch). f.1) (flat_map (λ (found : ℕ × Record). map (λ (p : Patch). (found.0, p)) (patches_in s found.1)) founds) ≡ patches_from s founds
list_from s [] = refl
list_from s (found ∷ founds) =
    patches-cons s found founds
    ∙ ap (λ l. patches_in s found.1 ++ l) (list_from s founds)
    ∙ sym (flat_map-cons (λ (f : ℕ × Record). patches_in s f.1) found founds)

pub patch_list-from : (s : Segment) → patch_list s ≡ patches_from s s.records
unfolding patches_of
patch_list-from s = list_from s s.records

-- ---- spots

spread-below : (p : Patch) (size n at index : ℕ) → at + n ≤ size → AreBelow size (spread_from p at index n)
spread-below p size zero at index le = tt
spread-below p size (suc n) at index le = (omega (arith, le), spread-below p size n (at + 1) (index + 1) (omega (arith, le)))

both-below : (size : ℕ) (xs ys : List (ℕ × Cell)) → AreBelow size xs → AreBelow size ys → AreBelow size (xs ++ ys)
both-below size [] ys x y = y
both-below size (found ∷ xs) ys x y = (x.0, both-below size xs ys x.1 y)

pub parts-below : (size : ℕ) (xs ys : List (ℕ × Cell)) → AreBelow size (xs ++ ys) → AreBelow size xs × AreBelow size ys
parts-below size [] ys all = (tt, all)
parts-below size (found ∷ xs) ys all = let rest = parts-below size xs ys all.1 in ((all.0, rest.0), rest.1)

pub all-below : (segments : List Segment) (s : Segment) (patches : List Patch) → AllByRecursion (IsPatch segments s) patches → AreBelow s.fields.length (spread_all patches)
all-below segments s [] sound = tt
all-below segments s (p ∷ patches) sound =
    both-below s.fields.length (cells_of_patch p) (spread_all patches) (spread-below p s.fields.length p.count p.location 0 sound.0.inside) (all-below segments s patches sound.1)

more-below : (size more : ℕ) (founds : List (ℕ × Cell)) → size ≤ more → AreBelow size founds → AreBelow more founds
more-below size more [] le all = tt
more-below size more (found ∷ founds) le all = (omega (arith, le, all.0), more-below size more founds le all.1)

-- what a segment's patches give lies below LENGTH
pub patches-below : (segments : List Segment) (number most : ℕ) (s : Segment) (spots : List PatchSpot) → target_fault segments number s ≡ None → s.fields.length ≤ most
    → shown_spots spots ≡ spread_all (patches_from s s.records) → AreBelow most (shown_spots spots)
patches-below segments number most s spots none le is =
    let all : shown_spots spots ≡ spread_all (patch_list s) = is ∙ ap spread_all (sym (patch_list-from s)) in
    more-below s.fields.length most (shown_spots spots) le (subst (AreBelow s.fields.length) (sym all) (all-below segments s (patch_list s) (sound_patches segments number s none)))

-- the spots of a segment's patches in runs
pub ordered_spots : (s : Segment) (spots sorted : List PatchSpot) (runs : List ℕ) → shown_spots spots ≡ spread_all (patches_from s s.records) → AreRuns runs sorted
    → ((k : ℕ) → last_at (shown_spots sorted) k ≡ last_at (shown_spots spots) k) → AreSpots (patch_list s) sorted runs
ordered_spots s spots sorted runs is are last =
    let all : shown_spots spots ≡ spread_all (patch_list s) = is ∙ ap spread_all (sym (patch_list-from s)) in
    record { are = are; last = λ k. last k ∙ ap (λ l. last_at l k) all }

-- ---- cells by what is at an offset

nothing : (found : ℕ × Cell) (k : ℕ) (cell : Cell) → eqb found.0 k ≡ false → (if eqb found.0 k then Some found.1 else None) ≡ Some cell → ⊥
nothing found k cell apart e = let none : (if eqb found.0 k then Some found.1 else None) ≡ None = rw apart refl in absurd cc

pub below_at : (size : ℕ) (founds : List (ℕ × Cell)) (k : ℕ) (cell : Cell) → AreBelow size founds → last_at founds k ≡ Some cell → k < size
below_at size [] k cell all is = absurd cc
below_at size (found ∷ founds) k cell all is = by_rest (last_at founds k) (λ other e. below_at size founds k other all.1 e) is
  where
    by_rest : (o : Option Cell) → ((other : Cell) → o ≡ Some other → k < size) → option_or o (if eqb found.0 k then Some found.1 else None) ≡ Some cell → k < size
    by_rest (Some other) rest e = rest other refl
    by_rest None rest e = elim (cases_Bool (eqb found.0 k)) [
      | inl here ↦ omega (arith, eqb-true found.0 k here, all.0)
      | inr apart ↦ absurd (nothing found k cell apart e)
    ]

some_here : (found : ℕ × Cell) (founds : List (ℕ × Cell)) → (cell : Cell) × (last_at (found ∷ founds) found.0 ≡ Some cell)
some_here found founds = by_rest (last_at founds found.0)
  where
    by_rest : (o : Option Cell) → (cell : Cell) × (option_or o (if eqb found.0 found.0 then Some found.1 else None) ≡ Some cell)
    by_rest (Some other) = (other, refl)
    by_rest None = (found.1, rw (eq-eqb found.0 found.0 refl) refl)

-- cells that lie below an offset, by the cell at each offset
pub below_by_last : (size : ℕ) (founds : List (ℕ × Cell)) → ((k : ℕ) (cell : Cell) → last_at founds k ≡ Some cell → k < size) → AreBelow size founds
below_by_last size [] below = tt
below_by_last size (found ∷ founds) below =
    let here = some_here found founds in (
      below found.0 here.0 here.1,
      below_by_last size founds (λ k cell is. below k cell (ap (λ o. option_or o (if eqb found.0 k then Some found.1 else None)) is)),
    )

pub spots-below : (segments : List Segment) (s : Segment) (patches : List Patch) (spots : List PatchSpot) (runs : List ℕ) → AllByRecursion (IsPatch segments s) patches → AreSpots patches spots runs
    → AreBelow s.fields.length (shown_spots spots)
spots-below segments s patches spots runs sound are =
    below_by_last s.fields.length (shown_spots spots) (λ k cell is. below_at s.fields.length (spread_all patches) k cell (all-below segments s patches sound) (sym (are.last k) ∙ is))

-- ---- contents

pub contents_push : (views : List SegmentView) (contents : List SegmentContent) (v : SegmentView) (content : SegmentContent) → AreContents views contents → IsContent v content → AreContents (views ++ v ∷ []) (contents ++ content ∷ [])
contents_push [] [] v content are is = (is, tt)
contents_push [] (c ∷ contents) v content are is = absurd are
contents_push (w ∷ views) [] v content are is = absurd are
contents_push (w ∷ views) (c ∷ contents) v content are is = (are.0, contents_push views contents v content are.1 is)

pub take_more : (views : List SegmentView) (i : ℕ) (v : SegmentView) → i < length views → v ≡ get_or views i v → take (i + 1) views ≡ take i views ++ v ∷ []
take_more [] i v lt is = absurd (omega arith)
take_more (w ∷ views) zero v lt is = ap (λ (x : SegmentView). x ∷ []) (sym is)
take_more (w ∷ views) (suc i) v lt is =
    let step : suc i + 1 ≡ suc (i + 1) = omega arith in
    ap (λ (n : ℕ). take n (w ∷ views)) step ∙ ap (λ l. w ∷ l) (take_more views i v (omega arith) is)

pub contents_at : (views : List SegmentView) (contents : List SegmentContent) → AreContents views contents → (k : ℕ) (v : SegmentView) (c : SegmentContent) → slice_get views k ≡ Some v → slice_get contents k ≡ Some c → IsContent v c
contents_at [] contents are k v c at at' = absurd cc
contents_at (w ∷ views) [] are k v c at at' = absurd cc
contents_at (w ∷ views) (d ∷ contents) are zero v c at at' =
    let one : w ≡ v = view_same w v at in
    let two : d ≡ c = content_same d c at' in
    subst (IsContent v) two (subst (λ (x : SegmentView). IsContent x d) one are.0)
  where
    view_same : (a b : SegmentView) → Some a ≡ Some b → a ≡ b
    view_same a b e = cc

    content_same : (a b : SegmentContent) → Some a ≡ Some b → a ≡ b
    content_same a b e = cc
contents_at (w ∷ views) (d ∷ contents) are (suc k) v c at at' = contents_at views contents are.1 k v c at at'

pub contents_count : (views : List SegmentView) (contents : List SegmentContent) → AreContents views contents → length contents ≡ length views
contents_count [] [] are = refl
contents_count [] (c ∷ contents) are = absurd are
contents_count (v ∷ views) [] are = absurd are
contents_count (v ∷ views) (c ∷ contents) are = ap suc (contents_count views contents are.1)

-- ---- phases

none_first : (o : Option Fault) (rest : Option LoadFault) (number : ℕ) → option_or (option_map (in_segment number) o) rest ≡ None → o ≡ None
none_first None rest number e = refl
none_first (Some fault) rest number e = absurd cc

pub no_fault : (number : ℕ) (o : Option Fault) → option_map (in_segment number) o ≡ None → o ≡ None
no_fault number None e = refl
no_fault number (Some fault) e = absurd cc

-- where a phase finds nothing, it finds nothing in a view on the way
pub none_here : (phase : ℕ → Segment → Option Fault) (views : List SegmentView) (i number : ℕ) (v : SegmentView) → Passed phase views i number → first_in phase 1 (map segment_of_view views) ≡ None → i < length views → v ≡ get_or views i v
    → phase number (segment_of_view v) ≡ None
none_here phase views i number v p none lt is =
    none_first (phase number (segment_of_view v)) (found_from phase (number + 1) (drop (suc i) views)) number
    (sym (found_from-next phase views i number v (option_map (in_segment number) (phase number (segment_of_view v))) lt is refl) ∙ sym p.so_far ∙ none)
