-- Spots in runs.
use Rattle.std.proofs.Common.{◌≡◌, ℕ, suc, ◌+◌, ◌<◌, ◌≤◌, List, [], ◌∷◌, ◌++◌, length, take, drop, get_or, Option, Some, None, refl, sym, ap, subst, ◌∙◌, append_assoc, arith}
use Rattle.std.specs.Prelude.{slice_get, option_map}
use Rattle.std.specs.Option.{option_or}
use Rattle.std.proofs.Math.Seq.{drop-cons}
use Rattle.std.proofs.lemmas.List.{append-nil, length-take, length-drop, take_all, drop_all, take-append-drop}
use Rattle.load_meaning.specs.Cells.{Cell}
use Rattle.load_meaning.specs.laws.LayingLaws.{get-take}
use Rattle.load_content.specs.declared.spots.PatchSpot.{PatchSpot}
use Rattle.load_content.specs.Content.{end_of, part_of, shown_spots, last_at, AreRising, AreRuns}
use Rattle.load_content.proofs.Splits.{within}
use Rattle.load_content.proofs.SpotLists.{shown-append, last_at-append, or_assoc, apart_rise}

-- ---- making runs

-- the first `n` spots lie apart, so they rise
pub front_rises : (spots : List PatchSpot) (n : ℕ) → ((i j : ℕ) (s t : PatchSpot) → i < j → j < n → slice_get spots i ≡ Some s → slice_get spots j ≡ Some t → end_of s ≤ t.at) → AreRising (take n spots)
front_rises spots n apart = apart_rise (take n spots) (λ i j s t lt is there.
    let inside : j < n = omega (arith, within (take n spots) j t there, length-take n spots) in
    let before : i < n = omega (arith, lt, inside) in
    apart i j s t lt inside (sym (get-take n spots i before) ∙ is) (sym (get-take n spots j inside) ∙ there))

-- the runs so far, with any of the spots that are left, are runs of all
abbrev pub RunsSoFar : List PatchSpot → List ℕ → List PatchSpot → Type 0
RunsSoFar spots runs left = (more : List ℕ) → AreRuns more left → AreRuns (runs ++ more) spots

pub runs_more : (spots left : List PatchSpot) (runs : List ℕ) (n : ℕ) → RunsSoFar spots runs left → n ≤ length left → AreRising (take n left) → RunsSoFar spots (runs ++ n ∷ []) (drop n left)
runs_more spots left runs n so_far fits rise = λ more are. subst (λ (l : List ℕ). AreRuns l spots) (sym (append_assoc runs (n ∷ []) more)) (so_far (n ∷ more) (fits, rise, are))

no_spots : (spots : List PatchSpot) → length spots ≡ 0 → spots ≡ []
no_spots [] none = refl
no_spots (s ∷ spots) none = absurd (omega (arith, none))

pub runs_all : (spots left : List PatchSpot) (runs : List ℕ) → RunsSoFar spots runs left → length left ≡ 0 → AreRuns runs spots
runs_all spots left runs so_far none = subst (λ (l : List ℕ). AreRuns l spots) (append-nil runs) (so_far [] (no_spots left none))

-- spots that rise are one run
pub one_run : (spots : List PatchSpot) (n : ℕ) → n ≡ length spots → AreRising spots → AreRuns (n ∷ []) spots
one_run spots n is rise =
    let most : length spots ≤ n = omega (arith, is) in
    (omega (arith, is), subst AreRising (sym (take_all n spots most)) rise, drop_all n spots most)

-- ---- going over runs

-- the next run, and then the others
pub next_run : (runs : List ℕ) (i : ℕ) (left : List PatchSpot) → i < length runs → AreRuns (drop i runs) left
    → (get_or runs i 0 ≤ length left) × AreRising (take (get_or runs i 0) left) × AreRuns (drop (i + 1) runs) (drop (get_or runs i 0) left)
next_run runs i left lt are =
    let step : suc i ≡ i + 1 = omega arith in
    let next : drop i runs ≡ get_or runs i 0 ∷ drop (i + 1) runs = drop-cons runs i 0 lt ∙ ap (λ (n : ℕ). get_or runs i 0 ∷ drop n runs) step in
    subst (λ (l : List ℕ). AreRuns l left) next are

no_runs : (runs : List ℕ) (left : List PatchSpot) → length runs ≡ 0 → AreRuns runs left → left ≡ []
no_runs [] left none are = are
no_runs (n ∷ runs) left none are = absurd (omega (arith, none))

-- after the last run there are no spots
pub last_run : (runs : List ℕ) (i : ℕ) (left : List PatchSpot) → length runs ≤ i → AreRuns (drop i runs) left → left ≡ []
last_run runs i left past are = no_runs (drop i runs) left (omega (arith, length-drop i runs, past)) are

or_parts : (here found : Option PatchSpot) → option_map part_of (option_or here found) ≡ option_or (option_map part_of here) (option_map part_of found)
or_parts None found = refl
or_parts (Some s) found = refl

-- what is found in a run goes before what was found in those before it
pub run_passed : (left : List PatchSpot) (n at : ℕ) (found here : Option PatchSpot) → option_map part_of here ≡ last_at (shown_spots (take n left)) at
    → option_or (last_at (shown_spots (drop n left)) at) (option_map part_of (option_or here found)) ≡ option_or (last_at (shown_spots left) at) (option_map part_of found)
run_passed left n at found here is =
    let front = last_at (shown_spots (take n left)) at in
    let back = last_at (shown_spots (drop n left)) at in
    let before = option_map part_of found in
    ap (λ (o : Option Cell). option_or back o) (or_parts here found ∙ ap (λ (o : Option Cell). option_or o before) is)
    ∙ sym (or_assoc back front before)
    ∙ ap (λ (o : Option Cell). option_or o before) (sym (last_at-append (shown_spots (take n left)) (shown_spots (drop n left)) at))
    ∙ ap (λ l. option_or (last_at l at) before) (sym (shown-append (take n left) (drop n left)))
    ∙ ap (λ (l : List PatchSpot). option_or (last_at (shown_spots l) at) before) (take-append-drop n left)
