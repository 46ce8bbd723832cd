use mir.Val.{to_z, of_z}
use mir.Syntax.{w8}
use Rattle.std.proofs.lemmas.Int.{to_z-of_z}
use Rattle.std.proofs.Common.{◌≡◌, ℕ, ℤ, ◌+◌, ◌-◌, ◌<◌, ◌≤◌, List, length, get_or, Some, None, sym, ap, subst, ◌∙◌, arith, inl, inr}
use Rattle.std.specs.Prelude.{slice_get, pos}
use Rattle.std.proofs.lemmas.Bool.{cases_lt}
use Rattle.load_meaning.specs.Cells.{Part}
use Rattle.load_content.specs.declared.spots.PatchSpot.{PatchSpot}
use Rattle.load_content.specs.Content.{IsSplit, AreRising, offset_of, shown_spots, last_at}
use Rattle.load_content.proofs.Splits.{get_there}
use Rattle.load_content.proofs.SpotLists.{each_place, none_over, last_over_it, Covers, cell_in}
use Rattle.load_content.proofs.spots.spot_in.Goals as goal

abbrev no_spot : PatchSpot
no_spot = record { at = 0; offset = 0; segment = 0; shift = pos 0; first = 0; end = 0 }

pub returns-then-count-eq0 : goal.returns-then-count-eq0
returns-then-count-eq0 c =
    sym (none_over c.args.spots.now c.args.at (each_place (λ s. Covers c.args.at s → ⊥) c.args.spots.now
    (λ i s is over. let following = c.count_up_to-count.ensures.split.following i s (omega (arith, c.if-count-eq0.true)) is in omega (arith, following, over.0))))

some_spot : (s t : PatchSpot) → Some s ≡ Some t → s ≡ t
some_spot s t e = cc

-- the last spot that begins at an offset or before it
module _ (spots : List PatchSpot) (at count : ℕ) (split : IsSplit offset_of spots at count) (bound : count ≤ length spots) (some : 0 < count) where
  abbrev pub last : PatchSpot
  last = get_or spots (count - 1) no_spot

  there : slice_get spots (count - 1) ≡ Some last
  there = get_there spots (count - 1) no_spot (omega (arith, bound, some))

  low : last.at ≤ at
  low = split.before (count - 1) last (omega (arith, some)) there

  none_after : (j : ℕ) (t : PatchSpot) → count - 1 < j → slice_get spots j ≡ Some t → Covers at t → ⊥
  none_after j t lt is over = let following = split.following j t (omega (arith, lt)) is in omega (arith, following, over.0)

  -- where it reaches the offset, it gives the cell there
  pub found_there : at - last.at < last.end - last.first → last_at (shown_spots spots) at ≡ Some (cell_in last at)
  found_there lt = last_over_it spots at (count - 1) last there (low, omega (arith, lt, low)) none_after

  -- and else none does
  pub none_there : last.end - last.first ≤ at - last.at → AreRising spots → last_at (shown_spots spots) at ≡ None
  none_there le rising = none_over spots at (each_place (λ s. Covers at s → ⊥) spots (λ i s is over. elim (cases_lt i (count - 1)) [
    | inl before ↦ let ends = rising.ends i (count - 1) s last before is there in omega (arith, ends, over.1, le, low)
    | inr following ↦ elim (cases_lt (count - 1) i) [
      | inl after ↦ none_after i s after is over
      | inr same ↦
          let here : i ≡ count - 1 = omega (arith, following, same) in
          let eq : s ≡ last = some_spot s last (sym is ∙ ap (slice_get spots) here ∙ there) in
          let over' : Covers at last = subst (Covers at) eq over in
          omega (arith, over'.1, le, low)
    ]
  ]))

pub overflow_add-result : goal.overflow_add-result
overflow_add-result c = omega (arith, c.if-passed-from.true, c.from.ensures, c.size_of.ensures.small)

pub returns-then-passed-from : goal.returns-then-passed-from
returns-then-passed-from c =
    let spots = c.args.spots.now in
    let count = c.count_up_to-count.result in
    let split = c.count_up_to-count.ensures.split in
    let bound = c.count_up_to-count.ensures.bound in
    let some : 0 < count = omega (arith, c.if-count-eq0.false) in
    let spot = last spots c.args.at count split bound some in
    let shift : to_z w8 (of_z w8 spot.shift) ≡ spot.shift = grind (arith, to_z-of_z) in
    ap (λ (z : ℤ). Some (Part 1 spot.segment spot.offset z (spot.first + (c.args.at - spot.at)))) shift
    ∙ sym (found_there spots c.args.at count split bound some (omega (arith, c.if-passed-from.true, c.from.ensures, c.size_of.ensures.value)))

pub returns-else-passed-from : goal.returns-else-passed-from
returns-else-passed-from c =
    let count = c.count_up_to-count.result in
    sym (none_there c.args.spots.now c.args.at count c.count_up_to-count.ensures.split c.count_up_to-count.ensures.bound (omega (arith, c.if-count-eq0.false))
    (omega (arith, c.if-passed-from.false, c.from.ensures, c.size_of.ensures.value)) c.requires)
