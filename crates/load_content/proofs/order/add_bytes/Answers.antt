use mir.Val.{to_z, of_z}
use mir.Syntax.{w8}
use Rattle.std.proofs.lemmas.Int.{to_z-of_z}
use Rattle.std.proofs.Common.{◌≡◌, ℕ, ℤ, zero, suc, ◌+◌, ◌-◌, ◌%◌, ◌^◌, List, [], ◌∷◌, ◌++◌, refl, sym, ap, subst, ◌∙◌, arith, append_assoc}
use Rattle.std.specs.List.{AllByRecursion}
use Rattle.load_meaning.specs.Cells.{Part, Patch}
use Rattle.load_content.specs.declared.spots.PatchSpot.{PatchSpot}
use Rattle.load_content.specs.Content.{spot_patch, spread_from, spread_spot, shown_spots, AreBelow, IsSingle}
use Rattle.load_content.proofs.SpotLists.{spread_next, shown-push, shown-single, singles-push}
use Rattle.load_content.proofs.order.add_bytes.Goals as goal

-- what is left doesn't wrap around
unwrapped : (p : Patch) (at index n : ℕ) → AreBelow (2 ^ 32) (spread_from p (at + 1) index n) → spread_from p ((at + 1) % 2 ^ 32) index n ≡ spread_from p (at + 1) index n
unwrapped p at index zero below = refl
unwrapped p at index (suc n) below = let small : (at + 1) % 2 ^ 32 ≡ at + 1 = omega (arith, below.0) in ap (λ (m : ℕ). spread_from p m index (suc n)) small

pub bytes-preserved : goal.bytes-preserved
bytes-preserved c =
    let s = c.args.spot.now in
    let p = spot_patch s in
    let at = c.bytes.at in
    let index = c.bytes.index in
    let old = c.bytes.bytes.items in
    let left = s.end - index in
    let more = s.end - (index + 1) in
    let one : left ≡ suc more = omega (arith, c.bytes-test.true) in
    let cell = Part 1 s.segment s.offset s.shift index in
    let rest = spread_from p (at + 1) (index + 1) more in
    let next : spread_from p at index left ≡ (at, cell) ∷ rest = spread_next p at index left more one in
    let below : AreBelow (2 ^ 32) ((at, cell) ∷ rest) = subst (AreBelow (2 ^ 32)) next c.bytes.invariant.below in
    let same = unwrapped p at (index + 1) more below.1 in
    let shift : to_z w8 (of_z w8 s.shift) ≡ s.shift = grind (arith, to_z-of_z) in
    let new : PatchSpot = record { at = at; offset = s.offset; segment = s.segment; shift = to_z w8 (of_z w8 s.shift); first = index; end = index + 1 } in
    let single : new.end ≡ suc new.first = omega arith in
    let shown : spread_spot new ≡ (at, cell) ∷ [] = shown-single new single ∙ ap (λ (z : ℤ). (at, Part 1 s.segment s.offset z index) ∷ []) shift in
    record {
      below = subst (AreBelow (2 ^ 32)) (sym same) below.1;
      single = λ all. subst (λ (l : List PatchSpot). AllByRecursion IsSingle l) (sym c.in_ok-push.ensures.items) (singles-push old new (c.bytes.invariant.single all) single);
      whole =
          ap (λ l. shown_spots c.push.new.self.items ++ l) same
          ∙ ap (λ (l : List PatchSpot). shown_spots l ++ rest) c.in_ok-push.ensures.items
          ∙ ap (λ l. l ++ rest) (shown-push old new ∙ ap (λ l. shown_spots old ++ l) shown)
          ∙ append_assoc (shown_spots old) ((at, cell) ∷ []) rest
          ∙ ap (λ l. shown_spots old ++ l) (sym next)
          ∙ c.bytes.invariant.whole;
    }
