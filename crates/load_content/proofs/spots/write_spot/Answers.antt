use Rattle.std.proofs.Common.{◌≡◌, ℕ, ◌+◌, ◌-◌, ◌/◌, ◌%◌, ◌^◌, suc, List, ◌∷◌, length, sym, ap, subst, ◌∙◌, arith}
use Rattle.std.specs.Prelude.{slice_set}
use Rattle.std.proofs.Math.Nat.{pow-suc, div-div-eq-div-mul}
use Rattle.omf_format.specs.Value.{wrapped_to_32_bits, shifted_bits}
use Rattle.load_meaning.specs.Cells.{Cell, Part, byte_of}
use Rattle.load_content.specs.Content.{spot_patch, spread_from, AreBelow, with_cells}
use Rattle.load_content.specs.Places.{address_in}
use Rattle.load_content.proofs.SpotLists.{spread_next, length-slice_set}
use Rattle.load_content.proofs.spots.write_spot.Goals as goal

-- a number without one byte more
one_less : (n i : ℕ) → n / 256 ^ i / 256 ≡ n / 256 ^ (i + 1)
one_less n i =
    let step : suc i ≡ i + 1 = omega arith in
    div-div-eq-div-mul n (256 ^ i) 256 ∙ ap (λ (m : ℕ). n / m) (sym (pow-suc 256 i)) ∙ ap (λ (j : ℕ). n / 256 ^ j) step

pub bytes-preserved : goal.bytes-preserved
bytes-preserved c =
    let s = c.args.spot.now in
    let p = spot_patch s in
    let at = c.bytes.at in
    let index = c.bytes.index in
    let places = address_in c.args.places.now in
    let rest_of = s.end - index in
    let more = s.end - (index + 1) in
    let one : rest_of ≡ suc more = omega (arith, c.bytes-test.true) in
    let cell = Part 1 s.segment s.offset s.shift index in
    let rest = spread_from p (at + 1) (index + 1) more in
    let next : spread_from p at index rest_of ≡ (at, cell) ∷ rest = spread_next p at index rest_of more one in
    let below : AreBelow (length c.bytes.out) ((at, cell) ∷ rest) = subst (AreBelow (length c.bytes.out)) next c.bytes.invariant.below in
    let number = shifted_bits (wrapped_to_32_bits (places s.segment + s.offset)) s.shift in
    let byte : c.bytes.left % 256 ≡ byte_of places cell = ap (λ (n : ℕ). n % 256) c.bytes.invariant.left in
    record {
      at = omega (arith, c.bytes.invariant.at, c.bytes.invariant.from);
      from = omega (arith, c.bytes.invariant.from);
      left = ap (λ (n : ℕ). n / 256) c.bytes.invariant.left ∙ one_less number index;
      below = subst (λ (n : ℕ). AreBelow n rest) (sym (length-slice_set c.bytes.out at (c.bytes.left % 256))) below.1;
      whole =
          ap (λ (b : ℕ). with_cells places rest (slice_set c.bytes.out at b)) byte
          ∙ sym (ap (λ (l : List (ℕ × Cell)). with_cells places l c.bytes.out) next)
          ∙ c.bytes.invariant.whole;
    }
