-- The offset of a member is settled: it is the least multiple of its alignment at or after the end of the members before it.
use Rattle.std.proofs.Common.{◌≡◌, ℕ, zero, suc, ◌+◌, ◌-◌, ◌*◌, ◌/◌, ◌%◌, ◌<◌, ◌≤◌, refl, sym, ap, ◌∙◌, arith}
use Rattle.std.specs.Prelude.{take}
use Rattle.std.specs.Int.{next_multiple_of}
use Rattle.std.proofs.lemmas.Nat.{mul-le, div-add-mod', mod_below}
use Rattle.std.proofs.Math.Nat.{lt_of_mul-lt-mul_right, mul-mod_left, mod_self, mod-eq_of_lt}
use Rattle.omf_format.specs.Header.{alignment_of}
use Rattle.link_meaning.specs.Layout.{IsOffsetAfter, end_from, offset_of, OffsetIsLeast, OneOffset}
use Rattle.link_meaning.specs.laws.Steps.{aligned_from}

-- two offsets after one end are one
pub one_offset : OneOffset
one_offset end align a b p q = omega (arith, p.least b q.aligned q.not_below, q.least a p.aligned p.not_below)

-- a multiple that is less than one step above another isn't above it
no_multiple_between : (step x y : ℕ) → x % step ≡ 0 → y % step ≡ 0 → x < y + step → x ≤ y
no_multiple_between step x y p q below =
    let x_is : x / step * step ≡ x = omega (arith, div-add-mod' x step) in
    let y_is : y / step * step ≡ y = omega (arith, div-add-mod' y step) in
    let up : suc (y / step) * step ≡ y / step * step + step = grind arith in
    let less : x / step < suc (y / step) = lt_of_mul-lt-mul_right step (omega (arith, x_is, y_is, up)) in
    let low : x / step ≤ y / step = omega (arith, less) in
    let le : x / step * step ≤ y / step * step = mul-le (x / step) step (y / step) step low (omega arith) in
    omega (arith, x_is, y_is, le)

padded : (step end : ℕ) → 0 < step → (next_multiple_of end step % step ≡ 0) × (next_multiple_of end step < end + step)
padded step end some = split (end % step) refl
  where
    split : (r : ℕ) → r ≡ end % step → (next_multiple_of end step % step ≡ 0) × (next_multiple_of end step < end + step)
    split zero is =
        let same : step - end % step ≡ step = omega (arith, is) in
        let pad : (step - end % step) % step ≡ 0 = ap (λ (n : ℕ). n % step) same ∙ mod_self step in
        let whole : next_multiple_of end step ≡ end = omega (arith, pad) in
        (ap (λ (n : ℕ). n % step) whole ∙ sym is, omega (arith, whole))
    split (suc k) is =
        let below = mod_below end step some in
        let pad : (step - end % step) % step ≡ step - end % step = mod-eq_of_lt (omega (arith, is, below)) in
        let parts = div-add-mod' end step in
        let whole : next_multiple_of end step ≡ suc (end / step) * step = grind (arith, pad, parts, below) in
        (ap (λ (n : ℕ). n % step) whole ∙ mul-mod_left (suc (end / step)) step, omega (arith, pad, is, below))

-- the stated number is that offset
pub aligned_from-least : (end align : ℕ) → 0 < align → IsOffsetAfter end align (aligned_from align end)
aligned_from-least end align some =
    let both = padded align end some in
    record {
      aligned = both.0;
      not_below = omega arith;
      least = λ other is above. no_multiple_between align (next_multiple_of end align) other both.0 is (omega (arith, both.1, above));
    }

pub alignment-some : (align : ℕ) → 0 < alignment_of align
alignment-some align = grind arith

pub offset_is_least : OffsetIsLeast
unfolding offset_of
offset_is_least list place m =
    aligned_from-least (end_from 0 m.segment.fields.load_name (take (place - 1) list)) (alignment_of m.segment.fields.align) (alignment-some m.segment.fields.align)
